-- What a change makes of the parts of a record.
use Rattle.std.specs.Prelude.{◌≡◌, ◌+◌, ◌≤◌, List, length, Option, None, Result, Ok, Err}
use Rattle.cell_units.specs.declared.limits.TheConstants.{LAID_LIMIT}
use Rattle.cell_units.specs.declared.fault.Fault.{Fault}
use Rattle.cell_units.specs.declared.place.Shift.{Shift}
use Rattle.cell_units.specs.Lawful.{IsAllowed, source_of}
use Rattle.cell_units.specs.Layers.{Source}
use Rattle.cell_units.specs.LineCounts.{TouchesOneRun}
use Rattle.cell_units.specs.Operation.{AddBlock, Operation, RemoveBlock, SetTab, SetWidth, operated}
use Rattle.cell_units.specs.Record.{Record}
use Rattle.cell_units.specs.Touched.{touched}
use Rattle.edit_patch.specs.declared.edit.Edit.{Edit}
use Rattle.display_sheet.specs.declared.sheet.LineSplice.{LineSplice}
use Rattle.display_sheet.specs.Changes.{operation_refusal}
use Rattle.display_sheet.specs.Faults.{IsRefusedAs}
use Rattle.display_sheet.specs.LineSplices.{IsLineSplice}
use Rattle.display_sheet.specs.Sheets.{IsOperated}
use Rattle.display_sheet.specs.Shown.{unstamped}
use Rattle.layered_text.specs.Layered.{IsChanged}
use Rattle.wrapped_lines.specs.Changed.{IsRewrapped}
use Rattle.wrapped_lines.specs.WrappedSource.{WrappedSource}
use Rattle.blocked_rows.specs.Laws.{LeavesBlocks}
use Rattle.block_map.specs.Maps.{BlockState}
use Rattle.blocked_rows.specs.Records.{IsShiftOf, kept_blocks, row_texts}
use Rattle.map_sheet.specs.Kept.{lines_in}

-- the operation changes the text, its inlays or its folds
abbrev pub ChangesText : Operation → Type 0
ChangesText (AddBlock row id side lines) = ⊥
ChangesText (RemoveBlock id) = ⊥
ChangesText (SetTab tab) = ⊥
ChangesText (SetWidth width) = ⊥
ChangesText _ = Unit {0}

-- The text, inlays and folds after such an operation, and the replacement of what is shown that leads to them.
pub record IsTurned (operation : Operation) (r : Record) (source : Source) (shown : Shift) (shift : Option Shift) : Type 0 where
  pub changes : ChangesText operation
  pub allowed : IsAllowed operation r
  pub short : length (operated operation r).text ≤ LAID_LIMIT
  pub shift_is : IsShiftOf operation shift
  pub changed : IsChanged operation (source_of r) source shown

-- The lines of the run are those that the operation touches, and so many are there after it.
pub record IsTouchedRun (operation : Operation) (r : Record) (run : Shift) : Type 0 where
  pub touches : TouchesOneRun (touched operation r) r (operated operation r)
  pub start_is : run.start ≡ touches.front
  pub end_is : run.end ≡ touches.front + touches.before
  pub count_is : run.count ≡ touches.after

-- The text, inlays and folds after an operation, and the lines of that: those of the run make place for others.
pub record IsRelaid (operation : Operation) (r : Record) (source : Source) (lines : WrappedSource) (run : Shift) (rows : List Edit) (shift : Option Shift)
    : Type 0 where
  pub allowed : IsAllowed operation r
  pub short : length (operated operation r).text ≤ LAID_LIMIT
  pub leaves : LeavesBlocks operation
  pub shift_is : IsShiftOf operation shift
  pub source_is : source ≡ source_of (operated operation r)
  pub width_is : (operated operation r).width ≡ r.width
  pub lines_are : IsRewrapped (lines_in r) source (operated operation r).tab lines run rows
  pub touches : IsTouchedRun operation r run
  pub splices : (stamped : Record) → unstamped stamped ≡ r → IsLineSplice operation stamped run.start run.end run.count

-- some operation did so
abbrev pub WasTurned : Record → Source → Shift → Option Shift → Type 0
WasTurned r source shown shift = (operation : Operation) × IsTurned operation r source shown shift

abbrev pub WasRelaid : Record → Source → WrappedSource → Shift → List Edit → Option Shift → Type 0
WasRelaid r source lines run rows shift = (operation : Operation) × IsRelaid operation r source lines run rows shift

-- the operation adds a block or removes one
abbrev pub ChangesBlocks : Operation → Type 0
ChangesBlocks (AddBlock row id side lines) = Unit {0}
ChangesBlocks (RemoveBlock id) = Unit {0}
ChangesBlocks _ = ⊥

-- The blocks after such an operation, between the rows that were there.
pub record IsReblocked (operation : Operation) (r : Record) (blocks : BlockState) : Type 0 where
  pub changes : ChangesBlocks operation
  pub allowed : IsAllowed operation r
  pub blocks_are : blocks ≡ kept_blocks (operated operation r) (row_texts r)

abbrev pub WasReblocked : Record → BlockState → Type 0
WasReblocked r blocks = (operation : Operation) × IsReblocked operation r blocks

-- What comes of an operation: it is done where it isn't refused.
abbrev pub IsMade : Operation → Record → Result (Record × LineSplice) Fault → Type 0
IsMade operation r (Ok made) =
    (operation_refusal r operation ≡ None)
    × IsAllowed operation r
    × IsOperated operation r made.0 made.1
IsMade operation r (Err fault) = IsRefusedAs (operation_refusal r operation) fault
