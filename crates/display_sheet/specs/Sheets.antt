-- A record as a display keeps it, and what an operation makes of it.
use Rattle.std.specs.Prelude.{ℕ, ◌≡◌, ◌+◌, ◌≤◌, List, length, map, zip}
use Rattle.std.specs.Arc.{arc_value}
use Rattle.cell_units.specs.Record.{Block, Record}
use Rattle.cell_units.specs.Operation.{Operation, operated}
use Rattle.cell_units.specs.Touched.{NoLine, Rows, row_range, touched}
use Rattle.cell_units.specs.Layers.{Source}
use Rattle.cell_units.specs.Lawful.{IsAllowed, IsLawful, source_of}
use Rattle.cell_line.specs.declared.element.Element.{Element}
use Rattle.cell_line.specs.Wrapping.{cuts_of}
use Rattle.plain_rows.specs.Plain.{block_of, fold_of, inlay_of, marks_of}
use Rattle.plain_rows.specs.FoldedLines.{AreLinesOf, LaidOut}
use Rattle.plain_rows.specs.Rows.{line_elements}
use Rattle.display_sheet.specs.declared.sheet.Draft.{Draft}
use Rattle.display_sheet.specs.declared.sheet.LineSplice.{LineSplice}
use Rattle.display_sheet.specs.declared.sheet.Reach.{Reach}
use Rattle.display_sheet.specs.declared.sheet.Sheet.TheInside.{Inside}
use Rattle.display_sheet.specs.declared.wraps.Wrapped.{Wrapped}
use Rattle.display_sheet.specs.LineSplices.{IsLineSplice}
use Rattle.display_sheet.specs.LineStep.{line_step}
use Rattle.display_sheet.specs.Shown.{unstamped}

abbrev pub marks_in : List Wrapped → List ℕ
marks_in wraps = map (λ w. w.mark) wraps

-- the record that a sheet keeps
abbrev pub record_in : Inside → Record
record_in s = record {
  text = arc_value s.text;
  inlays = map inlay_of (arc_value s.inlays).items;
  folds = map fold_of (arc_value s.folds).items;
  blocks = map block_of (arc_value s.blocks).items;
  tab = s.tab;
  width = s.width;
  marks = marks_of (marks_in (arc_value s.wraps));
  next_stamp = length (marks_in (arc_value s.wraps));
}

-- of each line how many rows it has at its width
abbrev pub row_counts : List (List Element) → List ℕ → List ℕ
row_counts elements widths = map (λ p. length (cuts_of p.0 p.1) + 1) (zip elements widths)

-- the record is lawful, its display lines are laid out, and of each line the number of its rows is kept
pub record IsSheet (r : Record) (wraps : List Wrapped) (laid : LaidOut) : Type 0 where
  pub lawful : IsLawful r
  pub laid_out : AreLinesOf (source_of r) laid
  pub rows_are : map (λ w. w.rows) wraps ≡ row_counts (line_elements r) (marks_in wraps)

abbrev pub KeepsSheet : Inside → Type 0
KeepsSheet s = IsSheet (record_in s) (arc_value s.wraps) (arc_value s.lines)

-- what an operation makes of a record, whatever its stamps are: the lines that it splices, and the record after it
abbrev pub IsOperated : Operation → Record → Record → LineSplice → Type 0
IsOperated operation r after splice =
    (stamped : Record) → unstamped stamped ≡ r →
    IsLineSplice operation stamped splice.first splice.end splice.count
    × (unstamped (line_step operation stamped) ≡ after)

-- the lists are those after the operation, which touches the rows from the start to the end of each reach
pub record IsDraft (operation : Operation) (r : Record) (draft : Draft) (before after : Reach)
    : Type 0 where
  pub allowed : IsAllowed operation r
  pub touches :
      touched operation r
      ≡ Rows (row_range r.text before.start before.end)
      (row_range (operated operation r).text after.start after.end)
  pub order : (before.start ≤ before.end) × (before.end ≤ length r.text)
  pub order_after :
      (after.start ≤ after.end) × (after.end ≤ length (operated operation r).text)
  pub text_is : (operated operation r).text ≡ arc_value draft.text
  pub inlays_are : (operated operation r).inlays ≡ map inlay_of (arc_value draft.inlays).items
  pub folds_are : (operated operation r).folds ≡ map fold_of (arc_value draft.folds).items
  pub blocks_are : (operated operation r).blocks ≡ map block_of (arc_value draft.blocks).items
  pub tab_is : (operated operation r).tab ≡ r.tab
  pub width_is : (operated operation r).width ≡ r.width

-- the lists are those of the record
pub record IsDraftOf (r : Record) (draft : Draft) : Type 0 where
  pub text_is : arc_value draft.text ≡ r.text
  pub inlays_are : map inlay_of (arc_value draft.inlays).items ≡ r.inlays
  pub folds_are : map fold_of (arc_value draft.folds).items ≡ r.folds
  pub blocks_are : map block_of (arc_value draft.blocks).items ≡ r.blocks

-- what of the lists is shown
abbrev pub draft_source : Draft → Source
draft_source draft = record {
  text = arc_value draft.text;
  inlays = map inlay_of (arc_value draft.inlays).items;
  folds = map fold_of (arc_value draft.folds).items;
}

-- an operation on blocks alone, which leaves these
pub record IsBlockChange (operation : Operation) (r : Record) (blocks : List Block) : Type 0 where
  pub allowed : IsAllowed operation r
  pub touches_none : (stamped : Record) → touched operation stamped ≡ NoLine
  pub leaves :
      (stamped : Record) →
      operated operation stamped ≡ record stamped { blocks = (operated operation stamped).blocks }
  pub blocks_are : (operated operation r).blocks ≡ blocks
