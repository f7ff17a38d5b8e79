-- What an operation makes of a text with its inlays and folds.
use Rattle.std.specs.Prelude.{◌≡◌, Some}
use Rattle.cell_units.specs.declared.place.Shift.{Shift}
use Rattle.cell_units.specs.Lawful.{source_of}
use Rattle.cell_units.specs.Layers.{Source}
use Rattle.cell_units.specs.Operation.{Operation, operated}
use Rattle.cell_units.specs.Record.{Record, opened}
use Rattle.cell_units.specs.Touched.{touched}
use Rattle.tab_map.specs.TabLines.{LinesFollow}
use Rattle.folded_text.specs.Answered.{MeetsTouched}

-- the record of this source that has no blocks, and its other parts as those of a text that was just opened
abbrev pub record_of : Source → Record
record_of s = let r = opened s.text in record r { inlays = s.inlays; folds = s.folds }

-- the source after an operation on any record of this source
abbrev pub source_after : Operation → Source → Source
source_after operation s = source_of (operated operation (record_of s))

-- The source after the operation, and the replacement of what is shown that leads to it. It meets exactly the lines
-- that are touched, before it and after it, and all other lines have pieces of the same texts.
pub record IsChanged (operation : Operation) (old new : Source) (shown : Shift) : Type 0 where
  pub made : new ≡ source_after operation old
  pub meets : (r : Record) → source_of r ≡ old → MeetsTouched (touched operation r) r (operated operation r) (Some shown)
  pub follow : LinesFollow old new (Some shown)
