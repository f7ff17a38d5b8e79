-- How many rows blocks have, and how many are before lines.
use Rattle.std.specs.Prelude.{ℕ, ◌≡◌, List, length, map, sum_by}
use Rattle.cell_units.specs.Record.{Record}
use Rattle.plain_rows.specs.declared.plain.PlainBlock.{PlainBlock}
use Rattle.plain_rows.specs.inside.SpotRows.{HasFirstRows}
use Rattle.display_sheet.specs.declared.spots.LineCounts.{LineCounts}

abbrev pub rows_of_blocks : List PlainBlock → ℕ
rows_of_blocks blocks = sum_by (λ b. length b.lines.items) blocks

-- of each display line of the record the width at which it is wrapped, and the rows before its text rows
pub record AreCountsOf (r : Record) (counts : LineCounts) : Type 0 where
  pub widths : counts.widths.items ≡ map (λ m. m.width) r.marks
  pub first_rows : HasFirstRows r counts.first_rows.items
