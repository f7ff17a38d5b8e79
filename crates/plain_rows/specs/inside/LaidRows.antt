-- The record of which the display lines are laid out.
use Rattle.cell_units.specs.Record.{Record}
use Rattle.plain_rows.specs.declared.spots.laid_rows.LaidRows.TheInside.{Inside}
use Rattle.plain_rows.specs.FoldedLines.{seen}
use Rattle.plain_rows.specs.Plain.{listed_record}
use Rattle.plain_rows.specs.inside.SpotRows.{IsLaid}

abbrev pub record_in : Inside → Record
record_in rows = listed_record (seen rows.source) rows.blocks.now rows.tab rows.width rows.widths.now

abbrev pub KeepsRows : Inside → Type 0
KeepsRows rows = IsLaid (record_in rows) rows.lines.now rows.first_rows.now
