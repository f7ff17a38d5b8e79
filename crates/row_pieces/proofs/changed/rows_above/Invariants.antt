use Rattle.std.proofs.Common.{◌≡◌}
use Rattle.cell_units.specs.declared.place.Side.TheVariants.{Above}
use Rattle.plain_rows.specs.Plain.{record_of}
use Rattle.plain_rows.proofs.SpotBlocks.{stood}
use Rattle.row_pieces.proofs.changed.rows_above.Given as goal

abbrev pub invariant-loop-number : goal.invariant-loop-number
invariant-loop-number l = l.rows ≡ stood (record_of l.plain) Above l.line l.number
