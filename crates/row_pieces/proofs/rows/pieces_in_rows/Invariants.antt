use Rattle.std.proofs.Common.{◌≡◌, take, flat_map}
use Rattle.cell_units.specs.declared.place.Side.TheVariants.{Above, Below}
use Rattle.plain_rows.specs.Plain.{record_of}
use Rattle.plain_rows.specs.inside.BuiltRows.{AreBefore}
use Rattle.row_pieces.specs.Listed.{lists_of}
use Rattle.row_pieces.specs.Pieces.{pieces_by_line}
use Rattle.row_pieces.proofs.rows.pieces_in_rows.Given as goal

abbrev pub invariant-loop-line : goal.invariant-loop-line
invariant-loop-line l = record {
  rows : lists_of l.rows.items ≡ flat_map (λ rows. rows) (take l.line (pieces_by_line (record_of l.plain)));
  above : AreBefore (record_of l.plain) Above l.above l.line;
  below : AreBefore (record_of l.plain) Below l.below l.line;
}
