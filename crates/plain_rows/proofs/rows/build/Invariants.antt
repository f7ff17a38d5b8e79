use Rattle.std.proofs.Common.{◌≡◌, take, flat_map}
use Rattle.cell_units.specs.declared.place.Side.TheVariants.{Above, Below}
use Rattle.plain_rows.specs.Plain.{record_of, row_pairs}
use Rattle.plain_rows.specs.Rows.{rows_by_line}
use Rattle.plain_rows.specs.inside.BuiltRows.{AreBefore}
use Rattle.plain_rows.proofs.rows.build.Given as goal

abbrev pub invariant-loop-line : goal.invariant-loop-line
invariant-loop-line l = record {
  rows : l.rows.items ≡ row_pairs (flat_map (λ rows. rows) (take l.line (rows_by_line (record_of l.plain))));
  above : AreBefore (record_of l.plain) Above l.above l.line;
  below : AreBefore (record_of l.plain) Below l.below l.line;
}
