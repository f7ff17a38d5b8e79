use Rattle.std.proofs.Common.{take, flat_map}
use Rattle.cell_units.specs.declared.place.Side.TheVariants.{Above, Below}
use Rattle.plain_rows.specs.Plain.{row_pairs}
use Rattle.plain_rows.specs.Rows.{rows_by_line}
use Rattle.plain_rows.specs.inside.BuiltRows.{AreBefore}
use Rattle.display_sheet.proofs.Windows.{HasKept}
use Rattle.display_sheet.proofs.sheet.Sheet.rows.Given as goal

abbrev pub invariant-loop-line : goal.invariant-loop-line
invariant-loop-line l = record {
  rows : HasKept l.first l.count (row_pairs (flat_map (λ rows. rows) (take l.line (rows_by_line l.self)))) l.window;
  above : AreBefore l.self Above l.above l.line;
  below : AreBefore l.self Below l.below l.line;
}
