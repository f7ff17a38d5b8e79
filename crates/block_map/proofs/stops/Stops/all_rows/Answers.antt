use Rattle.std.proofs.Common.{ap, arith}
use Rattle.splice_tree.specs.declared.sides.Sides.{Sides}
use Rattle.block_map.specs.declared.row_count.RowCount.{RowCount}
use Rattle.block_map.specs.Stops.{all_stop_rows}
use Rattle.block_map.proofs.StopPlaces.{sums-are}
use Rattle.block_map.proofs.stops.Stops.all_rows.Goals as goal

pub overflow_sub-result : goal.overflow_sub-result
overflow_sub-result c =
    omega (arith, sums-are 0 c.self.inside.splices c.self.invariant, ap (λ (s : Sides RowCount). s.upper.rows) c.sum-sum.ensures, ap (λ (s : Sides RowCount). s.lower.rows) c.sum-sum.ensures)

pub returns : goal.returns
returns c =
    omega (arith, sums-are 0 c.self.inside.splices c.self.invariant, ap (λ (s : Sides RowCount). s.upper.rows) c.sum-sum.ensures, ap (λ (s : Sides RowCount). s.lower.rows) c.sum-sum.ensures, ap all_stop_rows c.self.view_is)
