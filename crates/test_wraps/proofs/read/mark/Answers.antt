use Rattle.std.proofs.Common.{arith}
use Rattle.wrap_map.proofs.Standings.{shown-few}
use Rattle.test_wraps.proofs.read.mark.Goals as goal

pub mark-requires-after_bounds : goal.mark-requires-after_bounds
mark-requires-after_bounds c κs = omega (arith, c.if-line-lines.false, c.lines.ensures.value, shown-few c.args.shown.now)
