use Rattle.std.proofs.Common.{◌≡◌}
use Rattle.test_wraps.proofs.items.wrap_at.Given as goal

abbrev pub invariant-loop-run : goal.invariant-loop-run
invariant-loop-run g l = l.map.standing.lines ≡ g.N.Lines.elements_by_line l.lines
