use Rattle.std.proofs.Common.{◌≤◌}
use Rattle.bench_wraps.proofs.looks.cuts.Given as goal

abbrev pub invariant-loop-cuts : goal.invariant-loop-cuts
invariant-loop-cuts l = (goal.iterator-loop-cuts).can_next l.cuts-iterator × (goal.iterator-loop-cuts).is_finite l.cuts-iterator

abbrev pub invariant-loop : goal.invariant-loop
invariant-loop l = l.first ≤ l.lines
