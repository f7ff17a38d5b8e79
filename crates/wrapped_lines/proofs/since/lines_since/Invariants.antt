use Rattle.wrapped_lines.proofs.Between.{IsPassed}
use Rattle.wrapped_lines.proofs.since.lines_since.Given as goal

abbrev pub invariant-loop-k : goal.invariant-loop-k
invariant-loop-k l = IsPassed l.old l.now l.first l.places l.k l.kept l.edits.items
