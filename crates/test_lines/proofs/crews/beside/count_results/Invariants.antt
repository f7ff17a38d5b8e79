use Rattle.std.proofs.Common.{◌<◌, All}
use Rattle.test_lines.proofs.crews.beside.count_results.Given as goal

abbrev pub invariant-loop-number : goal.invariant-loop-number
invariant-loop-number g l = All (λ job. job.number < l.number) l.crew.out

abbrev pub invariant-loop-2 : goal.invariant-loop-2
invariant-loop-2 g l = All (λ job. job.number < l.jobs) l.crew.out
