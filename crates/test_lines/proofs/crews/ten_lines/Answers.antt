use Rattle.std.proofs.Common.{inr, arith}
use Rattle.std.specs.Prelude.{codes}
use Rattle.test_lines.proofs.SameLines.{same_fit}
use Rattle.test_lines.proofs.crews.ten_lines.Goals as goal

pub job-requires : goal.job-requires
job-requires c = (
  same_fit (codes "aaa bbb") 10 (omega arith) (omega arith) c.line_laws.ensures.bounds,
  (omega arith, omega arith, omega arith),
  inr (omega arith, omega arith),
)
