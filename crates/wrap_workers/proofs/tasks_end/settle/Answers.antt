use Rattle.std.proofs.Common.{ap}
use Rattle.wrap_workers.proofs.Posting.{settles_named}
use Rattle.wrap_workers.proofs.tasks_end.settle.Goals as goal

pub another-requires-clause-rule : goal.another-requires-clause-rule
another-requires-clause-rule g c =
    settles_named _ _ _ _ c.requires.named (ap (λ v. v.crew) c.requires.first) (ap (λ v. v.home) c.requires.first)
