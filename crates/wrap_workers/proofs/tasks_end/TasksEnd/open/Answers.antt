use Rattle.std.proofs.Common.{ap}
use Rattle.wrap_workers.proofs.Posting.{posted_begins}
use Rattle.wrap_workers.proofs.tasks_end.TasksEnd.open.Goals as goal

pub bounded_with-requires-clause-rule : goal.bounded_with-requires-clause-rule
bounded_with-requires-clause-rule g c = posted_begins

pub invariant_of-result : goal.invariant_of-result
invariant_of-result g c =
    let rule = c.settle.ensures.rule in
    (c.in_ok-tasks.ensures.0, c.settle.ensures.channel, ap (λ post. post.crew) rule, (c.results.inside.hand, ap (λ post. post.home) rule))
