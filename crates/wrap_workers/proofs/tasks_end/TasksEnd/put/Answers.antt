use Rattle.std.proofs.Common.{sym, subst}
use Rattle.wrap_workers.specs.Posted.{IsNext, IsTaskAt}
use Rattle.wrap_workers.proofs.Posting.{puts}
use Rattle.wrap_workers.proofs.tasks_end.TasksEnd.put.Goals as goal

pub send_as-requires-clause-rule : goal.send_as-requires-clause-rule
send_as-requires-clause-rule g c =
    let i = c.self.invariant in
    let home = subst (λ end. IsTaskAt end.post.home c.args.task) (sym c.self.view_is) c.requires.home in
    let next = subst (λ end. IsNext end.post.next c.args.task) (sym c.self.view_is) c.requires.next in
    (puts _ _ _ _ i.3.0 i.2 i.3.1 home next, λ items views _ _. tt)
