use Rattle.cell_line.proofs.RowEnds.{begun}
use Rattle.cell_line.proofs.filling.begin.Goals as goal

pub returns-in_ok-push : goal.returns-in_ok-push
returns-in_ok-push c = λ es room all lt h.
    rw c.in_ok-push.ensures.ok (begun es room c.args.start c.args.at c.args.starts.now.items all lt c.if-start-at.true h)
