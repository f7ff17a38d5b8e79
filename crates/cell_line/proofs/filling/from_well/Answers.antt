use Rattle.cell_line.proofs.RowEnds.{turn_not, turn_well}
use Rattle.cell_line.proofs.filling.from_well.Goals as goal

pub returns-in_default-clause-turned : goal.returns-in_default-clause-turned
returns-in_default-clause-turned c = λ es room lead at mark all m h over done.
    (turn_not es room lead at c.args.row mark m h over c.in_default.is, done)

pub returns-clause-turned : goal.returns-clause-turned
returns-clause-turned c = λ es room lead at mark all m h over done.
    let t = turn_well es room lead at c.args.row mark c.in-Some.well c.args.starts.now.items all m h over c.in-Some.is done in
    (t.0, rw c.in_ok-push.ensures.ok t.1)
