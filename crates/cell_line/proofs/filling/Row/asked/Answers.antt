use Rattle.std.proofs.Common.{inl, inr, sym, ◌∙◌, arith}
use Rattle.cell_line.proofs.RowEnds.{asked_no, asked_yes}
use Rattle.cell_line.proofs.filling.Row.asked.Goals as goal
use Rattle.cell_line.proofs.filling.Row.asked.Goals.{else-self-at-via-then-self-at+else-may_end, else-self-at-via-else-self-at}

pub returns-then-may_end-clause-asked : goal.returns-then-may_end-clause-asked
returns-then-may_end-clause-asked c = λ es room m h parts.
    asked_yes es room c.args.lead c.args.at c.args.self c.args.mark c.args.parts m h parts c.if-self-at.true (sym c.may_end.ensures ∙ c.if-may_end.true)

pub returns-clause-asked : goal.returns-clause-asked
returns-clause-asked c = λ es room m h parts.
    asked_no es room c.args.lead c.args.at c.args.self c.args.mark c.args.parts m h parts
    (elim c.else-self-at.branch [
      | else-self-at-via-then-self-at+else-may_end w ↦ inr (sym w.may_end.ensures ∙ w.if-may_end.false)
      | else-self-at-via-else-self-at w ↦ inl (omega (arith, w.if-self-at.false))
    ])
