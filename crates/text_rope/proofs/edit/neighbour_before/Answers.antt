use Rattle.std.proofs.Common.{List, ℕ, sym, subst, ◌-◌, arith}
use Rattle.text_rope.specs.Edits.{IsNeighbourBefore}
use Rattle.text_rope.proofs.Renewals.{some_before}
use Rattle.text_rope.proofs.edit.neighbour_before.Goals as goal

pub returns-clause-found : goal.returns-clause-found
returns-clause-found c =
    let chunks = c.args.chunks.now in
    subst (λ (t : List ℕ). IsNeighbourBefore chunks c.args.at (c.args.at - 1) t) (sym c.text_at.ensures.text) (some_before chunks c.args.at c.requires.rope (omega (arith, c.if-at-eq0.false)) c.requires.within)
