use Rattle.std.proofs.Common.{◌<◌, ℕ, List, ap, sym, subst, ◌∙◌, arith}
use Rattle.std.specs.List.{All}
use Rattle.display_map.specs.OutRuns.{is_in}
use Rattle.display_map.proofs.OutRuns.{out-below}
use Rattle.display_map.proofs.outs.runs_out.Goals as goal

pub joined-requires-clause-small : goal.joined-requires-clause-small
joined-requires-clause-small c =
    let all = subst (λ (xs : List ℕ). All (λ a. a < c.args.total) xs) (sym c.in_ok-lines.ensures) (out-below c.args.total c.args.width c.args.outs.now c.requires) in
    let below = c.put_in_order.ensures.within c.args.total all in
    subst (λ (xs : List ℕ). All (λ a. a < 4294967295) xs) (sym c.as_slice.ensures.value) (λ k d lt. omega (arith, below k d lt))

pub returns-clause-same : goal.returns-clause-same
returns-clause-same c =
    λ line.
    c.in_ok-joined.ensures.same line
    ∙ ap (is_in line) c.as_slice.ensures.value
    ∙ c.put_in_order.ensures.same line
    ∙ ap (is_in line) c.in_ok-lines.ensures
