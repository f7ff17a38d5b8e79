use Rattle.std.proofs.Common.{◌+◌, List, [], ◌∷◌, ◌++◌, ℕ, sym, ap, ◌∙◌}
use Rattle.std.specs.Prelude.{Option, Some}
use Rattle.test_stages.proofs.Places.{places-more}
use Rattle.test_stages.proofs.carrying.places_from.Goals as goal

pub loop-i-preserved : goal.loop-i-preserved
loop-i-preserved c =
    c.in_ok-push.ensures.items
    ∙ ap (λ (l : List (Option ℕ)). l ++ Some (c.args.first + c.loop-i.i) ∷ []) c.loop-i.invariant
    ∙ sym (places-more c.args.first c.loop-i.i)
