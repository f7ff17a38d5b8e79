use Rattle.std.proofs.Common.{◌≡◌, ℕ, ◌+◌, zero, suc, List, [], ◌∷◌, ◌++◌, sym, ap, ◌∙◌, arith}
use Rattle.std.specs.Prelude.{Option, Some}
use Rattle.display_map.specs.Outs.{some_places}
use Rattle.display_map.proofs.outs.Out.new.Goals as goal

places-more : (first n : ℕ) → some_places first (n + 1) ≡ some_places first n ++ Some (first + n) ∷ []
places-more first zero = ap (λ (k : ℕ). Some k ∷ []) (omega arith)
places-more first (suc n) =
    let more : suc n + 1 ≡ suc (n + 1) = omega arith in
    let last : first + 1 + n ≡ first + suc n = omega arith in
    ap (some_places first) more
    ∙ ap (λ (l : List (Option ℕ)). Some first ∷ l) (places-more (first + 1) n)
    ∙ ap (λ (k : ℕ). Some first ∷ (some_places (first + 1) n ++ Some k ∷ [])) last

pub loop-i-preserved : goal.loop-i-preserved
loop-i-preserved c =
    c.in_ok-push.ensures.items
    ∙ ap (λ (l : List (Option ℕ)). l ++ Some (c.args.first + c.loop-i.i) ∷ []) c.loop-i.invariant
    ∙ sym (places-more c.args.first c.loop-i.i)
