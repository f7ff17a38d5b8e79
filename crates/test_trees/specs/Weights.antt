-- What the sum of a list says of each of its items.
use Rattle.std.specs.Prelude.{◌≡◌, ℕ, ◌+◌, ◌||◌, nat_le, false, List, [], ◌∷◌, refl}
use Rattle.std.specs.List.{list_any}
use Rattle.std.proofs.Common.{ap, ◌∙◌, arith}
use Rattle.std.proofs.lemmas.Bool.Decides.{nat_tests}
use Rattle.sum_core.specs.Sums.{total}

light-first : (w n x s t : ℕ) → n ≡ s + t → s ≡ x → nat_le w n ≡ false → nat_le w x ≡ false
light-first w n x s t whole first light = grind (arith, nat_tests)

light-rest : (w n s t : ℕ) → n ≡ s + t → nat_le w n ≡ false → nat_le w t ≡ false
light-rest w n s t whole light = grind (arith, nat_tests)

-- where all together are lighter, each is
pub all-lighter : {X S : Type 0} (empty : S) (joined : S → S → S) (summary : X → S) (number : S → ℕ) (weight : X → ℕ)
    → ((a b : S) → number (joined a b) ≡ number a + number b) → ((x : X) → number (summary x) ≡ weight x)
    → (w : ℕ) (xs : List X) → nat_le w (number (total empty joined summary xs)) ≡ false → list_any (λ x. nat_le w (weight x)) xs ≡ false
all-lighter empty joined summary number weight adds of w [] light = refl
all-lighter empty joined summary number weight adds of w (x ∷ xs) light =
    let rest = total empty joined summary xs in
    let whole = adds (summary x) rest in
    ap (λ b. b || list_any (λ y. nat_le w (weight y)) xs)
    (light-first w (number (joined (summary x) rest)) (weight x) (number (summary x)) (number rest) whole (of x) light)
    ∙ all-lighter empty joined summary number weight adds of w xs
    (light-rest w (number (joined (summary x) rest)) (number (summary x)) (number rest) whole light)
