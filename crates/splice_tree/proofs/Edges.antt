-- Where places in gaps go, and inside what is taken out.
use Rattle.std.proofs.Common.{◌≡◌, ℕ, ◌+◌, ◌-◌, ◌<◌, ◌++◌, List, [], ◌∷◌, ap, ◌∙◌, arith}
use Rattle.std.proofs.lemmas.List.Sums.{sum_by-cons}
use Rattle.cell_units.specs.declared.place.Bias.{Bias}
use Rattle.cell_units.specs.declared.place.Bias.TheVariants.{Left, Right}
use Rattle.sum_tree.specs.Firsts.{IsShort, IsReaching}
use Rattle.splice_tree.specs.Splices.{Stretch, to_upper}
use Rattle.splice_tree.specs.Laws.{lower_of, upper_of}
use Rattle.splice_tree.proofs.Carrying.{behind, after, kept, inside_left, inside_right}

short : (bias : Bias) (e x : ℕ) → e < x → IsShort bias x (e + 0)
short Left e x lt = omega arith
short Right e x lt = omega arith

reaching : (bias : Bias) (e x : ℕ) → x < e → IsReaching bias x e
reaching Left e x lt = omega arith
reaching Right e x lt = omega arith

pub skip : (bias : Bias) (before rest : List Stretch) (r : ℕ) → 0 < r → to_upper bias (before ++ rest) (lower_of before + r) ≡ upper_of before + to_upper bias rest r
skip bias [] rest r some =
    let zero : 0 + r ≡ r = omega arith in
    ap (to_upper bias rest) zero ∙ omega arith
skip bias (s ∷ ss) rest r some =
    let low = sum_by-cons (λ (s : Stretch). s.gap + s.old) s ss in
    let up = sum_by-cons (λ (s : Stretch). s.gap + s.new) s ss in
    let x = lower_of (s ∷ ss) + r in
    let there : x - (s.gap + s.old) ≡ lower_of ss + r = omega (arith, low) in
    let next = skip bias ss rest r some in
    after bias s (ss ++ rest) x (behind bias s x 0 (short bias (s.gap + s.old) x (omega (arith, low))))
    ∙ ap (λ y. s.gap + s.new + to_upper bias (ss ++ rest) y) there
    ∙ ap (λ k. s.gap + s.new + k) next
    ∙ omega (arith, up)

pub gaps_are_kept : (bias : Bias) (before rest : List Stretch) (s : Stretch) (r : ℕ) → 0 < r → r < s.gap → to_upper bias (before ++ s ∷ rest) (lower_of before + r) ≡ upper_of before + r
gaps_are_kept bias before rest s r some lt =
    skip bias before (s ∷ rest) r some ∙ ap (λ k. upper_of before + k) (kept bias s rest r (reaching bias (s.gap + s.old) r (omega arith)) (omega arith))

pub inside : (before rest : List Stretch) (s : Stretch) (r : ℕ) → s.gap < r → r < s.gap + s.old
    → (to_upper Left (before ++ s ∷ rest) (lower_of before + r) ≡ upper_of before + s.gap) × (to_upper Right (before ++ s ∷ rest) (lower_of before + r) ≡ upper_of before + (s.gap + s.new))
inside before rest s r some lt = (
  skip Left before (s ∷ rest) r (omega arith) ∙ ap (λ k. upper_of before + k) (inside_left s rest r some lt),
  skip Right before (s ∷ rest) r (omega arith) ∙ ap (λ k. upper_of before + k) (inside_right s rest r some lt),
)
