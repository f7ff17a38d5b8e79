-- Where places go once others take the place of a run of splices.
use Rattle.std.proofs.Common.{◌≡◌, ℕ, ◌+◌, ◌-◌, ◌<◌, ◌&&◌, ◌++◌, Bool, true, false, cond, nat_le, nat_lt, List, [], ◌∷◌, refl, sym, ap, ◌∙◌, arith}
use Rattle.std.proofs.lemmas.Bool.Decides.{nat_tests}
use Rattle.std.proofs.lemmas.List.Sums.{sum_by-cons}
use Rattle.cell_units.specs.declared.place.Bias.{Bias}
use Rattle.cell_units.specs.declared.place.Bias.TheVariants.{Left, Right}
use Rattle.splice_tree.specs.Splices.{Stretch, stretch, to_upper, is_behind, kept_or_edge}
use Rattle.splice_tree.specs.Laws.{lower_of, upper_of}
use Rattle.splice_tree.proofs.Carrying.{after, at}
use Rattle.splice_tree.proofs.Edges.{skip}
use Rattle.splice_tree.proofs.LawProofs.{end_reached}

pub before_stays : (bias : Bias) (before run other : List Stretch) (x : ℕ) → x < lower_of before → to_upper bias (before ++ other) x ≡ to_upper bias (before ++ run) x
before_stays bias [] run other x lt = absurd (omega (arith, lt))
before_stays bias (s ∷ ss) run other x lt = go (λ y less. before_stays bias ss run other y less) (is_behind bias s x) refl where
  go : ((y : ℕ) → y < lower_of ss → to_upper bias (ss ++ other) y ≡ to_upper bias (ss ++ run) y) → (b : Bool) → is_behind bias s x ≡ b
      → to_upper bias (s ∷ ss ++ other) x ≡ to_upper bias (s ∷ ss ++ run) x
  go rest true is =
      let low = sum_by-cons (λ (s : Stretch). s.gap + s.old) s ss in
      let further : x - (s.gap + s.old) < lower_of ss = omega (arith, lt, low, end_reached bias s x is) in
      after bias s (ss ++ other) x is
      ∙ ap (λ k. s.gap + s.new + k) (rest (x - (s.gap + s.old)) further)
      ∙ sym (after bias s (ss ++ run) x is)
  go rest false is = at bias s (ss ++ other) x is ∙ sym (at bias s (ss ++ run) x is)

pub behind_moves : (bias : Bias) (run other after : List Stretch) (x : ℕ) → 0 < x
    → to_upper bias (other ++ after) (lower_of other + x) + upper_of run ≡ to_upper bias (run ++ after) (lower_of run + x) + upper_of other
behind_moves bias run other after x some = omega (arith, skip bias run after x some, skip bias other after x some)

-- ---- a wider gap

less-same : (m n d : ℕ) → nat_lt (m + d) (n + d) ≡ nat_lt m n
less-same m n d = grind (arith, nat_tests)

at_most-same : (m n d : ℕ) → nat_le (m + d) (n + d) ≡ nat_le m n
at_most-same m n d = grind (arith, nat_tests)

test-same : (bias : Bias) (s : Stretch) (d x : ℕ) → is_behind bias (stretch (s.gap + d) s.old s.new) (x + d) ≡ is_behind bias s x
test-same Left s d x =
    let end : s.gap + d + s.old ≡ s.gap + s.old + d = omega arith in
    (λ i. less-same s.gap x d i && (ap (λ k. nat_le k (x + d)) end ∙ at_most-same (s.gap + s.old) x d) i)
test-same Right s d x =
    let end : s.gap + d + s.old ≡ s.gap + s.old + d = omega arith in
    ap (λ k. nat_le k (x + d)) end ∙ at_most-same (s.gap + s.old) x d

edge-moves : (bias : Bias) (s : Stretch) (d x : ℕ) → kept_or_edge bias (stretch (s.gap + d) s.old s.new) (x + d) ≡ kept_or_edge bias s x + d
edge-moves Left s d x = omega arith
edge-moves Right s d x = ap (λ b. cond b (x + d) (s.gap + d + s.new)) (at_most-same x s.gap d) ∙ go (nat_le x s.gap) where
  go : (b : Bool) → cond b (x + d) (s.gap + d + s.new) ≡ cond b x (s.gap + s.new) + d
  go true = refl
  go false = omega arith

pub wider_gap_moves : (bias : Bias) (s : Stretch) (rest : List Stretch) (d x : ℕ) → to_upper bias (stretch (s.gap + d) s.old s.new ∷ rest) (x + d) ≡ to_upper bias (s ∷ rest) x + d
wider_gap_moves bias s rest d x = go (is_behind bias s x) refl where
  go : (b : Bool) → is_behind bias s x ≡ b → to_upper bias (stretch (s.gap + d) s.old s.new ∷ rest) (x + d) ≡ to_upper bias (s ∷ rest) x + d
  go true is =
      let past : x + d - (s.gap + d + s.old) ≡ x - (s.gap + s.old) = omega arith in
      after bias (stretch (s.gap + d) s.old s.new) rest (x + d) (test-same bias s d x ∙ is)
      ∙ ap (λ k. s.gap + d + s.new + to_upper bias rest k) past
      ∙ omega (arith, after bias s rest x is)
  go false is =
      at bias (stretch (s.gap + d) s.old s.new) rest (x + d) (test-same bias s d x ∙ is)
      ∙ edge-moves bias s d x
      ∙ ap (λ k. k + d) (sym (at bias s rest x is))
