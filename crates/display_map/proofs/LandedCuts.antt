-- The lines of a job are the present lines that have its stamps.
use Rattle.std.proofs.Common.{◌≡◌, ℕ, ◌+◌, ◌<◌, ◌≤◌, zero, suc, List, [], ◌∷◌, length, take, drop, get_or, refl, sym, subst, ◌∙◌, arith}
use Rattle.std.specs.Prelude.{Option, Some, None}
use Rattle.std.proofs.lemmas.List.{drop_more}
use Rattle.cell_line.specs.declared.element.Element.{Element}
use Rattle.display_map.specs.Identity.{AreSameLines}
use Rattle.display_map.specs.Outs.{AreAt}
use Rattle.kept_sheet.specs.Kept.{AreLinesAt}

-- stamps and elements of some lines of a record
abbrev pub AreFrom : List ℕ → List (List Element) → List ℕ → List (List Element) → Type 0
AreFrom stamps lines [] [] = Unit {0}
AreFrom stamps lines (v ∷ vs) (e ∷ es) =
    ((j : ℕ) × (j < length stamps) × (get_or stamps j 0 ≡ v) × (get_or lines j [] ≡ e)) × AreFrom stamps lines vs es
AreFrom stamps lines _ _ = ⊥

-- those of a run are
pub run-from : (stamps : List ℕ) (lines : List (List Element)) (first count : ℕ) → length stamps ≡ length lines → first + count ≤ length stamps →
    AreFrom stamps lines (take count (drop first stamps)) (take count (drop first lines))
run-from stamps lines first zero long within = tt
run-from stamps lines first (suc n) long within =
    let here : drop first stamps ≡ get_or stamps first 0 ∷ drop (first + 1) stamps = drop_more stamps first 0 (omega (arith, within)) in
    let here' : drop first lines ≡ get_or lines first [] ∷ drop (first + 1) lines = drop_more lines first [] (omega (arith, within, long)) in
    let whole : AreFrom stamps lines (take (suc n) (get_or stamps first 0 ∷ drop (first + 1) stamps)) (take (suc n) (get_or lines first [] ∷ drop (first + 1) lines)) =
    ((first, omega (arith, within), refl, refl), run-from stamps lines (first + 1) n long (omega (arith, within))) in
    subst (λ (l : List ℕ). AreFrom stamps lines (take (suc n) l) (take (suc n) (drop first lines))) (sym here)
    (subst (λ (l : List (List Element)). AreFrom stamps lines (take (suc n) (get_or stamps first 0 ∷ drop (first + 1) stamps)) (take (suc n) l)) (sym here') whole)

module _ (S0 : List ℕ) (E0 : List (List Element)) (S : List ℕ) (E : List (List Element)) (same : AreSameLines S0 E0 S E) (long : length S ≡ length E) where
  pub lines-at : (vs : List ℕ) (es : List (List Element)) (places : List (Option ℕ)) → AreFrom S0 E0 vs es → AreAt S vs places →
      AreLinesAt E places es
  lines-at [] [] [] a b = tt
  lines-at [] [] (p ∷ places) a b = absurd b
  lines-at [] (e ∷ es) places a b = absurd a
  lines-at (v ∷ vs) [] places a b = absurd a
  lines-at (v ∷ vs) (e ∷ es) [] a b = absurd b
  lines-at (v ∷ vs) (e ∷ es) (None ∷ places) a b = lines-at vs es places a.1 b.1
  lines-at (v ∷ vs) (e ∷ es) (Some k ∷ places) a b =
      let j = a.0.0 in
      let elements : e ≡ get_or E k [] = sym a.0.3 ∙ same j k a.0.1 b.0.0 (a.0.2 ∙ sym b.0.1) in
      (omega (arith, b.0.0, long), elements, lines-at vs es places a.1 b.1)
