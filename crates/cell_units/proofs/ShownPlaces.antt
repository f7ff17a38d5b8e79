-- The places of a layer don't fall as the offset rises.
use Rattle.std.proofs.Common.{◌≡◌, ℕ, ◌+◌, ◌-◌, ◌<◌, ◌≤◌, suc, zero, Bool, true, false, cond, List, [], ◌∷◌, ◌++◌, length, take, drop, get_or, sym, ap, ◌∙◌, subst, arith, append-nil, append_assoc}
use Rattle.std.proofs.lemmas.List.{take_at, take_more, take-append-drop, length_push, length-take-le}
use Rattle.cell_units.specs.declared.place.Bias.{Bias}
use Rattle.cell_units.specs.declared.place.Bias.TheVariants.{Left, Right}
use Rattle.cell_units.specs.Inlaid.{Token, Byte, Hidden, inlays_at, show_each}
use Rattle.cell_units.specs.Folded.{inside, covered, shown, folded_before}
use Rattle.cell_units.specs.Layers.{Source, place_of, shown_text}
use Rattle.cell_units.proofs.ShownText.{show_each-append, size, size-append}

size-take-le : (n : ℕ) (xs : List Token) → size (take n xs) ≤ size xs
size-take-le n xs = omega (arith, size-append (take n xs) (drop n xs), ap size (take-append-drop n xs))

size-nil : (xs : List Token) → size (xs ++ []) ≡ size xs
size-nil xs = ap size (append-nil xs)

-- what is before the last token
size-front : (xs : List Token) (x : Token) → size (take (length (xs ++ x ∷ []) - 1) (xs ++ x ∷ [])) ≡ size xs
size-front xs x = ap size (take_at xs (x ∷ []) (length (xs ++ x ∷ []) - 1) (omega (arith, length_push xs x)))

-- the places of an offset, from what is before it, whether a fold reaches over it, and the inlays at it
abbrev left : Bool → List Token → ℕ
left i before = size (cond i (take (length before - 1) before) before)

abbrev right : Bool → List Token → List Token → ℕ
right i before here = size (cond i before (before ++ here))

-- one offset on
abbrev next : Bool → List Token → List Token → Token → List Token
next i before here own = before ++ cond i [] (here ++ own ∷ [])

front_next : (before here : List Token) (own : Token) → size (take (length (next false before here own) - 1) (next false before here own)) ≡ size before + size here
front_next before here own =
    ap (λ (l : List Token). size (take (length l - 1) l)) (sym (append_assoc before here (own ∷ [])))
    ∙ size-front (before ++ here) own
    ∙ size-append before here

size_next : (before here : List Token) (own : Token) → size before + size here ≤ size (next false before here own)
size_next before here own = omega (arith, size-append before (here ++ own ∷ []), size-append here (own ∷ []))

left_right : (i : Bool) (before here : List Token) → left i before ≤ right i before here
left_right true before here = size-take-le (length before - 1) before
left_right false before here = omega (arith, size-append before here)

left_left : (i j : Bool) (before here : List Token) (own : Token) → left i before ≤ left j (next i before here own)
left_left true true before here own = omega (arith, ap (λ (l : List Token). size (take (length l - 1) l)) (append-nil before))
left_left true false before here own = omega (arith, size-nil before, size-take-le (length before - 1) before)
left_left false true before here own = omega (arith, front_next before here own)
left_left false false before here own = omega (arith, size_next before here own)

right_right : (i j : Bool) (before here there : List Token) (own : Token) → right i before here ≤ right j (next i before here own) there
right_right true true before here there own = omega (arith, size-nil before)
right_right true false before here there own = omega (arith, size-nil before, size-append (next true before here own) there)
right_right false true before here there own = omega (arith, size_next before here own, size-append before here)
right_right false false before here there own = omega (arith, size_next before here own, size-append before here, size-append (next false before here own) there)

module _ (s : Source) where
  abbrev before : ℕ → List Token
  before o = folded_before s.text s.inlays s.folds o

  abbrev own : ℕ → Token
  own o = cond (covered s.folds o) (Hidden o) (Byte o (get_or s.text o 0))

  before_more : (o : ℕ) → o < length s.text → before (o + 1) ≡ next (inside s.folds o) (before o) (inlays_at s.inlays o) (own o)
  before_more o lt =
      let g = shown s.inlays s.folds in
      let at : 0 + length (take o s.text) ≡ o = omega (arith, length-take-le o s.text (omega arith)) in
      ap (show_each g 0) (take_more s.text o 0 lt)
      ∙ show_each-append g 0 (take o s.text) (get_or s.text o 0 ∷ [])
      ∙ (λ i. show_each g 0 (take o s.text) ++ append-nil (g (at i) (get_or s.text o 0)) i)

  pub places-left_first : (o : ℕ) → place_of s o Left ≤ place_of s o Right
  places-left_first o = left_right (inside s.folds o) (before o) (inlays_at s.inlays o)

  one_on : (o : ℕ) (bias : Bias) → o < length s.text → place_of s o bias ≤ place_of s (o + 1) bias
  one_on o Left lt =
      subst (λ (l : List Token). place_of s o Left ≤ left (inside s.folds (o + 1)) l) (sym (before_more o lt))
      (left_left (inside s.folds o) (inside s.folds (o + 1)) (before o) (inlays_at s.inlays o) (own o))
  one_on o Right lt =
      subst (λ (l : List Token). place_of s o Right ≤ right (inside s.folds (o + 1)) l (inlays_at s.inlays (o + 1))) (sym (before_more o lt))
      (right_right (inside s.folds o) (inside s.folds (o + 1)) (before o) (inlays_at s.inlays o) (inlays_at s.inlays (o + 1)) (own o))

  further : (k o : ℕ) (bias : Bias) → o + k ≤ length s.text → place_of s o bias ≤ place_of s (o + k) bias
  further zero o bias le =
      let here : o ≡ o + 0 = omega arith in
      subst (λ (p : ℕ). place_of s o bias ≤ place_of s p bias) here (omega arith)
  further (suc k) o bias le =
      let there : o + k + 1 ≡ o + suc k = omega arith in
      let rest = further k o bias (omega arith) in
      let last = one_on (o + k) bias (omega arith) in
      subst (λ (p : ℕ). place_of s o bias ≤ place_of s p bias) there (omega (arith, rest, last))

  -- for each bias the places don't fall
  pub places-rise : (o p : ℕ) (bias : Bias) → o ≤ p → p ≤ length s.text → place_of s o bias ≤ place_of s p bias
  places-rise o p bias le within =
      let there : o + (p - o) ≡ p = omega arith in
      subst (λ (q : ℕ). place_of s o bias ≤ place_of s q bias) there (further (p - o) o bias (omega arith))

  -- a place is in the text
  pub place-le : (o : ℕ) (bias : Bias) → o ≤ length s.text → place_of s o bias ≤ length (shown_text s)
  place-le o Left le = omega (arith, places-left_first o, places-rise o (length s.text) Right le (omega arith))
  place-le o Right le = places-rise o (length s.text) Right le (omega arith)
