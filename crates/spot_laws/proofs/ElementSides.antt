-- The start and the end of the element that a byte is inside, found by steps of one byte.
use Rattle.std.proofs.Common.{◌≡◌, ℕ, ◌+◌, ◌-◌, ◌<◌, ◌≤◌, eqb, ltb, Bool, true, false, cond, not, ◌&&◌, ◌||◌, List, [], ◌∷◌, suc, length, refl, sym, ap, ◌∙◌, subst, inl, inr, ◌⊎◌, arith}
use Rattle.std.proofs.lemmas.Bool.{cases_lt, false≢true}
use Rattle.std.proofs.lemmas.Bool.Decides.{nat_tests}
use Rattle.cell_units.specs.declared.place.Bias.{Bias}
use Rattle.cell_units.specs.declared.place.Bias.TheVariants.{Left, Right}
use Rattle.cell_line.specs.declared.element.Element.{Element}
use Rattle.plain_rows.specs.Spots.{elements_before, is_within}

abbrev pub start_of : List Element → ℕ → ℕ
start_of [] a = 0
start_of (e ∷ es) a = cond (eqb a 0) 0 (cond (ltb a (length e.text)) 0 (length e.text + start_of es (a - length e.text)))

abbrev pub end_of : List Element → ℕ → ℕ
end_of [] a = 0
end_of (e ∷ es) a = cond (eqb a 0) 0 (cond (ltb a (length e.text)) (length e.text) (length e.text + end_of es (a - length e.text)))

-- each element has a byte
abbrev pub HaveBytes : List Element → Type 0
HaveBytes [] = Unit {0}
HaveBytes (e ∷ es) = (0 < length e.text) × HaveBytes es

-- the element and the elements after it, of which the byte is inside one
within_cases : (e : Element) (es : List Element) (a : ℕ) → is_within (e ∷ es) a ≡ true →
    (0 < a) × ((a < length e.text) ⊎ ((length e.text ≤ a) × (is_within es (a - length e.text) ≡ true)))
within_cases e es a h = go (is_within es (a - length e.text)) refl (cases_lt a (length e.text)) h where
  go : (w : Bool) → is_within es (a - length e.text) ≡ w → (a < length e.text) ⊎ (length e.text ≤ a) → (not (eqb a 0) && (ltb a (length e.text) || w)) ≡ true →
      (0 < a) × ((a < length e.text) ⊎ ((length e.text ≤ a) × (is_within es (a - length e.text) ≡ true)))
  go w k (inl l) h = (grind (arith, nat_tests, h), inl l)
  go true k (inr l) h = (grind (arith, nat_tests, h), inr (l, k))
  go false k (inr l) h = absurd (grind (arith, nat_tests, h, l))

-- and of which it is inside none
apart_cases : (e : Element) (es : List Element) (a : ℕ) → is_within (e ∷ es) a ≡ false →
    (a ≡ 0) ⊎ ((0 < a) × (length e.text ≤ a) × (is_within es (a - length e.text) ≡ false))
apart_cases e es a h = go (is_within es (a - length e.text)) refl (cases_lt 0 a) h where
  go : (w : Bool) → is_within es (a - length e.text) ≡ w → (0 < a) ⊎ (a ≤ 0) → (not (eqb a 0) && (ltb a (length e.text) || w)) ≡ false →
      (a ≡ 0) ⊎ ((0 < a) × (length e.text ≤ a) × (is_within es (a - length e.text) ≡ false))
  go w k (inr l) h = inl (omega (arith, l))
  go true k (inl l) h = absurd (grind (arith, nat_tests, h, l))
  go false k (inl l) h = inr (l, grind (arith, nat_tests, h, l), k)

inside_one : (e : Element) (x y a : ℕ) → 0 < a → a < length e.text → cond (eqb a 0) 0 (cond (ltb a (length e.text)) x y) ≡ x
inside_one e x y a h k = grind (arith, nat_tests, h, k)

behind_one : (n x y a : ℕ) → 0 < a → n ≤ a → cond (eqb a 0) 0 (cond (ltb a n) x y) ≡ y
behind_one n x y a h k = grind (arith, nat_tests, h, k)

at_zero : (es : List Element) (bias : Bias) → elements_before es 0 bias ≡ 0
at_zero [] bias = refl
at_zero (e ∷ es) bias = refl

-- the elements before a place after the first
past_first : (e : Element) (es : List Element) (a : ℕ) (bias : Bias) → 0 < length e.text → elements_before (e ∷ es) (length e.text + a) bias ≡ 1 + elements_before es a bias
past_first e es a Left h =
    let n = length e.text in
    let at : n + a - n ≡ a = omega arith in
    behind_one n 0 (1 + elements_before es (n + a - n) Left) (n + a) (omega (arith, h)) (omega arith) ∙ ap {B = ℕ} (λ (k : ℕ). 1 + elements_before es k Left) at
past_first e es a Right h =
    let n = length e.text in
    let at : n + a - n ≡ a = omega arith in
    behind_one n 1 (1 + elements_before es (n + a - n) Right) (n + a) (omega (arith, h)) (omega arith) ∙ ap {B = ℕ} (λ (k : ℕ). 1 + elements_before es k Right) at

-- as many elements are before its start as Left counts
pub start_of-before : (es : List Element) (a : ℕ) (bias : Bias) → HaveBytes es → is_within es a ≡ true → elements_before es (start_of es a) bias ≡ elements_before es a Left
start_of-before [] a bias some h = absurd (false≢true h)
start_of-before (e ∷ es) a bias some h = go (within_cases e es a h) (start_of-before es (a - length e.text) bias some.1) where
  n : ℕ
  n = length e.text

  go : (0 < a) × ((a < length e.text) ⊎ ((length e.text ≤ a) × (is_within es (a - length e.text) ≡ true))) →
      (is_within es (a - length e.text) ≡ true → elements_before es (start_of es (a - length e.text)) bias ≡ elements_before es (a - length e.text) Left) →
      elements_before (e ∷ es) (start_of (e ∷ es) a) bias ≡ elements_before (e ∷ es) a Left
  go (p, inl l) ih =
      ap (λ (k : ℕ). elements_before (e ∷ es) k bias) (inside_one e 0 (length e.text + start_of es (a - length e.text)) a p l)
      ∙ at_zero (e ∷ es) bias
      ∙ sym (inside_one e 0 (1 + elements_before es (a - length e.text) Left) a p l)
  go (p, inr (l, w)) ih =
      ap (λ (k : ℕ). elements_before (e ∷ es) k bias) (behind_one (length e.text) 0 (length e.text + start_of es (a - length e.text)) a p l)
      ∙ past_first e es (start_of es (a - length e.text)) bias some.0
      ∙ ap {B = ℕ} (λ (k : ℕ). 1 + k) (ih w)
      ∙ sym (behind_one (length e.text) 0 (1 + elements_before es (a - length e.text) Left) a p l)

-- and before its end as Right counts
pub end_of-before : (es : List Element) (a : ℕ) (bias : Bias) → HaveBytes es → is_within es a ≡ true → elements_before es (end_of es a) bias ≡ elements_before es a Right
end_of-before [] a bias some h = absurd (false≢true h)
end_of-before (e ∷ es) a bias some h = go (within_cases e es a h) (end_of-before es (a - length e.text) bias some.1) where
  go : (0 < a) × ((a < length e.text) ⊎ ((length e.text ≤ a) × (is_within es (a - length e.text) ≡ true))) →
      (is_within es (a - length e.text) ≡ true → elements_before es (end_of es (a - length e.text)) bias ≡ elements_before es (a - length e.text) Right) →
      elements_before (e ∷ es) (end_of (e ∷ es) a) bias ≡ elements_before (e ∷ es) a Right
  go (p, inl l) ih =
      let none : length e.text ≡ length e.text + 0 = omega arith in
      ap (λ (k : ℕ). elements_before (e ∷ es) k bias) (inside_one e (length e.text) (length e.text + end_of es (a - length e.text)) a p l ∙ none)
      ∙ past_first e es 0 bias some.0
      ∙ ap {B = ℕ} (λ (k : ℕ). 1 + k) (at_zero es bias)
      ∙ sym (inside_one e 1 (1 + elements_before es (a - length e.text) Right) a p l)
  go (p, inr (l, w)) ih =
      ap (λ (k : ℕ). elements_before (e ∷ es) k bias) (behind_one (length e.text) (length e.text) (length e.text + end_of es (a - length e.text)) a p l)
      ∙ past_first e es (end_of es (a - length e.text)) bias some.0
      ∙ ap {B = ℕ} (λ (k : ℕ). 1 + k) (ih w)
      ∙ sym (behind_one (length e.text) 1 (1 + elements_before es (a - length e.text) Right) a p l)

-- ---- by one byte

pub zero_apart : (es : List Element) → is_within es 0 ≡ false
zero_apart [] = refl
zero_apart (e ∷ es) = refl

next_less : (a n : ℕ) → n ≤ a → suc a - n ≡ suc (a - n)
next_less a n h = omega (arith, h)

-- the byte after one that is inside an element, where it is inside one too, has the same element
pub start_of-next : (es : List Element) (a : ℕ) → is_within es a ≡ true → is_within es (suc a) ≡ true → start_of es (suc a) ≡ start_of es a
start_of-next [] a h k = absurd (false≢true h)
start_of-next (e ∷ es) a h k = go (within_cases e es a h) (within_cases e es (suc a) k) (start_of-next es (a - length e.text)) where
  go : (0 < a) × ((a < length e.text) ⊎ ((length e.text ≤ a) × (is_within es (a - length e.text) ≡ true))) →
      (0 < suc a) × ((suc a < length e.text) ⊎ ((length e.text ≤ suc a) × (is_within es (suc a - length e.text) ≡ true))) →
      (is_within es (a - length e.text) ≡ true → is_within es (suc (a - length e.text)) ≡ true → start_of es (suc (a - length e.text)) ≡ start_of es (a - length e.text)) →
      start_of (e ∷ es) (suc a) ≡ start_of (e ∷ es) a
  go (p, inl l) (q, inl m) ih = inside_one e 0 (length e.text + start_of es (suc a - length e.text)) (suc a) q m ∙ sym (inside_one e 0 (length e.text + start_of es (a - length e.text)) a p l)
  go (p, inl l) (q, inr (m, w)) ih =
      let none : suc a - length e.text ≡ 0 = omega (arith, l, m) in
      absurd (false≢true (sym (ap (is_within es) none ∙ zero_apart es) ∙ w))
  go (p, inr (l, v)) (q, inl m) ih = absurd (omega (arith, l, m))
  go (p, inr (l, v)) (q, inr (m, w)) ih =
      let at = next_less a (length e.text) l in
      behind_one (length e.text) 0 (length e.text + start_of es (suc a - length e.text)) (suc a) q m
      ∙ ap {B = ℕ} (λ (k : ℕ). length e.text + start_of es k) at
      ∙ ap {B = ℕ} (λ (k : ℕ). length e.text + k) (ih v (subst (λ (k : ℕ). is_within es k ≡ true) at w))
      ∙ sym (behind_one (length e.text) 0 (length e.text + start_of es (a - length e.text)) a p l)

pub end_of-next : (es : List Element) (a : ℕ) → is_within es a ≡ true → is_within es (suc a) ≡ true → end_of es (suc a) ≡ end_of es a
end_of-next [] a h k = absurd (false≢true h)
end_of-next (e ∷ es) a h k = go (within_cases e es a h) (within_cases e es (suc a) k) (end_of-next es (a - length e.text)) where
  go : (0 < a) × ((a < length e.text) ⊎ ((length e.text ≤ a) × (is_within es (a - length e.text) ≡ true))) →
      (0 < suc a) × ((suc a < length e.text) ⊎ ((length e.text ≤ suc a) × (is_within es (suc a - length e.text) ≡ true))) →
      (is_within es (a - length e.text) ≡ true → is_within es (suc (a - length e.text)) ≡ true → end_of es (suc (a - length e.text)) ≡ end_of es (a - length e.text)) →
      end_of (e ∷ es) (suc a) ≡ end_of (e ∷ es) a
  go (p, inl l) (q, inl m) ih = inside_one e (length e.text) (length e.text + end_of es (suc a - length e.text)) (suc a) q m ∙ sym (inside_one e (length e.text) (length e.text + end_of es (a - length e.text)) a p l)
  go (p, inl l) (q, inr (m, w)) ih =
      let none : suc a - length e.text ≡ 0 = omega (arith, l, m) in
      absurd (false≢true (sym (ap (is_within es) none ∙ zero_apart es) ∙ w))
  go (p, inr (l, v)) (q, inl m) ih = absurd (omega (arith, l, m))
  go (p, inr (l, v)) (q, inr (m, w)) ih =
      let at = next_less a (length e.text) l in
      behind_one (length e.text) (length e.text) (length e.text + end_of es (suc a - length e.text)) (suc a) q m
      ∙ ap {B = ℕ} (λ (k : ℕ). length e.text + end_of es k) at
      ∙ ap {B = ℕ} (λ (k : ℕ). length e.text + k) (ih v (subst (λ (k : ℕ). is_within es k ≡ true) at w))
      ∙ sym (behind_one (length e.text) (length e.text) (length e.text + end_of es (a - length e.text)) a p l)

-- where a byte is inside no element and the next is, the element starts at that byte
pub start_of-first : (es : List Element) (a : ℕ) → HaveBytes es → is_within es a ≡ false → is_within es (suc a) ≡ true → start_of es (suc a) ≡ a
start_of-first [] a some h k = absurd (false≢true k)
start_of-first (e ∷ es) a some h k = go (apart_cases e es a h) (within_cases e es (suc a) k) (start_of-first es (a - length e.text) some.1) where
  go : (a ≡ 0) ⊎ ((0 < a) × (length e.text ≤ a) × (is_within es (a - length e.text) ≡ false)) →
      (0 < suc a) × ((suc a < length e.text) ⊎ ((length e.text ≤ suc a) × (is_within es (suc a - length e.text) ≡ true))) →
      (is_within es (a - length e.text) ≡ false → is_within es (suc (a - length e.text)) ≡ true → start_of es (suc (a - length e.text)) ≡ a - length e.text) →
      start_of (e ∷ es) (suc a) ≡ a
  go (inl z) (q, inl m) ih = inside_one e 0 (length e.text + start_of es (suc a - length e.text)) (suc a) q m ∙ sym z
  go (inl z) (q, inr (m, w)) ih =
      let none : suc a - length e.text ≡ 0 = omega (arith, z, m, some.0) in
      absurd (false≢true (sym (ap (is_within es) none ∙ zero_apart es) ∙ w))
  go (inr (p, l, v)) (q, inl m) ih = absurd (omega (arith, l, m))
  go (inr (p, l, v)) (q, inr (m, w)) ih =
      let at = next_less a (length e.text) l in
      let sum : length e.text + (a - length e.text) ≡ a = omega (arith, l) in
      behind_one (length e.text) 0 (length e.text + start_of es (suc a - length e.text)) (suc a) q m
      ∙ ap {B = ℕ} (λ (k : ℕ). length e.text + start_of es k) at
      ∙ ap {B = ℕ} (λ (k : ℕ). length e.text + k) (ih v (subst (λ (k : ℕ). is_within es k ≡ true) at w))
      ∙ sum

-- where a byte is inside an element and the next is inside none, the element ends at the next
pub end_of-last : (es : List Element) (a : ℕ) → is_within es a ≡ true → is_within es (suc a) ≡ false → end_of es a ≡ suc a
end_of-last [] a h k = absurd (false≢true h)
end_of-last (e ∷ es) a h k = go (within_cases e es a h) (apart_cases e es (suc a) k) (end_of-last es (a - length e.text)) where
  go : (0 < a) × ((a < length e.text) ⊎ ((length e.text ≤ a) × (is_within es (a - length e.text) ≡ true))) →
      (suc a ≡ 0) ⊎ ((0 < suc a) × (length e.text ≤ suc a) × (is_within es (suc a - length e.text) ≡ false)) →
      (is_within es (a - length e.text) ≡ true → is_within es (suc (a - length e.text)) ≡ false → end_of es (a - length e.text) ≡ suc (a - length e.text)) →
      end_of (e ∷ es) a ≡ suc a
  go x (inl z) ih = absurd (omega (arith, z))
  go (p, inl l) (inr (q, m, w)) ih = let sum : length e.text ≡ suc a = omega (arith, l, m) in inside_one e (length e.text) (length e.text + end_of es (a - length e.text)) a p l ∙ sum
  go (p, inr (l, v)) (inr (q, m, w)) ih =
      let at = next_less a (length e.text) l in
      let sum : length e.text + suc (a - length e.text) ≡ suc a = omega (arith, l) in
      behind_one (length e.text) (length e.text) (length e.text + end_of es (a - length e.text)) a p l
      ∙ ap {B = ℕ} (λ (k : ℕ). length e.text + k) (ih v (subst (λ (k : ℕ). is_within es k ≡ false) at w))
      ∙ sum
