-- The place between elements of a byte: it doesn't fall as the byte rises, and Left is at or before Right.
use Rattle.std.proofs.Common.{◌≡◌, ℕ, ◌+◌, ◌-◌, ◌≤◌, eqb, ltb, Bool, true, false, cond, not, ◌&&◌, ◌||◌, List, [], ◌∷◌, length, refl, sym, arith}
use Rattle.std.proofs.lemmas.Bool.Decides.{nat_tests}
use Rattle.cell_units.specs.declared.place.Bias.{Bias}
use Rattle.cell_units.specs.declared.place.Bias.TheVariants.{Left, Right}
use Rattle.cell_line.specs.declared.element.Element.{Element}
use Rattle.plain_rows.specs.Spots.{elements_before, is_within}

-- one element, of n bytes, before the rest; `at` is what it counts where the byte is inside
rises_by_one : (at a b n x y : ℕ) → at ≤ 1 → a ≤ b → x ≤ y → cond (eqb a 0) 0 (cond (ltb a n) at (1 + x)) ≤ cond (eqb b 0) 0 (cond (ltb b n) at (1 + y))
rises_by_one at a b n x y some h k = grind (arith, nat_tests, some, h, k)

pub elements_before-rises : (es : List Element) (a b : ℕ) (bias : Bias) → a ≤ b → elements_before es a bias ≤ elements_before es b bias
elements_before-rises [] a b bias h = omega arith
elements_before-rises (e ∷ es) a b Left h =
    let n = length e.text in
    rises_by_one 0 a b n (elements_before es (a - n) Left) (elements_before es (b - n) Left) (omega arith) h (elements_before-rises es (a - n) (b - n) Left (omega arith))
elements_before-rises (e ∷ es) a b Right h =
    let n = length e.text in
    rises_by_one 1 a b n (elements_before es (a - n) Right) (elements_before es (b - n) Right) (omega arith) h (elements_before-rises es (a - n) (b - n) Right (omega arith))

sides_of_one : (a n x y : ℕ) → x ≤ y → cond (eqb a 0) 0 (cond (ltb a n) 0 (1 + x)) ≤ cond (eqb a 0) 0 (cond (ltb a n) 1 (1 + y))
sides_of_one a n x y h = grind (arith, nat_tests, h)

pub elements_before-sides : (es : List Element) (a : ℕ) → elements_before es a Left ≤ elements_before es a Right
elements_before-sides [] a = omega arith
elements_before-sides (e ∷ es) a =
    let n = length e.text in
    sides_of_one a n (elements_before es (a - n) Left) (elements_before es (a - n) Right) (elements_before-sides es (a - n))

same_of_one : (a n x y : ℕ) (w : Bool) → (w ≡ false → x ≡ y) → (not (eqb a 0) && (ltb a n || w)) ≡ false → cond (eqb a 0) 0 (cond (ltb a n) 0 (1 + x)) ≡ cond (eqb a 0) 0 (cond (ltb a n) 1 (1 + y))
same_of_one a n x y w same h = go (eqb a 0) (ltb a n) w same h where
  go : (s t w : Bool) → (w ≡ false → x ≡ y) → (not s && (t || w)) ≡ false → cond s 0 (cond t 0 (1 + x)) ≡ cond s 0 (cond t 1 (1 + y))
  go true t w same h = refl
  go false true w same h = grind (arith, h)
  go false false w same h = let e : x ≡ y = same h in omega arith

-- a byte that is inside no element has one place
pub elements_before-same : (es : List Element) (a : ℕ) → is_within es a ≡ false → elements_before es a Left ≡ elements_before es a Right
elements_before-same [] a h = refl
elements_before-same (e ∷ es) a h =
    let n = length e.text in
    same_of_one a n (elements_before es (a - n) Left) (elements_before es (a - n) Right) (is_within es (a - n)) (elements_before-same es (a - n)) h

pub elements_before-open : (es : List Element) (a : ℕ) (bias side : Bias) → is_within es a ≡ false → elements_before es a bias ≡ elements_before es a side
elements_before-open es a Left Left h = refl
elements_before-open es a Left Right h = elements_before-same es a h
elements_before-open es a Right Left h = sym (elements_before-same es a h)
elements_before-open es a Right Right h = refl
