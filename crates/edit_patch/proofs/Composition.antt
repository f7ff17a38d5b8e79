-- Two patches compose to exactly one, and composing is associative with `none` as neutral.
use Rattle.std.proofs.Common.{◌≡◌, ℕ, ◌+◌, List, [], length, Option, Some, None, ap, sym, refl, ◌∙◌, arith}
use Rattle.std.specs.Prelude.{option_and_then}
use Rattle.edit_patch.specs.declared.edit.Edit.{Edit}
use Rattle.edit_patch.specs.Came.{origin_of, inverted}
use Rattle.edit_patch.specs.Patch.{IsPatch, IsComposed}
use Rattle.edit_patch.specs.Merge.{begun}
use Rattle.edit_patch.proofs.Unique.{unique}
use Rattle.edit_patch.proofs.Inverse.{inverted-patch, back, forth}
use Rattle.edit_patch.proofs.Shift.{and_then-same, beyond, beyond-above}
use Rattle.edit_patch.proofs.Answers.{Stands, Answers}
use Rattle.edit_patch.proofs.Advance.{rest}

-- what a merge returns from its beginning is the composition
pub composed : (a b c : List Edit) → IsPatch b → Answers begun a b c → IsComposed a b c
composed a b c y h = record {
  normal = h.normal;
  came = λ i. h.came i (omega arith) ∙ ap (option_and_then (beyond 0 0 a)) (beyond-above 0 0 b i (omega arith))
      ∙ and_then-same 0 0 0 b (beyond 0 0 a) (origin_of a) i y (omega arith) (λ j k. beyond-above 0 0 a j (omega arith));
}

-- a merge may begin
pub stands-begun : (a b : List Edit) → IsPatch a → IsPatch b → Stands begun a b
stands-begun a b x y = record { first = x; second = y; old_order = omega arith; new_order = omega arith }

-- there is a composition
pub composable : (a b : List Edit) → IsPatch a → IsPatch b → (c : List Edit) × IsComposed a b c
composable a b x y =
    let r = rest (length a + length b) begun a b (omega arith) (stands-begun a b x y) in
    (r.0, composed a b r.0 y r.1)

-- and one only
pub one_composition : (a b c d : List Edit) → IsComposed a b c → IsComposed a b d → c ≡ d
one_composition a b c d h k = unique c d h.normal k.normal (λ i. h.came i ∙ sym (k.came i))

and_then-assoc : (f g : ℕ → Option ℕ) (o : Option ℕ) → option_and_then f (option_and_then g o) ≡ option_and_then (λ j. option_and_then f (g j)) o
and_then-assoc f g None = refl
and_then-assoc f g (Some j) = refl

and_then-ext : (f g : ℕ → Option ℕ) (o : Option ℕ) → ((j : ℕ) → f j ≡ g j) → option_and_then f o ≡ option_and_then g o
and_then-ext f g None h = refl
and_then-ext f g (Some j) h = h j

and_then-unit : (o : Option ℕ) → option_and_then (λ j. Some j) o ≡ o
and_then-unit None = refl
and_then-unit (Some j) = refl

-- it does not matter which two of three patches are composed first
pub associative : (a b c ab bc x y : List Edit) → IsComposed a b ab → IsComposed ab c x → IsComposed b c bc → IsComposed a bc y → x ≡ y
associative a b c ab bc x y p q r s =
    unique x y q.normal s.normal (λ i.
    q.came i
    ∙ and_then-ext (origin_of ab) (λ j. option_and_then (origin_of a) (origin_of b j)) (origin_of c i) p.came
    ∙ sym (and_then-assoc (origin_of a) (origin_of b) (origin_of c i))
    ∙ ap (option_and_then (origin_of a)) (sym (r.came i))
    ∙ sym (s.came i))

-- by the patch of no edit each position came from itself
origin_of-nil : (i : ℕ) → origin_of [] i ≡ Some i
origin_of-nil i = ap Some (omega arith)

pub neutral_later : (a : List Edit) → IsPatch a → IsComposed a [] a
neutral_later a h = record { normal = h; came = λ i. sym (ap (option_and_then (origin_of a)) (origin_of-nil i)) }

pub neutral_earlier : (a : List Edit) → IsPatch a → IsComposed [] a a
neutral_earlier a h = record {
  normal = h;
  came = λ i. sym (and_then-ext (origin_of []) (λ j. Some j) (origin_of a i) origin_of-nil ∙ and_then-unit (origin_of a i));
}

option-ext : (x y : Option ℕ) → ((j : ℕ) → x ≡ Some j → y ≡ Some j) → ((j : ℕ) → y ≡ Some j → x ≡ Some j) → x ≡ y
option-ext None None f g = refl
option-ext None (Some j) f g = g j refl
option-ext (Some j) y f g = sym (f j refl)

and_then-step : (f : ℕ → Option ℕ) (o : Option ℕ) (j : ℕ) → option_and_then f o ≡ Some j → (m : ℕ) × (o ≡ Some m) × (f m ≡ Some j)
and_then-step f None j h = absurd (cc)
and_then-step f (Some m) j h = (m, refl, h)

-- the way back from a composition goes back through the second patch first
pub reversed : (a b c : List Edit) → IsPatch a → IsPatch b → IsComposed a b c → IsComposed (inverted b) (inverted a) (inverted c)
reversed a b c x y h = record {
  normal = inverted-patch c h.normal;
  came = λ i. option-ext _ _
      (λ j p. let s = and_then-step (origin_of a) (origin_of b j) i (sym (h.came j) ∙ forth c j i h.normal p) in
      ap (option_and_then (origin_of (inverted b))) (back a s.0 i x s.2) ∙ back b j s.0 y s.1)
      (λ j p. let s = and_then-step (origin_of (inverted b)) (origin_of (inverted a) i) j p in
      back c j i h.normal (h.came j ∙ ap (option_and_then (origin_of a)) (forth b j s.0 y s.2) ∙ forth a s.0 i x s.1));
}
