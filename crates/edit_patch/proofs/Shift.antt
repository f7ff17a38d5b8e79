-- Kept positions may be passed over, and what a composition asks of its first part.
use Rattle.std.proofs.Common.{◌≡◌, ℕ, ◌+◌, ◌-◌, ◌<◌, ◌≤◌, cond, ltb, List, [], ◌∷◌, Option, Some, None, ap, sym, refl, ◌∙◌, arith, ⊎_elim}
use Rattle.std.specs.Prelude.{option_and_then}
use Rattle.std.proofs.lemmas.Bool.{lt-ltb, le-ltb, cases_lt, cond-true, cond-false}
use Rattle.edit_patch.specs.declared.edit.Edit.{Edit}
use Rattle.edit_patch.specs.Came.{origin_from}
use Rattle.edit_patch.specs.Patch.{IsPatchFrom}
use Rattle.edit_patch.proofs.Origin.{origin-kept, origin-new, origin-past}

-- (o2, n2) is (o, n), or so many kept positions later
pub record IsShift (o n o2 n2 : ℕ) : Type 0 where
  pub even : o2 + n ≡ o + n2
  pub later : n ≤ n2

-- before the next edit the positions correspond by the shift
pub early : (gap o n o2 n2 : ℕ) (es : List Edit) (i : ℕ) → IsShift o n o2 n2 → IsPatchFrom gap o2 n2 es → n ≤ i → i < n2 → origin_from o n es i ≡ Some (o + (i - n))
early gap o n o2 n2 [] i s h k l = refl
early gap o n o2 n2 (e ∷ es) i s h k l = let a = h.0 in origin-kept o n e es i (omega arith)

-- the edits say the same from either place
pub pass : (gap o n o2 n2 : ℕ) (es : List Edit) (i : ℕ) → IsShift o n o2 n2 → IsPatchFrom gap o2 n2 es → n2 ≤ i →
    origin_from o2 n2 es i ≡ origin_from o n es i
pass gap o n o2 n2 [] i s h k = ap Some (omega arith)
pass gap o n o2 n2 (e ∷ es) i s h k =
    ⊎_elim (λ a. origin-kept o2 n2 e es i a ∙ ap Some (omega arith) ∙ sym (origin-kept o n e es i a))
    (λ a. cond-false _ _ _ (le-ltb _ _ a) ∙ sym (cond-false _ _ _ (le-ltb _ _ a)))
    (cases_lt i e.new_start)

pub and_then-some : (f : ℕ → Option ℕ) (o : Option ℕ) (j : ℕ) → o ≡ Some j → option_and_then f o ≡ f j
and_then-some f o j h = ap (option_and_then f) h

pub and_then-none : (f : ℕ → Option ℕ) (o : Option ℕ) → o ≡ None → option_and_then f o ≡ None
and_then-none f o h = ap (option_and_then f) h

-- after q only what is at q or later is asked
pub and_then-same : (gap q n : ℕ) (ys : List Edit) (f g : ℕ → Option ℕ) (i : ℕ) → IsPatchFrom gap q n ys → n ≤ i → ((j : ℕ) → q ≤ j → f j ≡ g j) →
    option_and_then f (origin_from q n ys i) ≡ option_and_then g (origin_from q n ys i)
and_then-same gap q n [] f g i ok h same = same (q + (i - n)) (omega arith)
and_then-same gap q n (e ∷ ys) f g i ok h same = let kept = ok.0 in
    ⊎_elim (λ a. let s = origin-kept q n e ys i a in and_then-some f _ _ s ∙ same (q + (i - n)) (omega arith) ∙ sym (and_then-some g _ _ s))
    (λ a. ⊎_elim (λ b. let s = origin-new q n e ys i a b in and_then-none f _ s ∙ sym (and_then-none g _ s))
    (λ b. let s = origin-past q n e ys i a b in
    ap (option_and_then f) s ∙ and_then-same 1 e.old_end e.new_end ys f g i ok.1 b (λ j k. same j (omega arith)) ∙ sym (ap (option_and_then g) s))
    (cases_lt i e.new_end))
    (cases_lt i e.new_start)

-- nothing before n, and from there on what the edits say
abbrev pub beyond : ℕ → ℕ → List Edit → ℕ → Option ℕ
beyond o n es i = cond (ltb i n) None (origin_from o n es i)

pub beyond-below : (o n : ℕ) (es : List Edit) (i : ℕ) → i < n → beyond o n es i ≡ None
beyond-below o n es i h = cond-true _ _ _ (lt-ltb _ _ h)

pub beyond-above : (o n : ℕ) (es : List Edit) (i : ℕ) → n ≤ i → beyond o n es i ≡ origin_from o n es i
beyond-above o n es i h = cond-false _ _ _ (le-ltb _ _ h)
