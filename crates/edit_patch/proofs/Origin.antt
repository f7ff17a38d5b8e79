-- Where a position came from, by cases at the next edit.
use Rattle.std.proofs.Common.{◌≡◌, ℕ, ◌+◌, ◌-◌, ◌<◌, ◌≤◌, List, [], ◌∷◌, Some, None, ap, sym, ◌∙◌, arith, ⊎_elim}
use Rattle.std.proofs.lemmas.Bool.{lt-ltb, le-ltb, cases_lt, cond-true, cond-false}
use Rattle.edit_patch.specs.declared.edit.Edit.{Edit}
use Rattle.edit_patch.specs.Came.{origin_from}
use Rattle.edit_patch.specs.Patch.{IsPatchFrom}

-- before the edit
pub origin-kept : (o n : ℕ) (e : Edit) (es : List Edit) (i : ℕ) → i < e.new_start → origin_from o n (e ∷ es) i ≡ Some (o + (i - n))
origin-kept o n e es i h = cond-true _ _ _ (lt-ltb _ _ h)

-- inside it
pub origin-new : (o n : ℕ) (e : Edit) (es : List Edit) (i : ℕ) → e.new_start ≤ i → i < e.new_end → origin_from o n (e ∷ es) i ≡ None
origin-new o n e es i h k = cond-false _ _ _ (le-ltb _ _ h) ∙ cond-true _ _ _ (lt-ltb _ _ k)

-- after it
pub origin-past : (o n : ℕ) (e : Edit) (es : List Edit) (i : ℕ) → e.new_start ≤ i → e.new_end ≤ i →
    origin_from o n (e ∷ es) i ≡ origin_from e.old_end e.new_end es i
origin-past o n e es i h k = cond-false _ _ _ (le-ltb _ _ h) ∙ cond-false _ _ _ (le-ltb _ _ k)

-- fewer kept positions may be asked for
pub nearer : (gap o n : ℕ) (es : List Edit) → IsPatchFrom gap o n es → IsPatchFrom 0 o n es
nearer gap o n [] h = tt
nearer gap o n (e ∷ es) h = let a = h.0 in
    (record { kept = omega arith; even = a.even; old_order = a.old_order; new_order = a.new_order; some = a.some }, h.1)

-- right after an edit is a kept position
pub origin-behind : (o n : ℕ) (es : List Edit) → IsPatchFrom 1 o n es → origin_from o n es n ≡ Some o
origin-behind o n [] h = ap Some (omega arith)
origin-behind o n (e ∷ es) h = let a = h.0 in origin-kept o n e es n (omega arith) ∙ ap Some (omega arith)

-- no position came from one before
pub above : (gap o n : ℕ) (es : List Edit) (i j : ℕ) → IsPatchFrom gap o n es → n ≤ i → origin_from o n es i ≡ Some j → o ≤ j
above gap o n [] i j h k g = let e : o + (i - n) ≡ j = cc in omega arith
above gap o n (e ∷ es) i j h k g = let a = h.0 in
    ⊎_elim (λ b. let s = sym (origin-kept o n e es i b) ∙ g in let t : o + (i - n) ≡ j = cc in omega arith)
    (λ b. ⊎_elim (λ c. let s = sym (origin-new o n e es i b c) ∙ g in cc)
    (λ c. let s = above 1 e.old_end e.new_end es i j h.1 c (sym (origin-past o n e es i b c) ∙ g) in omega arith)
    (cases_lt i e.new_end))
    (cases_lt i e.new_start)
