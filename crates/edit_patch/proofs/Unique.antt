-- No two patches say the same of each position.
use Rattle.std.proofs.Common.{◌≡◌, ℕ, ◌+◌, ◌-◌, ◌<◌, ◌≤◌, List, [], ◌∷◌, Some, ap, sym, refl, ◌∙◌, arith, ⊎_elim}
use Rattle.std.proofs.lemmas.Bool.{cases_lt, cases_order}
use Rattle.edit_patch.specs.declared.edit.Edit.{Edit}
use Rattle.edit_patch.specs.Came.{origin_from, origin_of}
use Rattle.edit_patch.specs.Patch.{IsPatchFrom, IsPatch}
use Rattle.edit_patch.proofs.Origin.{origin-kept, origin-new, origin-past, origin-behind}

-- where an edit begins, the positions no longer correspond by the shift before it
shift_ends : (gap o n : ℕ) (e : Edit) (es : List Edit) (j : ℕ) → IsPatchFrom gap o n (e ∷ es) → o + (e.new_start - n) ≡ j →
    origin_from o n (e ∷ es) e.new_start ≡ Some j → ⊥
shift_ends gap o n e es j h same g = let a = h.0 in
    ⊎_elim (λ b. let k = sym (origin-new o n e es e.new_start (omega arith) b) ∙ g in cc)
    (λ b. let even : e.new_start ≡ e.new_end = omega arith in
    let k = sym (origin-past o n e es e.new_start (omega arith) b ∙ ap (origin_from e.old_end e.new_end es) even ∙ origin-behind e.old_end e.new_end es h.1) ∙ g in
    let l : e.old_end ≡ j = cc in absurd (omega arith))
    (cases_lt e.new_start e.new_end)

-- no new start is before the other
starts : (gap o n : ℕ) (e f : Edit) (es fs : List Edit) → IsPatchFrom gap o n (e ∷ es) → IsPatchFrom gap o n (f ∷ fs) →
    ((i : ℕ) → n ≤ i → origin_from o n (e ∷ es) i ≡ origin_from o n (f ∷ fs) i) → e.new_start < f.new_start → ⊥
starts gap o n e f es fs h k same lt = let a = h.0 in
    shift_ends gap o n e es _ h refl (same e.new_start (omega arith) ∙ origin-kept o n f fs e.new_start lt)

-- no new end is before the other
ends : (gap o n : ℕ) (e f : Edit) (es fs : List Edit) → IsPatchFrom gap o n (e ∷ es) → IsPatchFrom gap o n (f ∷ fs) → e.new_start ≡ f.new_start →
    ((i : ℕ) → n ≤ i → origin_from o n (e ∷ es) i ≡ origin_from o n (f ∷ fs) i) → e.new_end < f.new_end → ⊥
ends gap o n e f es fs h k starts same lt = let a = h.0 in let b = k.0 in
    let l = sym (origin-past o n e es e.new_end (omega arith) (omega arith) ∙ origin-behind e.old_end e.new_end es h.1)
    ∙ same e.new_end (omega arith) ∙ origin-new o n f fs e.new_end (omega arith) lt in cc

abbrev edit : ℕ → ℕ → ℕ → ℕ → Edit
edit a b c d = record { old_start = a; old_end = b; new_start = c; new_end = d }

same_edit : (e f : Edit) → e.old_start ≡ f.old_start → e.old_end ≡ f.old_end → e.new_start ≡ f.new_start → e.new_end ≡ f.new_end → e ≡ f
same_edit e f a b c d =
    ap (λ (x : ℕ). edit x e.old_end e.new_start e.new_end) a ∙ ap (λ (x : ℕ). edit f.old_start x e.new_start e.new_end) b
    ∙ ap (λ (x : ℕ). edit f.old_start f.old_end x e.new_end) c ∙ ap (λ (x : ℕ). edit f.old_start f.old_end f.new_start x) d

-- the same after any place
unique-from : (gap o n : ℕ) (es fs : List Edit) → IsPatchFrom gap o n es → IsPatchFrom gap o n fs →
    ((i : ℕ) → n ≤ i → origin_from o n es i ≡ origin_from o n fs i) → es ≡ fs
unique-from gap o n [] [] h k same = refl
unique-from gap o n [] (f ∷ fs) h k same = let b = k.0 in absurd (shift_ends gap o n f fs _ k refl (sym (same f.new_start (omega arith))))
unique-from gap o n (e ∷ es) [] h k same = let a = h.0 in absurd (shift_ends gap o n e es _ h refl (same e.new_start (omega arith)))
unique-from gap o n (e ∷ es) (f ∷ fs) h k same = let a = h.0 in let b = k.0 in
    let p : e.new_start ≡ f.new_start = ⊎_elim (λ z. z) (λ z. ⊎_elim (λ y. absurd (starts gap o n e f es fs h k same y))
    (λ y. absurd (starts gap o n f e fs es k h (λ i l. sym (same i l)) y)) z) (cases_order e.new_start f.new_start) in
    let q : e.new_end ≡ f.new_end = ⊎_elim (λ z. z) (λ z. ⊎_elim (λ y. absurd (ends gap o n e f es fs h k p same y))
    (λ y. absurd (ends gap o n f e fs es k h (sym p) (λ i l. sym (same i l)) y)) z) (cases_order e.new_end f.new_end) in
    let s : e.old_start ≡ f.old_start = omega arith in
    let at = origin-past o n e es e.new_end (omega arith) (omega arith) ∙ origin-behind e.old_end e.new_end es h.1 in
    let af = origin-past o n f fs f.new_end (omega arith) (omega arith) ∙ origin-behind f.old_end f.new_end fs k.1 in
    let mid = sym at ∙ same e.new_end (omega arith) ∙ ap (origin_from o n (f ∷ fs)) q ∙ af in
    let t : e.old_end ≡ f.old_end = cc in
    let both : e ≡ f = same_edit e f s t p q in
    let rest : es ≡ fs = unique-from 1 e.old_end e.new_end es fs h.1 (rw (t, q) k.1)
    (λ i l. sym (origin-past o n e es i (omega arith) l) ∙ same i (omega arith) ∙ origin-past o n f fs i (omega arith) (omega arith)
    ∙ ap (λ (x : ℕ). origin_from x f.new_end fs i) (sym t) ∙ ap (λ (x : ℕ). origin_from e.old_end x fs i) (sym q)) in
    ap (λ (x : Edit). x ∷ es) both ∙ ap (λ (x : List Edit). f ∷ x) rest

-- two patches that say the same of each position are equal
pub unique : (a b : List Edit) → IsPatch a → IsPatch b → ((i : ℕ) → origin_of a i ≡ origin_of b i) → a ≡ b
unique a b h k same = unique-from 0 0 0 a b h k (λ i l. same i)
