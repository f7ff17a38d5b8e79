-- The patch of one replacement fits the lists before and after it.
use Rattle.std.proofs.Common.{◌≡◌, ℕ, zero, suc, ◌+◌, ◌-◌, ◌<◌, ◌≤◌, Bool, true, false, ltb, ◌||◌, List, [], ◌∷◌, ◌++◌, length, ap, sym, subst, refl, ◌∙◌, arith, inl, inr, ◌⊎◌, ⊎_elim, length-append}
use Rattle.std.specs.Prelude.{slice_get}
use Rattle.std.proofs.lemmas.Bool.{cases_lt, cases_Bool, cond-true, cond-false, or_cases, or_parts, ltb-true, ltb-false}
use Rattle.std.proofs.lemmas.List.{nil_from_length}
use Rattle.std.proofs.lemmas.List.Elements.{All-nil, All-cons}
use Rattle.std.proofs.lemmas.List.Sums.{sum_by-cons}
use Rattle.edit_patch.specs.declared.edit.Edit.{Edit}
use Rattle.edit_patch.specs.Came.{Came, edit_of}
use Rattle.edit_patch.specs.Patch.{IsPatch}
use Rattle.edit_patch.specs.Fits.{added_count, removed_count, Fits, replacement}
use Rattle.edit_patch.proofs.Origin.{origin-kept, origin-new, origin-past}
use Rattle.edit_patch.proofs.Fitting.{IsInside, fits-none}

slice_get-before : {A : Type 0} (xs ys : List A) (i : ℕ) → i < length xs → slice_get (xs ++ ys) i ≡ slice_get xs i
slice_get-before [] ys i h = absurd (omega arith)
slice_get-before (x ∷ xs) ys zero h = refl
slice_get-before (x ∷ xs) ys (suc i) h = slice_get-before xs ys i (omega arith)

slice_get-behind : {A : Type 0} (xs ys : List A) (i k : ℕ) → i ≡ length xs + k → slice_get (xs ++ ys) i ≡ slice_get ys k
slice_get-behind [] ys i k h = ap (slice_get ys) (omega arith)
slice_get-behind (x ∷ xs) ys zero k h = absurd (omega arith)
slice_get-behind (x ∷ xs) ys (suc i) k h = slice_get-behind xs ys i k (omega arith)

replacement-cases : (start end count : ℕ) → start ≤ end →
    ((start + start < end + (start + count)) × (replacement start end count ≡ edit_of start end start (start + count) ∷ [])) ⊎
    ((start ≡ end) × (count ≡ 0) × (replacement start end count ≡ []))
replacement-cases start end count h =
    let test : Bool = ltb start end || ltb 0 count in
    ⊎_elim
    (λ (a : test ≡ true). inl (
      ⊎_elim (λ b. let c = ltb-true _ _ b in omega arith) (λ b. let c = ltb-true _ _ b in omega arith)
          (or_cases (ltb start end) (ltb 0 count) a),
      cond-true test _ _ a,
    ))
    (λ (a : test ≡ false). let b = or_parts (ltb start end) (ltb 0 count) a in
    let c : end ≤ start = ltb-false _ _ b.0 in let d : count ≤ 0 = ltb-false _ _ b.1 in
    inr (omega arith, omega arith, cond-false test _ _ a))
    (cases_Bool test)

-- it is a patch
pub replacement-patch : (start end count : ℕ) → start ≤ end → IsPatch (replacement start end count)
replacement-patch start end count h =
    ⊎_elim
    (λ c. subst (λ (x : List Edit). IsPatch x) (sym c.1)
    ((record { kept = omega arith; even = omega arith; old_order = omega arith; new_order = omega arith; some = c.0 }, tt)))
    (λ c. subst (λ (x : List Edit). IsPatch x) (sym c.2) tt)
    (replacement-cases start end count h)

abbrev edit_between : {A : Type 0} → List A → List A → List A → Edit
edit_between before removed added = edit_of (length before) (length before + length removed) (length before) (length before + length added)

same_outside : {A : Type 0} (before removed added after : List A) (i j : ℕ) → Came (edit_between before removed added ∷ []) i j →
    slice_get (before ++ added ++ after) i ≡ slice_get (before ++ removed ++ after) j
same_outside before removed added after i j g =
    let e : Edit = edit_between before removed added in
    ⊎_elim
    (λ (a : i < length before).
    let s = sym (origin-kept 0 0 e [] i a) ∙ g in let t : 0 + (i - 0) ≡ j = cc in
    let same : i ≡ j = omega arith in
    slice_get-before (before ++ added) after i (omega (arith, length-append before added)) ∙ slice_get-before before added i a
    ∙ sym (slice_get-before (before ++ removed) after i (omega (arith, length-append before removed)) ∙ slice_get-before before removed i a)
    ∙ ap (slice_get (before ++ removed ++ after)) same)
    (λ (a : length before ≤ i). ⊎_elim
    (λ (b : i < length before + length added). let s = sym (origin-new 0 0 e [] i a b) ∙ g in cc)
    (λ (b : length before + length added ≤ i).
    let s = sym (origin-past 0 0 e [] i a b) ∙ g in
    let t : length before + length removed + (i - (length before + length added)) ≡ j = cc in
    slice_get-behind (before ++ added) after i (i - (length before + length added)) (omega (arith, length-append before added))
    ∙ sym (slice_get-behind (before ++ removed) after j (i - (length before + length added)) (omega (arith, length-append before removed))))
    (cases_lt i (length before + length added)))
    (cases_lt i (length before))

-- and fits what was there before and what is there then
pub fits-replacement : {A : Type 0} (before removed added after : List A) →
    Fits (replacement (length before) (length before + length removed) (length added)) (before ++ removed ++ after) (before ++ added ++ after)
fits-replacement before removed added after =
    let old = length-append (before ++ removed) after in let old2 = length-append before removed in
    let new = length-append (before ++ added) after in let new2 = length-append before added in
    let e : Edit = edit_between before removed added in
    ⊎_elim
    (λ c. subst (λ (x : List Edit). Fits x (before ++ removed ++ after) (before ++ added ++ after)) (sym c.1)
    (record {
      within = All-cons (IsInside (length (before ++ removed ++ after)) (length (before ++ added ++ after))) e [] (omega arith, omega arith)
          (All-nil (IsInside (length (before ++ removed ++ after)) (length (before ++ added ++ after))));
      lengths = let s = sum_by-cons added_count e [] in let t = sum_by-cons removed_count e [] in omega arith;
      same = λ i j l g. same_outside before removed added after i j g;
    }))
    (λ c.
    let r : removed ≡ [] = nil_from_length removed (let d = c.0 in omega arith) in
    let s : added ≡ [] = nil_from_length added c.1 in
    subst (λ (x : List Edit). Fits x (before ++ removed ++ after) (before ++ added ++ after)) (sym c.2)
    (rw (r, s) (fits-none (before ++ [] ++ after))))
    (replacement-cases (length before) (length before + length removed) (length added) (omega arith))
