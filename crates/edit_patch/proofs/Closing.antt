-- Closing the open edit of a merge.
use Rattle.std.proofs.Common.{◌≡◌, ℕ, ◌+◌, ◌-◌, ◌<◌, ◌≤◌, max, Bool, true, false, cond, ltb, ◌||◌, List, [], ◌∷◌, ◌++◌, None, ap, sym, subst, ◌∙◌, arith, inl, inr, ⊎_elim, ◌⊎◌}
use Rattle.std.specs.Prelude.{option_and_then}
use Rattle.std.proofs.lemmas.Bool.{cases_lt, cases_Bool, cond-true, cond-false, or_cases, or_parts, ltb-true, ltb-false}
use Rattle.edit_patch.specs.declared.edit.Edit.{Edit}
use Rattle.edit_patch.specs.declared.merge.Front.{Front}
use Rattle.edit_patch.specs.Came.{origin_from}
use Rattle.edit_patch.specs.Patch.{IsPatchFrom}
use Rattle.edit_patch.specs.Merge.{reach_of, place_at, open_edit}
use Rattle.edit_patch.proofs.Origin.{origin-new, origin-past, nearer}
use Rattle.edit_patch.proofs.Shift.{IsShift, early, pass, and_then-some, and_then-none, and_then-same, beyond, beyond-below, beyond-above}
use Rattle.edit_patch.proofs.Answers.{Stands, Answers, AnswersBehind}

-- the open edit ends at the place (o, m, n), m being the reach
pub record Ends (f : Front) (o m n : ℕ) : Type 0 where
  pub first : IsShift f.first.old f.first.new o m
  pub second : IsShift f.second.old f.second.new m n
  pub within : f.second.new ≤ n
  pub least : (m ≡ f.first.new) ⊎ (m ≡ f.second.old)

least-max : (p q : ℕ) → (max p q ≡ p) ⊎ (max p q ≡ q)
least-max p q = ⊎_elim (λ h. inr (omega arith)) (λ h. inl (omega arith)) (cases_lt p q)

pub ends : (f : Front) → Ends f (place_at f (reach_of f)).old (reach_of f) (place_at f (reach_of f)).new
ends f = record {
  first = record { even = omega arith; later = omega arith };
  second = record { even = omega arith; later = omega arith };
  within = omega arith;
  least = least-max f.first.new f.second.old;
}

-- what comes after the open edit, once it is closed
closed-behind : (f : Front) (o m n : ℕ) (xs ys r : List Edit) → Ends f o m n → IsPatchFrom 0 o m xs → IsPatchFrom 0 m n ys →
    AnswersBehind o m n xs ys r → (i : ℕ) → n ≤ i →
    origin_from o n r i ≡ option_and_then (beyond f.first.old f.first.new xs) (beyond f.second.old f.second.new ys i)
closed-behind f o m n xs ys r t x y h i a =
    let s = t.first in let u = t.second in
    h.came i a
    ∙ and_then-same 0 m n ys (origin_from o m xs) (beyond f.first.old f.first.new xs) i y a
    (λ j c. pass 0 f.first.old f.first.new o m xs j s x c ∙ sym (beyond-above f.first.old f.first.new xs j (omega arith)))
    ∙ ap (option_and_then (beyond f.first.old f.first.new xs))
    (pass 0 f.second.old f.second.new m n ys i u y a ∙ sym (beyond-above f.second.old f.second.new ys i (omega arith)))

-- inside it every position is new
closed-within : (f : Front) (o m n : ℕ) (xs ys : List Edit) → Ends f o m n → IsPatchFrom 0 m n ys →
    (i : ℕ) → i < n → option_and_then (beyond f.first.old f.first.new xs) (beyond f.second.old f.second.new ys i) ≡ None
closed-within f o m n xs ys t y i a = let u = t.second in
    ⊎_elim (λ b. and_then-none _ _ (beyond-below f.second.old f.second.new ys i b))
    (λ b. and_then-some (beyond f.first.old f.first.new xs) _ _
    (beyond-above f.second.old f.second.new ys i b ∙ early 0 f.second.old f.second.new m n ys i u y b a)
    ∙ beyond-below f.first.old f.first.new xs (f.second.old + (i - f.second.new)) (⊎_elim (λ z. omega arith) (λ z. omega arith) t.least))
    (cases_lt i f.second.new)

abbrev edit_to : Front → ℕ → ℕ → Edit
edit_to f o n = record { old_start = f.start.old; old_end = o; new_start = f.start.new; new_end = n }

close-some : (f : Front) (o m n : ℕ) (xs ys r : List Edit) → Ends f o m n → f.start.old ≤ f.first.old → f.start.new ≤ f.second.new →
    f.start.old + f.start.new < o + n → IsPatchFrom 0 o m xs → IsPatchFrom 0 m n ys → AnswersBehind o m n xs ys r →
    Answers f xs ys (edit_to f o n ∷ r)
close-some f o m n xs ys r t lo ln some x y h = let s = t.first in record {
  normal = (record { kept = omega arith; even = omega arith; old_order = omega arith; new_order = omega arith; some = some }, h.normal);
  came = λ i k. ⊎_elim
      (λ a. origin-new f.start.old f.start.new (edit_to f o n) r i k a ∙ sym (closed-within f o m n xs ys t y i a))
      (λ a. origin-past f.start.old f.start.new (edit_to f o n) r i k a ∙ closed-behind f o m n xs ys r t x y h i a)
      (cases_lt i n);
}

close-none : (f : Front) (o m n : ℕ) (xs ys r : List Edit) → Ends f o m n → f.start.old ≡ o → f.start.new ≡ n →
    IsPatchFrom 0 o m xs → IsPatchFrom 0 m n ys → AnswersBehind o m n xs ys r → Answers f xs ys r
close-none f o m n xs ys r t so sn x y h = record {
  normal = rw (so, sn) (nearer 1 _ _ r h.normal);
  came = λ i k. ap (λ (z : ℕ). origin_from z f.start.new r i) so ∙ ap (λ (z : ℕ). origin_from o z r i) sn
      ∙ closed-behind f o m n xs ys r t x y h i (omega arith);
}

some_edit : (f : Front) (o n : ℕ) → f.start.old ≤ o → f.start.new ≤ n → (ltb f.start.old o ≡ true) ⊎ (ltb f.start.new n ≡ true) → f.start.old + f.start.new < o + n
some_edit f o n lo ln h = ⊎_elim (λ a. let b = ltb-true _ _ a in omega arith) (λ a. let b = ltb-true _ _ a in omega arith) h

abbrev edits_to : Front → ℕ → ℕ → List Edit
edits_to f o n = cond (ltb f.start.old o || ltb f.start.new n) (edit_to f o n ∷ []) []

close-either : (f : Front) (o m n : ℕ) (xs ys r : List Edit) → Ends f o m n → f.start.old ≤ f.first.old → f.start.new ≤ f.second.new →
    IsPatchFrom 0 o m xs → IsPatchFrom 0 m n ys → AnswersBehind o m n xs ys r → Answers f xs ys (edits_to f o n ++ r)
close-either f o m n xs ys r t lo ln x y h =
    let s = t.first in
    let test : Bool = ltb f.start.old o || ltb f.start.new n in
    ⊎_elim
    (λ (a : test ≡ true). subst (λ (l : List Edit). Answers f xs ys (l ++ r)) (sym (cond-true test (edit_to f o n ∷ []) [] a))
    (close-some f o m n xs ys r t lo ln
    (some_edit f o n (omega arith) (omega arith) (or_cases (ltb f.start.old o) (ltb f.start.new n) a)) x y h))
    (λ (a : test ≡ false). subst (λ (l : List Edit). Answers f xs ys (l ++ r)) (sym (cond-false test (edit_to f o n ∷ []) [] a))
    (let b = or_parts (ltb f.start.old o) (ltb f.start.new n) a in
    let b0 : o ≤ f.start.old = ltb-false _ _ b.0 in let b1 : n ≤ f.start.new = ltb-false _ _ b.1 in
    close-none f o m n xs ys r t (omega arith) (omega arith) x y h))
    (cases_Bool test)

-- the open edit, or nothing where it is empty, and then the rest
pub close : (f : Front) (xs ys r : List Edit) → Stands f xs ys →
    (let end = place_at f (reach_of f) in IsPatchFrom 0 end.old (reach_of f) xs × IsPatchFrom 0 (reach_of f) end.new ys × AnswersBehind end.old (reach_of f) end.new xs ys r) →
    Answers f xs ys (open_edit f ++ r)
close f xs ys r h k =
    close-either f (place_at f (reach_of f)).old (reach_of f) (place_at f (reach_of f)).new xs ys r (ends f) h.old_order h.new_order k.0 k.1 k.2
