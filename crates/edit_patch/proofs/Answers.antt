-- What the rest of a merge has to say, and how it does step by step.
use Rattle.std.proofs.Common.{◌≡◌, ℕ, ◌+◌, ◌-◌, ◌<◌, ◌≤◌, max, List, [], ◌∷◌, Option, Some, None, ap, sym, ◌∙◌, arith, ⊎_elim}
use Rattle.std.specs.Prelude.{option_and_then}
use Rattle.std.proofs.lemmas.Bool.{cases_lt}
use Rattle.edit_patch.specs.declared.edit.Edit.{Edit}
use Rattle.edit_patch.specs.declared.merge.Front.{Front}
use Rattle.edit_patch.specs.Came.{origin_from}
use Rattle.edit_patch.specs.Patch.{IsNext, IsPatchFrom}
use Rattle.edit_patch.specs.Merge.{reach_of, with_first, with_second}
use Rattle.edit_patch.proofs.Origin.{origin-kept, origin-new, origin-past}
use Rattle.edit_patch.proofs.Shift.{IsShift, early, pass, and_then-some, and_then-none, and_then-same, beyond, beyond-below, beyond-above}

-- xs and ys are left of the two patches, and where the merge is now is in order
pub record Stands (f : Front) (xs ys : List Edit) : Type 0 where
  pub first : IsPatchFrom 0 f.first.old f.first.new xs
  pub second : IsPatchFrom 0 f.second.old f.second.new ys
  pub old_order : f.start.old ≤ f.first.old
  pub new_order : f.start.new ≤ f.second.new

-- r, with which the result goes on from the open edit's start, says all that xs and ys still say
pub record Answers (f : Front) (xs ys r : List Edit) : Type 0 where
  pub normal : IsPatchFrom 0 f.start.old f.start.new r
  pub came : (i : ℕ) → f.start.new ≤ i →
      origin_from f.start.old f.start.new r i ≡ option_and_then (beyond f.first.old f.first.new xs) (beyond f.second.old f.second.new ys i)

-- the same after an edit that is closed at the place (o, m, n), m being in the middle text
pub record AnswersBehind (o m n : ℕ) (xs ys r : List Edit) : Type 0 where
  pub normal : IsPatchFrom 1 o n r
  pub came : (i : ℕ) → n ≤ i → origin_from o n r i ≡ option_and_then (origin_from o m xs) (origin_from m n ys i)

take-first : (o p q : ℕ) (e : Edit) (xs : List Edit) (j : ℕ) → IsNext 0 o p e → e.new_start ≤ max p q → q ≤ j →
    beyond e.old_end e.new_end xs j ≡ beyond o p (e ∷ xs) j
take-first o p q e xs j ok near h =
    ⊎_elim (λ a. beyond-below e.old_end e.new_end xs j a ∙ sym
    (⊎_elim (λ b. beyond-below o p (e ∷ xs) j b) (λ b. beyond-above o p (e ∷ xs) j b ∙ origin-new o p e xs j (omega arith) a) (cases_lt j p)))
    (λ a. beyond-above e.old_end e.new_end xs j a ∙ sym (beyond-above o p (e ∷ xs) j (omega arith) ∙ origin-past o p e xs j (omega arith) a))
    (cases_lt j e.new_end)

-- the next edit of the first patch may be taken, where it begins within reach
pub answers-first : (f : Front) (e : Edit) (xs ys r : List Edit) → Stands f (e ∷ xs) ys → e.new_start ≤ reach_of f →
    Answers (with_first f e) xs ys r → Answers f (e ∷ xs) ys r
answers-first f e xs ys r h near a = record {
  normal = a.normal;
  came = λ i k. a.came i k ∙
      ⊎_elim (λ b. let s = beyond-below f.second.old f.second.new ys i b in and_then-none _ _ s ∙ sym (and_then-none _ _ s))
      (λ b. let s = beyond-above f.second.old f.second.new ys i b in
      ap (option_and_then (beyond e.old_end e.new_end xs)) s
      ∙ and_then-same 0 f.second.old f.second.new ys _ _ i h.second b (λ j l. take-first f.first.old f.first.new f.second.old e xs j h.first.0 near l)
      ∙ sym (ap (option_and_then (beyond f.first.old f.first.new (e ∷ xs))) s))
      (cases_lt i f.second.new);
}

take-second : (f : ℕ → Option ℕ) (p q n : ℕ) (ys : List Edit) (e : Edit) (i : ℕ) → IsNext 0 q n e → e.old_start ≤ max p q →
    ((j : ℕ) → j < p → f j ≡ None) →
    option_and_then f (beyond e.old_end e.new_end ys i) ≡ option_and_then f (beyond q n (e ∷ ys) i)
take-second f p q n ys e i ok near below =
    ⊎_elim (λ a. and_then-none f _ (beyond-below e.old_end e.new_end ys i a) ∙ sym
    (⊎_elim (λ b. and_then-none f _ (beyond-below q n (e ∷ ys) i b))
    (λ b. ap (option_and_then f) (beyond-above q n (e ∷ ys) i b) ∙
    ⊎_elim (λ c. and_then-some f _ _ (origin-kept q n e ys i c) ∙ below (q + (i - n)) (omega arith))
    (λ c. and_then-none f _ (origin-new q n e ys i c a)) (cases_lt i e.new_start))
    (cases_lt i n)))
    (λ a. ap (option_and_then f)
    (beyond-above e.old_end e.new_end ys i a ∙ sym (beyond-above q n (e ∷ ys) i (omega arith) ∙ origin-past q n e ys i (omega arith) a)))
    (cases_lt i e.new_end)

-- and that of the second patch
pub answers-second : (f : Front) (e : Edit) (xs ys r : List Edit) → Stands f xs (e ∷ ys) → e.old_start ≤ reach_of f →
    Answers (with_second f e) xs ys r → Answers f xs (e ∷ ys) r
answers-second f e xs ys r h near a = record {
  normal = a.normal;
  came = λ i k. a.came i k ∙ take-second (beyond f.first.old f.first.new xs) f.first.new f.second.old f.second.new ys e i h.second.0 near
      (λ j b. beyond-below f.first.old f.first.new xs j b);
}

-- where nothing is left, nothing has to follow
pub behind-end : (o m n : ℕ) → AnswersBehind o m n [] [] []
behind-end o m n = record { normal = tt; came = λ i h. ap Some (omega arith) }

farther : (o n o2 n2 : ℕ) (r : List Edit) → IsShift o n o2 n2 → n < n2 → IsPatchFrom 0 o2 n2 r → IsPatchFrom 1 o n r
farther o n o2 n2 [] s pos h = tt
farther o n o2 n2 (e ∷ r) s pos h = let a = h.0 in
    (record { kept = omega arith; even = omega arith; old_order = a.old_order; new_order = a.new_order; some = a.some }, h.1)

-- after a closed edit, at a kept position or more, another is opened
pub behind-opened : (o m n o2 m2 n2 : ℕ) (xs ys r : List Edit) → IsShift o m o2 m2 → IsShift m n m2 n2 → m < m2 →
    IsPatchFrom 0 o2 m2 xs → IsPatchFrom 0 m2 n2 ys →
    Answers (record { start = record { old = o2; new = n2 }; first = record { old = o2; new = m2 }; second = record { old = m2; new = n2 } }) xs ys r →
    AnswersBehind o m n xs ys r
behind-opened o m n o2 m2 n2 xs ys r s t pos x y h =
    let u : IsShift o n o2 n2 = record { even = omega arith; later = omega arith } in
    let z = h.normal in
    record {
      normal = farther o n o2 n2 r u (omega arith) z;
      came = λ i a. ⊎_elim
          (λ b. early 0 o n o2 n2 r i u z a b ∙ sym
          (and_then-some (origin_from o m xs) _ _ (early 0 m n m2 n2 ys i t y a b)
          ∙ early 0 o m o2 m2 xs (m + (i - n)) s x (omega arith) (omega arith) ∙ ap Some (omega arith)))
          (λ b. sym (pass 0 o n o2 n2 r i u z b) ∙ h.came i b
          ∙ ap (option_and_then (beyond o2 m2 xs)) (beyond-above m2 n2 ys i b)
          ∙ and_then-same 0 m2 n2 ys (beyond o2 m2 xs) (origin_from o m xs) i y b (λ j c. beyond-above o2 m2 xs j c ∙ pass 0 o m o2 m2 xs j s x c)
          ∙ ap (option_and_then (origin_from o m xs)) (pass 0 m n m2 n2 ys i t y b))
          (cases_lt i n2);
    }
