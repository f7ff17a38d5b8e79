-- What loops over the places of a list find.
use Rattle.std.proofs.Common.{◌≡◌, ℕ, ◌+◌, ◌-◌, ◌*◌, ◌/◌, ◌^◌, ◌<◌, ◌≤◌, ◌||◌, zero, suc, Bool, true, false, not, List, [], ◌∷◌, ◌++◌, length, map, take, drop, get_or, Some, None, position, refl, sym, ap, subst, ◌∙◌, arith, cond, nat_lt}
use Rattle.std.specs.List.{Contains, slice_get, position_or_len, list_any}
use Rattle.std.specs.Option.{is_some}
use Rattle.cell_units.specs.Sorting.{insert_by}
use Rattle.std.proofs.Math.Nat.{mul-le-mul_left}
use Rattle.std.proofs.lemmas.List.{take_more, get_or-drop, length-drop, length-map}
use Rattle.std.proofs.lemmas.List.Sums.{position_or_len_is, passes_at_first}
use Rattle.std.proofs.lemmas.Option.{get_or_from_slice_get, slice_get_within}
use Rattle.std.proofs.lemmas.Bool.Decides.{nat_tests}
use Rattle.mark_tree.proofs.Sorting.{Every, IsSorted}

-- what is at a place is there
pub contained : {X : Type 0} (xs : List X) (at : ℕ) (x : X) → slice_get xs at ≡ Some x → Contains xs x
contained xs at x is = (at, slice_get_within xs at x is, get_or_from_slice_get xs at x x is)

-- one more element of a part
pub copied-more : {X : Type 0} (xs : List X) (from at : ℕ) (x : X) → from ≤ at → slice_get xs at ≡ Some x → take (at + 1 - from) (drop from xs) ≡ take (at - from) (drop from xs) ++ x ∷ []
copied-more xs from at x le is =
    let within = slice_get_within xs at x is in
    let turn : at + 1 - from ≡ (at - from) + 1 = omega arith in
    let there : from + (at - from) ≡ at = omega arith in
    ap (λ n. take n (drop from xs)) turn
    ∙ take_more (drop from xs) (at - from) x (omega (arith, length-drop from xs))
    ∙ ap (λ y. take (at - from) (drop from xs) ++ y ∷ []) (get_or-drop from xs (at - from) x ∙ ap (λ n. get_or xs n x) there ∙ get_or_from_slice_get xs at x x is)

-- one more round of a loop, each of which takes x steps at most
pub steps-more : (x k n s₀ s₁ s₂ : ℕ) → k + 1 ≤ n → s₁ ≤ s₀ + x * k → s₂ ≤ s₁ + x → s₂ ≤ s₀ + x * n
steps-more x k n s₀ s₁ s₂ le p q = omega (arith, mul-le-mul_left x le)

-- the first place that passes
pub position-found : {X : Type 0} (p : X → Bool) (xs : List X) (at : ℕ) → at < length xs → ((k : ℕ) (d : X) → k < at → p (get_or xs k d) ≡ false) → ((d : X) → p (get_or xs at d) ≡ true) → Some at ≡ position p xs
position-found p [] at lt before here = absurd (omega arith)
position-found p (x ∷ xs) at lt before here =
    let is = position_or_len_is p (x ∷ xs) at x (omega arith) (λ k a. before k x a) (λ _. here x) in
    found (nat_lt (position_or_len p (x ∷ xs)) (length (x ∷ xs))) (position_or_len p (x ∷ xs)) (within (position_or_len p (x ∷ xs)) (length (x ∷ xs)) (omega arith)) (omega arith) where
      within : (m n : ℕ) → m < n → nat_lt m n ≡ true
      within m n a = grind (arith, nat_tests)

      found : (b : Bool) (n : ℕ) → b ≡ true → n ≡ at → Some at ≡ cond b (Some n) None
      found true n e f = ap (λ m. Some m) (sym f)
      found false n e f = absurd (cc)

pub position-none : {X : Type 0} (p : X → Bool) (xs : List X) → ((k : ℕ) (d : X) → k < length xs → p (get_or xs k d) ≡ false) → None ≡ position p xs
position-none p [] before = refl
position-none p (x ∷ xs) before =
    let is = position_or_len_is p (x ∷ xs) (length (x ∷ xs)) x (omega arith) (λ k a. before k x a) (λ lt. absurd (omega arith)) in
    found (nat_lt (position_or_len p (x ∷ xs)) (length (x ∷ xs))) (past (position_or_len p (x ∷ xs)) (length (x ∷ xs)) (omega arith)) where
      past : (m n : ℕ) → n ≤ m → nat_lt m n ≡ false
      past m n a = grind (arith, nat_tests)

      found : (b : Bool) → b ≡ false → None ≡ cond b (Some (position_or_len p (x ∷ xs))) None
      found true e = absurd (cc)
      found false e = refl

-- a first place is there exactly where a member passes
pub position-any : {X : Type 0} (p : X → Bool) (xs : List X) → is_some (position p xs) ≡ list_any p xs
position-any p xs = some (nat_lt (position_or_len p xs) (length xs)) (position_or_len p xs) ∙ go p xs where
  some : (b : Bool) (n : ℕ) → is_some (cond b (Some n) None) ≡ b
  some true n = refl
  some false n = refl

  one_more : (m n : ℕ) → nat_lt (1 + m) (suc n) ≡ nat_lt m n
  one_more m n = grind (arith, nat_tests)

  none_before : (n : ℕ) → nat_lt 0 (suc n) ≡ true
  none_before n = grind (arith, nat_tests)

  go : {X : Type 0} (q : X → Bool) (ys : List X) → nat_lt (position_or_len q ys) (length ys) ≡ list_any q ys
  go q [] = refl
  go q (y ∷ ys) = first (q y) (go q ys) where
    first : (b : Bool) → nat_lt (position_or_len q ys) (length ys) ≡ list_any q ys → nat_lt (cond (not b) (1 + position_or_len q ys) 0) (length (y ∷ ys)) ≡ (b || list_any q ys)
    first true e = none_before (length ys)
    first false e = one_more (position_or_len q ys) (length ys) ∙ e

-- the first place that passes among the images
pub position-map : {X Y : Type 0} (f : X → Y) (p : X → Bool) (q : Y → Bool) → ((x : X) → p x ≡ q (f x)) → (xs : List X) → position p xs ≡ position q (map f xs)
position-map {X = X} f p q same xs = λ i. cond (nat_lt (go xs i) (sym (length-map xs f) i)) (Some (go xs i)) None where
  go : (xs : List X) → position_or_len p xs ≡ position_or_len q (map f xs)
  go [] = refl
  go (x ∷ xs) = λ i. cond (not (same x i)) (1 + go xs i) 0

-- where one is inserted that is above all before a place, and not above the one there
pub place-at : {X : Type 0} (le : X → X → Bool) (x : X) (xs : List X) (at : ℕ) → at ≤ length xs → ((k : ℕ) (d : X) → k < at → le x (get_or xs k d) ≡ false) → ((d : X) → at < length xs → le x (get_or xs at d) ≡ true)
    → insert_by le x xs ≡ take at xs ++ x ∷ drop at xs
place-at le x [] zero in' less here = refl
place-at le x [] (suc at) in' less here = absurd (omega arith)
place-at le x (y ∷ ys) zero in' less here = λ i. cond (here y (omega arith) i) (x ∷ y ∷ ys) (y ∷ insert_by le x ys)
place-at le x (y ∷ ys) (suc at) in' less here =
    (λ i. cond (less 0 y (omega arith) i) (x ∷ y ∷ ys) (y ∷ insert_by le x ys))
    ∙ ap (λ l. y ∷ l) (place-at le x ys at (omega arith) (λ k d lt. less (suc k) d (omega arith)) (λ d lt. here d (omega arith)))

-- what a first place is
pub position-some : {X : Type 0} (p : X → Bool) (xs : List X) (at : ℕ) → position p xs ≡ Some at → (at < length xs) × ((d : X) → p (get_or xs at d) ≡ true)
position-some {X = X} p xs at is = go (nat_lt (position_or_len p xs) (length xs)) refl is where
  below : (m n : ℕ) → nat_lt m n ≡ true → m < n
  below m n e = grind (arith, nat_tests)

  some-is : (m n : ℕ) → Some m ≡ Some n → m ≡ n
  some-is m n e = cc

  go : (b : Bool) → nat_lt (position_or_len p xs) (length xs) ≡ b → cond b (Some (position_or_len p xs)) None ≡ Some at → (at < length xs) × ((d : X) → p (get_or xs at d) ≡ true)
  go true e f =
      let lt = below (position_or_len p xs) (length xs) e in
      subst (λ m. (m < length xs) × ((d : X) → p (get_or xs m d) ≡ true)) (some-is (position_or_len p xs) at f) (lt, λ d. passes_at_first p xs d lt)
  go false e f = absurd (cc)

-- in a sorted list, what is above one is above all before it
module _ {X : Type 0} (le : X → X → Bool) where
  every-at : (P : X → Type 0) (xs : List X) (k : ℕ) (d : X) → k < length xs → Every P xs → P (get_or xs k d)
  every-at P [] k d lt a = absurd (omega arith)
  every-at P (x ∷ xs) zero d lt a = a.0
  every-at P (x ∷ xs) (suc k) d lt a = every-at P xs k d (omega arith) a.1

  sorted-places : (xs : List X) → IsSorted le xs → (j k : ℕ) (d : X) → j < k → k < length xs → le (get_or xs j d) (get_or xs k d) ≡ true
  sorted-places [] s j k d lt in' = absurd (omega arith)
  sorted-places (x ∷ xs) s j zero d lt in' = absurd (omega arith)
  sorted-places (x ∷ xs) s zero (suc k) d lt in' = every-at (λ y. le x y ≡ true) xs k d (omega arith) s.0
  sorted-places (x ∷ xs) s (suc j) (suc k) d lt in' = sorted-places xs s.1 j k d (omega arith) (omega arith)

  -- what comes after one of them comes after all before it
  pub above-before : {K : Type 0} (le' : K → X → Bool) → ((k : K) (x y : X) → le' k x ≡ true → le x y ≡ true → le' k y ≡ true) → (key : K) (xs : List X) → IsSorted le xs → (at : ℕ) (d : X) → at < length xs
      → le' key (get_or xs at d) ≡ false → (k : ℕ) → k < at → le' key (get_or xs k d) ≡ false
  above-before le' trans key xs s at d in' not k lt = go (le' key (get_or xs k d)) refl where
    go : (b : Bool) → le' key (get_or xs k d) ≡ b → b ≡ false
    go true e = absurd (differ (sym (trans key (get_or xs k d) (get_or xs at d) e (sorted-places xs s k at d lt in')) ∙ not)) where
      differ : true ≡ false → ⊥
      differ f = cc
    go false e = refl

-- half of what is less than a power of 2 is less than the power before it
pub halved : (n k : ℕ) → 0 < n → n < 2 ^ k → (1 ≤ k) × (n / 2 < 2 ^ (k - 1))
halved n zero some few = absurd (omega arith)
halved n (suc k) some few =
    let before : suc k - 1 ≡ k = omega arith in
    (omega arith, subst (λ m. n / 2 < 2 ^ m) (sym before) (omega arith))
