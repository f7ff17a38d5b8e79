-- Stops that are taken out of a list and put in again.
use Rattle.std.proofs.Common.{◌≡◌, ℕ, zero, suc, ◌+◌, ◌-◌, ◌<◌, ◌≤◌, Bool, true, false, cond, eqb, eq-eqb, List, [], ◌∷◌, ◌++◌, Some, length, map, take, drop, refl, sym, ap, ◌∙◌, inl, inr, arith, ◌⊎◌, add-one, subst}
use Rattle.std.specs.List.{slice_get}
use Rattle.std.proofs.lemmas.Bool.{cases_lt, ne_eqb}
use Rattle.mark_tree.proofs.Sorting.{Every, Member}
use Rattle.block_map.specs.inside.Without.{IsRising, without}

-- none of the places is before where they rise from
pub not-member : (from k : ℕ) (bs : List ℕ) → IsRising from bs → k < from → Member k bs → ⊥
not-member from k [] rising lt m = elim m [ ]
not-member from k (a ∷ bs) rising lt m = elim m [
  | inl e ↦ absurd (omega (arith, lt, rising.0, e))
  | inr n ↦ not-member (a + 1) k bs rising.1 (omega (arith, lt, rising.0)) n
]

pub rising-less : (from low : ℕ) (bs : List ℕ) → low ≤ from → IsRising from bs → IsRising low bs
rising-less from low [] le r = tt
rising-less from low (a ∷ bs) le r = (omega (arith, le, r.0), r.1)

module _ {X : Type 0} where
  -- without places all stays
  pub nothing-out : (at : ℕ) (xs : List X) → without [] at xs ≡ xs
  nothing-out at [] = refl
  nothing-out at (x ∷ xs) = refl

  -- the item of the first place is left out
  pub without-here : (a at : ℕ) (bs : List ℕ) (x : X) (xs : List X) → a ≡ at → without (a ∷ bs) at (x ∷ xs) ≡ without bs (at + 1) xs
  without-here a at bs x xs e = ap (λ (b : Bool). cond b (without bs (at + 1) xs) (x ∷ without (a ∷ bs) (at + 1) xs)) (eq-eqb a at e)

  pub without-other : (a at : ℕ) (bs : List ℕ) (x : X) (xs : List X) → at < a → without (a ∷ bs) at (x ∷ xs) ≡ x ∷ without (a ∷ bs) (at + 1) xs
  without-other a at bs x xs lt = ap (λ (b : Bool). cond b (without bs (at + 1) xs) (x ∷ without (a ∷ bs) (at + 1) xs)) (ne_eqb a at (λ e. omega (arith, lt, e)))

  pub without-later : (at : ℕ) (bs : List ℕ) (x : X) (xs : List X) → IsRising (at + 1) bs → without bs at (x ∷ xs) ≡ x ∷ without bs (at + 1) xs
  without-later at [] x xs r = ap (λ (l : List X). x ∷ l) (sym (nothing-out (at + 1) xs))
  without-later at (a ∷ bs) x xs r = without-other a at bs x xs (omega (arith, r.0))

  -- One place more: what is left is what was left before without the item of that place.
  pub record OneMore (a at : ℕ) (bs : List ℕ) (xs : List X) : Type 0 where
    pub same : slice_get (without bs at xs) (a - at) ≡ slice_get xs (a - at)
    pub rest : without (a ∷ bs) at xs ≡ take (a - at) (without bs at xs) ++ drop (a - at + 1) (without bs at xs)

  pub one-more : (n a at : ℕ) (bs : List ℕ) (xs : List X) → a ≡ at + n → IsRising (a + 1) bs → n < length xs → OneMore a at bs xs
  one-more n a at bs [] e r lt = absurd (omega (arith, lt))
  one-more zero a at bs (x ∷ xs) e r lt =
      let here : a ≡ at = omega (arith, e) in
      let z : a - at ≡ 0 = omega (arith, e) in
      let later = without-later at bs x xs (rising-less (a + 1) (at + 1) bs (omega (arith, e)) r) in
      record {
        same = ap (slice_get (without bs at (x ∷ xs))) z ∙ ap (λ (l : List X). slice_get l 0) later ∙ sym (ap (slice_get (x ∷ xs)) z);
        rest =
            without-here a at bs x xs here
            ∙ sym (ap (λ (k : ℕ). take k (without bs at (x ∷ xs)) ++ drop (k + 1) (without bs at (x ∷ xs))) z ∙ ap (λ (l : List X). take 0 l ++ drop 1 l) later);
      }
  one-more (suc n) a at bs (x ∷ xs) e r lt =
      let next = one-more n a (at + 1) bs xs (omega (arith, e)) r (omega (arith, lt)) in
      let z : a - at ≡ suc (a - (at + 1)) = omega (arith, e) in
      let later = without-later at bs x xs (rising-less (a + 1) (at + 1) bs (omega (arith, e)) r) in
      let k : ℕ = a - (at + 1) in
      let one : suc k + 1 ≡ suc (k + 1) = omega arith in
      record {
        same = ap (slice_get (without bs at (x ∷ xs))) z ∙ ap (λ (l : List X). slice_get l (suc k)) later ∙ next.same ∙ sym (ap (slice_get (x ∷ xs)) z);
        rest =
            without-other a at bs x xs (omega (arith, e))
            ∙ ap (λ (l : List X). x ∷ l) next.rest
            ∙ sym (
            ap (λ (k : ℕ). take k (without bs at (x ∷ xs)) ++ drop (k + 1) (without bs at (x ∷ xs))) z
            ∙ ap (λ (l : List X). take (suc k) l ++ drop (suc k + 1) l) later
            ∙ ap (λ (i : ℕ). take (suc k) (x ∷ without bs (at + 1) xs) ++ drop i (x ∷ without bs (at + 1) xs)) one
            );
      }

  -- an item that is put where it was taken out
  pub put-in : (ys : List X) (n : ℕ) (y : X) → slice_get ys n ≡ Some y → take n (take n ys ++ drop (n + 1) ys) ++ y ∷ drop n (take n ys ++ drop (n + 1) ys) ≡ ys
  put-in ys n y is = ap (λ (m : ℕ). take n (take n ys ++ drop m ys) ++ y ∷ drop n (take n ys ++ drop m ys)) (add-one n) ∙ go ys n is where
    go : (ys : List X) (n : ℕ) → slice_get ys n ≡ Some y → take n (take n ys ++ drop (suc n) ys) ++ y ∷ drop n (take n ys ++ drop (suc n) ys) ≡ ys
    go [] zero e = absurd (cc)
    go [] (suc n) e = absurd (cc)
    go (x ∷ []) zero e = let f : x ≡ y = cc in ap (λ (z : X). z ∷ []) (sym f)
    go (x ∷ z ∷ xs) zero e = let f : x ≡ y = cc in ap (λ (w : X). w ∷ z ∷ xs) (sym f)
    go (x ∷ xs) (suc n) e = ap (λ (l : List X). x ∷ l) (go xs n e)

  -- ---- what holds of the items that are left

  pub every-left : (P : X → Type 0) (bs : List ℕ) (at : ℕ) (xs : List X) → Every P xs → Every P (without bs at xs)
  every-left P bs at [] all = tt
  every-left P [] at (x ∷ xs) all = all
  every-left P (a ∷ bs) at (x ∷ xs) all = go (eqb a at) (every-left P bs (at + 1) xs all.1) (every-left P (a ∷ bs) (at + 1) xs all.1) where
    go : (b : Bool) → Every P (without bs (at + 1) xs) → Every P (without (a ∷ bs) (at + 1) xs) → Every P (cond b (without bs (at + 1) xs) (x ∷ without (a ∷ bs) (at + 1) xs))
    go true r s = r
    go false r s = (all.0, s)

  -- of each item it holds, or its place is left out
  pub every-other : (P : X → Type 0) (bs : List ℕ) (at : ℕ) (xs : List X) → IsRising at bs → ((k : ℕ) (x : X) → slice_get xs k ≡ Some x → Member (at + k) bs ⊎ P x) → Every P (without bs at xs)
  every-other P bs at [] r each = tt
  every-other P [] at (x ∷ xs) r each = (here, subst (Every P) (nothing-out (at + 1) xs) (every-other P [] (at + 1) xs tt (λ k y e. back k y (each (suc k) y e)))) where
    here : P x
    here = elim (each 0 x refl) [
      | inl m ↦ absurd m
      | inr p ↦ p
    ]

    back : (k : ℕ) (y : X) → ⊥ ⊎ P y → ⊥ ⊎ P y
    back k y o = o
  every-other P (a ∷ bs) at (x ∷ xs) r each = elim (cases_lt at a) [
    | inl lt ↦ subst (Every P) (sym (without-other a at bs x xs lt)) (
      here lt,
      every-other P (a ∷ bs) (at + 1) xs (omega (arith, lt), r.1) (λ k y e. shift k y (each (suc k) y e)),
    )
    | inr ge ↦
        let same : a ≡ at = omega (arith, ge, r.0) in
        subst (Every P) (sym (without-here a at bs x xs same)) (every-other P bs (at + 1) xs (rising-less (a + 1) (at + 1) bs (omega (arith, same)) r.1) (λ k y e. drop-first same k y (each (suc k) y e)))
  ] where
    here : at < a → P x
    here lt = elim (each 0 x refl) [
      | inl m ↦ absurd (not-member a (at + 0) (a ∷ bs) (omega arith, r.1) (omega (arith, lt)) m)
      | inr p ↦ p
    ]

    shift : (k : ℕ) (y : X) → Member (at + suc k) (a ∷ bs) ⊎ P y → Member (at + 1 + k) (a ∷ bs) ⊎ P y
    shift k y o = let e : at + suc k ≡ at + 1 + k = omega arith in subst (λ (n : ℕ). Member n (a ∷ bs) ⊎ P y) e o

    drop-first : a ≡ at → (k : ℕ) (y : X) → Member (at + suc k) (a ∷ bs) ⊎ P y → Member (at + 1 + k) bs ⊎ P y
    drop-first same k y o = elim (shift k y o) [
      | inl m ↦ elim m [
        | inl e ↦ absurd (omega (arith, same, e))
        | inr n ↦ inl n
      ]
      | inr p ↦ inr p
    ]

  pub length-left : (bs : List ℕ) (at : ℕ) (xs : List X) → length (without bs at xs) ≤ length xs
  length-left bs at [] = omega arith
  length-left [] at (x ∷ xs) = omega arith
  length-left (a ∷ bs) at (x ∷ xs) = go (eqb a at) (length-left bs (at + 1) xs) (length-left (a ∷ bs) (at + 1) xs) where
    go : (b : Bool) → length (without bs (at + 1) xs) ≤ length xs → length (without (a ∷ bs) (at + 1) xs) ≤ length xs
        → length (cond b (without bs (at + 1) xs) (x ∷ without (a ∷ bs) (at + 1) xs)) ≤ suc (length xs)
    go true r s = omega (arith, r)
    go false r s = omega (arith, s)

-- where all items but those that are left out go to those of another list, so does what is left
module _ {X Y : Type 0} (f : X → Y) where
  pub map-other : (bs : List ℕ) (at : ℕ) (xs : List X) (ys : List Y) → IsRising at bs → length xs ≡ length ys
      → ((k : ℕ) (x : X) (y : Y) → slice_get xs k ≡ Some x → slice_get ys k ≡ Some y → Member (at + k) bs ⊎ (f x ≡ y)) → map f (without bs at xs) ≡ without bs at ys
  map-other bs at [] [] r long each = refl
  map-other bs at [] (y ∷ ys) r long each = absurd (omega (arith, long))
  map-other bs at (x ∷ xs) [] r long each = absurd (omega (arith, long))
  map-other [] at (x ∷ xs) (y ∷ ys) r long each = ap (λ (l : List Y). f x ∷ l) (sym (ap (map f) (nothing-out (at + 1) xs)) ∙ map-other [] (at + 1) xs ys tt (omega (arith, long)) (λ k a b e g. each (suc k) a b e g) ∙ nothing-out (at + 1) ys) ∙ ap (λ (z : Y). z ∷ ys) here where
    here : f x ≡ y
    here = elim (each 0 x y refl refl) [
      | inl m ↦ absurd m
      | inr p ↦ p
    ]
  map-other (a ∷ bs) at (x ∷ xs) (y ∷ ys) r long each = elim (cases_lt at a) [
    | inl lt ↦
        ap (map f) (without-other a at bs x xs lt)
        ∙ ap (λ (z : Y). z ∷ map f (without (a ∷ bs) (at + 1) xs)) (here lt)
        ∙ ap (λ (l : List Y). y ∷ l) (map-other (a ∷ bs) (at + 1) xs ys (omega (arith, lt), r.1) (omega (arith, long)) (λ k b c e g. shift k b c (each (suc k) b c e g)))
        ∙ sym (without-other a at bs y ys lt)
    | inr ge ↦
        let same : a ≡ at = omega (arith, ge, r.0) in
        ap (map f) (without-here a at bs x xs same)
        ∙ map-other bs (at + 1) xs ys (rising-less (a + 1) (at + 1) bs (omega (arith, same)) r.1) (omega (arith, long)) (λ k b c e g. drop-first same k b c (each (suc k) b c e g))
        ∙ sym (without-here a at bs y ys same)
  ] where
    here : at < a → f x ≡ y
    here lt = elim (each 0 x y refl refl) [
      | inl m ↦ absurd (not-member a (at + 0) (a ∷ bs) (omega arith, r.1) (omega (arith, lt)) m)
      | inr p ↦ p
    ]

    shift : (k : ℕ) (b : X) (c : Y) → Member (at + suc k) (a ∷ bs) ⊎ (f b ≡ c) → Member (at + 1 + k) (a ∷ bs) ⊎ (f b ≡ c)
    shift k b c o = let e : at + suc k ≡ at + 1 + k = omega arith in subst (λ (n : ℕ). Member n (a ∷ bs) ⊎ (f b ≡ c)) e o

    drop-first : a ≡ at → (k : ℕ) (b : X) (c : Y) → Member (at + suc k) (a ∷ bs) ⊎ (f b ≡ c) → Member (at + 1 + k) bs ⊎ (f b ≡ c)
    drop-first same k b c o = elim (shift k b c o) [
      | inl m ↦ elim m [
        | inl e ↦ absurd (omega (arith, same, e))
        | inr n ↦ inl n
      ]
      | inr p ↦ inr p
    ]
