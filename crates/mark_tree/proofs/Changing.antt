-- What adding one and taking one off does to a list in order.
use Rattle.std.proofs.Common.{◌≡◌, ℕ, zero, suc, ◌+◌, ◌-◌, ◌*◌, ◌<◌, ◌≤◌, ◌^◌, ◌==◌, ◌||◌, not, Bool, true, false, cond, List, [], ◌∷◌, ◌++◌, length, take, drop, map, filter, get_or, count_by, Some, refl, sym, ap, subst, ◌∙◌, arith, add-one}
use Rattle.std.specs.List.{All, list_any, slice_get}
use Rattle.std.proofs.lemmas.List.Elements.{All-nil, All-cons, All-head, All-tail, All-filter}
use Rattle.std.proofs.lemmas.List.Sums.{length-filter, count_by-le-length}
use Rattle.std.proofs.lemmas.Bool.Decides.{nat_tests}
use Rattle.std.proofs.lemmas.Option.{get_or_from_slice_get, slice_get_within}
use Rattle.cell_units.specs.declared.place.Shift.{Shift}
use Rattle.cell_units.specs.Sorting.{insert_by}
use Rattle.mark_tree.specs.Bounds.{splicing, taking}
use Rattle.mark_tree.specs.declared.entry.Placed.{Placed}
use Rattle.mark_tree.specs.Entries.{end_at, IsSpaced, IsCodable, shifted, spliced}
use Rattle.mark_tree.specs.declared.key.Key.{Key}
use Rattle.mark_tree.specs.Order.{key_le, key_of, placed_le, has_placed_id, lacks_placed_id, IsOrdered, IsPlaceFor}
use Rattle.mark_tree.proofs.Finding.{place-at}
use Rattle.mark_tree.proofs.Sorting.{Every, IsSorted, every-insert, count-cons, count-insert, length-insert, sorted-insert, sort-sorted}
use Rattle.mark_tree.proofs.Order.{le-total, le-trans, le-offset, sorted-placed}

pub every-from_all : {X : Type 0} (P : X → Type 0) (xs : List X) → All P xs → Every P xs
every-from_all P [] a = tt
every-from_all P (x ∷ xs) a = (All-head P x xs a, every-from_all P xs (All-tail P x xs a))

pub all-from_every : {X : Type 0} (P : X → Type 0) (xs : List X) → Every P xs → All P xs
all-from_every P [] a = All-nil P
all-from_every P (x ∷ xs) a = All-cons P x xs a.0 (all-from_every P xs a.1)

at_most_one : (b : Bool) → cond b 1 0 ≤ 1
at_most_one true = omega arith
at_most_one false = omega arith

zero-of : (b : Bool) → b ≡ false → cond b 1 0 ≤ 0
zero-of true e = absurd (cc)
zero-of false e = omega arith

abbrev pub no_shift : Shift
no_shift = record { start = 0; end = 0; count = 0; ordered = omega arith }

module _ {X : Type 0} (le : X → X → Bool) where
  every-filter : (P : X → Type 0) (p : X → Bool) (xs : List X) → Every P xs → Every P (filter p xs)
  every-filter P p [] a = tt
  every-filter P p (x ∷ xs) a = go (p x) (every-filter P p xs a.1) where
    go : (b : Bool) → Every P (filter p xs) → Every P (cond b (x ∷ filter p xs) (filter p xs))
    go true r = (a.0, r)
    go false r = r

  pub sorted-filter : (p : X → Bool) (xs : List X) → IsSorted le xs → IsSorted le (filter p xs)
  sorted-filter p [] a = tt
  sorted-filter p (x ∷ xs) a = go (p x) (every-filter (λ y. le x y ≡ true) p xs a.0) (sorted-filter p xs a.1) where
    go : (b : Bool) → Every (λ y. le x y ≡ true) (filter p xs) → IsSorted le (filter p xs) → IsSorted le (cond b (x ∷ filter p xs) (filter p xs))
    go true e r = (e, r)
    go false e r = r

module _ {X : Type 0} where
  pub count-filter : (p q : X → Bool) (xs : List X) → count_by q (filter p xs) ≤ count_by q xs
  count-filter p q [] = omega arith
  count-filter p q (x ∷ xs) = go (p x) (count-filter p q xs) where
    go : (b : Bool) → count_by q (filter p xs) ≤ count_by q xs → count_by q (cond b (x ∷ filter p xs) (filter p xs)) ≤ count_by q (x ∷ xs)
    go true r = omega (arith, count-cons q x (filter p xs), count-cons q x xs, r)
    go false r = omega (arith, count-cons q x xs, r)

  pub count-none : (p : X → Bool) (xs : List X) → list_any p xs ≡ false → count_by p xs ≡ 0
  count-none p [] e = refl
  count-none p (x ∷ xs) e = go (p x) e (count-cons p x xs) (count-none p xs) where
    go : (b : Bool) → (b || list_any p xs) ≡ false → count_by p (x ∷ xs) ≡ cond b 1 0 + count_by p xs → (list_any p xs ≡ false → count_by p xs ≡ 0) → count_by p (x ∷ xs) ≡ 0
    go true f c r = absurd (cc)
    go false f c r = omega (arith, c, r f)

  filter-none : (p : X → Bool) (ys : List X) → count_by p ys ≡ 0 → filter (λ y. not (p y)) ys ≡ ys
  filter-none p [] c = refl
  filter-none p (y ∷ ys) c = next (p y) (count-cons p y ys) (filter-none p ys) where
    next : (b : Bool) → count_by p (y ∷ ys) ≡ cond b 1 0 + count_by p ys → (count_by p ys ≡ 0 → filter (λ z. not (p z)) ys ≡ ys) → cond (not b) (y ∷ filter (λ z. not (p z)) ys) (filter (λ z. not (p z)) ys) ≡ y ∷ ys
    next true d r = absurd (omega (arith, c, d))
    next false d r = ap (λ l. y ∷ l) (r (omega (arith, c, d)))

  passed : (p : X → Bool) (ys : List X) (k : ℕ) → k < length ys → ((d : X) → p (get_or ys k d) ≡ true) → 1 ≤ count_by p ys
  passed p [] k l h = absurd (omega arith)
  passed p (y ∷ ys) zero l h = top (p y) (h y) (count-cons p y ys) where
    top : (b : Bool) → b ≡ true → count_by p (y ∷ ys) ≡ cond b 1 0 + count_by p ys → 1 ≤ count_by p (y ∷ ys)
    top true e c = omega (arith, c)
    top false e c = absurd (cc)
  passed p (y ∷ ys) (suc k) l h = omega (arith, passed p ys k (omega arith) h, count-cons p y ys)

  -- where one alone passes, the rest is all but that one
  pub filter-one : (p : X → Bool) (xs : List X) (at : ℕ) → at < length xs → ((d : X) → p (get_or xs at d) ≡ true) → count_by p xs ≤ 1 → filter (λ x. not (p x)) xs ≡ take at xs ++ drop (at + 1) xs
  filter-one p [] at lt here few = absurd (omega arith)
  filter-one p (x ∷ xs) zero lt here few = go (p x) (here x) (count-cons p x xs) where
    go : (b : Bool) → b ≡ true → count_by p (x ∷ xs) ≡ cond b 1 0 + count_by p xs → cond (not b) (x ∷ filter (λ z. not (p z)) xs) (filter (λ z. not (p z)) xs) ≡ xs
    go true e c = filter-none p xs (omega (arith, few, c))
    go false e c = absurd (cc)
  filter-one p (x ∷ xs) (suc at) lt here few = turn (go (p x) refl (count-cons p x xs) (λ f. filter-one p xs at (omega arith) here f)) where
    turn : filter (λ z. not (p z)) (x ∷ xs) ≡ (x ∷ take at xs) ++ drop (at + 1) xs → filter (λ z. not (p z)) (x ∷ xs) ≡ (x ∷ take at xs) ++ drop (suc at + 1) (x ∷ xs)
    turn e = e ∙ ap (λ n. (x ∷ take at xs) ++ drop n xs) (add-one at) ∙ ap (λ n. (x ∷ take at xs) ++ drop n (x ∷ xs)) (sym (add-one (suc at)))

    go : (b : Bool) → p x ≡ b → count_by p (x ∷ xs) ≡ cond b 1 0 + count_by p xs → (count_by p xs ≤ 1 → filter (λ z. not (p z)) xs ≡ take at xs ++ drop (at + 1) xs) → cond (not b) (x ∷ filter (λ z. not (p z)) xs) (filter (λ z. not (p z)) xs) ≡ (x ∷ take at xs) ++ drop (at + 1) xs
    go true e c r = absurd (omega (arith, few, c, passed p xs at (omega arith) here))
    go false e c r = ap (λ l. x ∷ l) (r (omega (arith, few, c)))

module _ {P : Type 0} where
  pub shifted-none : (ps : List (Placed P)) → map (shifted no_shift) ps ≡ ps
  shifted-none [] = refl
  shifted-none (p ∷ ps) =
      let same : p.offset + 0 - (0 - 0) ≡ p.offset = omega arith in
      λ i. record { offset = same i; bias = p.bias; length = p.length; id = p.id; load = p.load } ∷ shifted-none ps i

  pub spaced-sorted : (o : ℕ) (ps : List (Placed P)) → Every (λ p. o ≤ p.offset) ps → IsSorted placed_le ps → IsSpaced o ps
  spaced-sorted o [] a s = tt
  spaced-sorted o (p ∷ ps) a s = (a.0, spaced-sorted p.offset ps (above ps s.0) s.1) where
    above : (qs : List (Placed P)) → Every (λ q. placed_le p q ≡ true) qs → Every (λ q. p.offset ≤ q.offset) qs
    above [] b = tt
    above (q ∷ qs) b = (le-offset p q b.0, above qs b.1)

  -- a list in order can be coded
  pub codable-sorted : (ps : List (Placed P)) → IsSorted placed_le ps → All (λ p. end_at p < 2 ^ 32) ps → length ps < 2 ^ 32 → IsCodable ps
  codable-sorted ps s e n = record { spaced = spaced-sorted 0 ps (low ps) s; ends = e; small = n } where
    low : (qs : List (Placed P)) → Every (λ q. 0 ≤ q.offset) qs
    low [] = tt
    low (q ∷ qs) = (omega arith, low qs)

  pub spliced-added : (at : ℕ) (p : Placed P) (ps : List (Placed P)) → insert_by placed_le p ps ≡ take at ps ++ p ∷ drop at ps → spliced at at (p ∷ []) no_shift ps ≡ insert_by placed_le p ps
  spliced-added at p ps is = ap (λ l. take at ps ++ p ∷ l) (shifted-none (drop at ps)) ∙ sym is

  -- the place of a key in order is that of what has this key
  pub placed-at : (p : Placed P) (ps : List (Placed P)) (key : Key) (at : ℕ) → key ≡ key_of p → IsPlaceFor key ps at → insert_by placed_le p ps ≡ take at ps ++ p ∷ drop at ps
  placed-at p ps key at is w =
      place-at placed_le p ps at w.within
      (λ k d lt. ap (λ j. key_le j (key_of (get_or ps k d))) (sym is) ∙ w.before k d lt)
      (λ d lt. ap (λ j. key_le j (key_of (get_or ps at d))) (sym is) ∙ w.from d lt)

  pub codable-added : (p : Placed P) (ps : List (Placed P)) → IsOrdered ps → IsCodable ps → end_at p < 2 ^ 32 → length ps + 1 < 2 ^ 32 → IsCodable (insert_by placed_le p ps)
  codable-added p ps o c e n =
      codable-sorted (insert_by placed_le p ps) (sorted-insert placed_le le-total le-trans p ps (sorted-placed ps o.sorted))
      (all-from_every (λ q. end_at q < 2 ^ 32) (insert_by placed_le p ps) (every-insert placed_le (λ q. end_at q < 2 ^ 32) p ps e (every-from_all (λ q. end_at q < 2 ^ 32) ps c.ends)))
      (omega (arith, length-insert placed_le p ps))

  pub ordered-added : (p : Placed P) (ps : List (Placed P)) → IsOrdered ps → list_any (has_placed_id p.id) ps ≡ false → IsOrdered (insert_by placed_le p ps)
  ordered-added p ps o fresh = record {
    sorted = sort-sorted placed_le (insert_by placed_le p ps) (sorted-insert placed_le le-total le-trans p ps (sorted-placed ps o.sorted));
    distinct = λ id. few id (p.id == id) refl;
  } where
    few : (id : ℕ) (b : Bool) → (p.id == id) ≡ b → count_by (has_placed_id id) (insert_by placed_le p ps) ≤ 1
    few id true e =
        let same : p.id ≡ id = grind (arith, nat_tests) in
        let none : count_by (has_placed_id id) ps ≡ 0 = subst (λ n. count_by (has_placed_id n) ps ≡ 0) same (count-none (has_placed_id p.id) ps fresh) in
        omega (arith, count-insert placed_le (has_placed_id id) p ps, count-cons (has_placed_id id) p ps, at_most_one (p.id == id), none)
    few id false e = omega (arith, count-insert placed_le (has_placed_id id) p ps, count-cons (has_placed_id id) p ps, zero-of (p.id == id) e, o.distinct id)

  pub length-added : (p : Placed P) (ps : List (Placed P)) → length (insert_by placed_le p ps) ≡ length ps + 1
  length-added p ps = length-insert placed_le p ps

  pub spliced-taken : (at id : ℕ) (ps : List (Placed P)) → at < length ps → ((d : Placed P) → has_placed_id id (get_or ps at d) ≡ true) → count_by (has_placed_id id) ps ≤ 1
      → spliced at (at + 1) [] no_shift ps ≡ filter (lacks_placed_id id) ps
  spliced-taken at id ps lt here few = ap (λ l. take at ps ++ l) (shifted-none (drop (at + 1) ps)) ∙ sym (filter-one (has_placed_id id) ps at lt here few)

  -- and without the thing at a place there is none of its id
  pub spliced-at : (at : ℕ) (thing : Placed P) (ps : List (Placed P)) → IsOrdered ps → slice_get ps at ≡ Some thing → spliced at (at + 1) [] no_shift ps ≡ filter (lacks_placed_id thing.id) ps
  spliced-at at thing ps o is =
      spliced-taken at thing.id ps (slice_get_within ps at thing is) (λ d. ap (has_placed_id thing.id) (get_or_from_slice_get ps at thing d is) ∙ same thing.id) (o.distinct thing.id) where
        same : (n : ℕ) → (n == n) ≡ true
        same n = grind (arith, nat_tests)

  pub spliced-out : (at : ℕ) (ps : List (Placed P)) → spliced at (at + 1) [] no_shift ps ≡ take at ps ++ drop (at + 1) ps
  spliced-out at ps = ap (λ l. take at ps ++ l) (shifted-none (drop (at + 1) ps))

  pub codable-taken : (id : ℕ) (ps : List (Placed P)) → IsOrdered ps → IsCodable ps → IsCodable (filter (lacks_placed_id id) ps)
  codable-taken id ps o c =
      codable-sorted (filter (lacks_placed_id id) ps) (sorted-filter placed_le (lacks_placed_id id) ps (sorted-placed ps o.sorted))
      (All-filter (lacks_placed_id id) (λ q. end_at q < 2 ^ 32) ps c.ends)
      (omega (arith, length-filter (lacks_placed_id id) ps, count_by-le-length (lacks_placed_id id) ps, c.small))

  pub length-taken : (id : ℕ) (ps : List (Placed P)) → length (filter (lacks_placed_id id) ps) ≤ length ps
  length-taken id ps = omega (arith, length-filter (lacks_placed_id id) ps, count_by-le-length (lacks_placed_id id) ps)

  pub ordered-taken : (id : ℕ) (ps : List (Placed P)) → IsOrdered ps → IsOrdered (filter (lacks_placed_id id) ps)
  ordered-taken id ps o = record {
    sorted = sort-sorted placed_le (filter (lacks_placed_id id) ps) (sorted-filter placed_le (lacks_placed_id id) ps (sorted-placed ps o.sorted));
    distinct = λ n. omega (arith, count-filter (lacks_placed_id id) (has_placed_id n) ps, o.distinct n);
  }

pub put-steps : (h s₀ s₁ s₂ : ℕ) → s₁ ≤ s₀ + 34 * (h + 1) → s₂ ≤ s₁ + splicing 1 h → s₂ ≤ s₀ + 196 * (h + 1)
put-steps h s₀ s₁ s₂ a b = omega arith

pub add-steps : (h n s₀ s₁ s₂ : ℕ) → 5 * s₁ ≤ 5 * s₀ + (n + 5) → s₂ ≤ s₁ + 196 * (h + 1) → 5 * s₂ ≤ 5 * s₀ + ((n + 1) + 5 * (200 * (h + 1)))
add-steps h n s₀ s₁ s₂ a b = omega arith

pub take-steps : (h n s₀ s₁ s₂ : ℕ) → 5 * s₁ ≤ 5 * s₀ + (n + 5) → s₂ ≤ s₁ + taking h → 5 * s₂ ≤ 5 * s₀ + (n + 5 * (200 * (h + 1)))
take-steps h n s₀ s₁ s₂ a b = omega arith
