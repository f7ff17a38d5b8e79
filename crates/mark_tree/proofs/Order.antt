-- The order by offset, bias, length and id, and what sorting by it does.
use Rattle.std.proofs.Common.{◌≡◌, ℕ, ◌+◌, ◌<◌, ◌≤◌, ◌==◌, ◌&&◌, ◌||◌, nat_lt, nat_le, Bool, true, false, cond, List, length, get_or, count_by, refl, sym, ◌∙◌, arith, ◌⊎◌, inl, inr}
use Rattle.std.specs.List.Sorted.{IsPermutation}
use Rattle.std.specs.Ordering.{is_lt, nat_cmp, ordering_then}
use Rattle.std.specs.declared.cmp.Ordering.{Ordering}
use Rattle.std.specs.declared.cmp.Ordering.TheVariants.{Less, Equal, Greater}
use Rattle.std.proofs.lemmas.List.Sorted.{Contains-permutation, IsPermutation-sym, sum_by-IsPermutation}
use Rattle.std.proofs.lemmas.Bool.Decides.{nat_tests}
use Rattle.cell_units.specs.Record.{in_order, bias_rank}
use Rattle.cell_units.specs.Sorting.{sort_by}
use Rattle.mark_tree.specs.declared.entry.Placed.{Placed}
use Rattle.mark_tree.specs.declared.key.Key.{Key}
use Rattle.mark_tree.specs.Order.{key_le, placed_le, key_of, has_placed_id}
use Rattle.mark_tree.proofs.Sorting.{IsSorted, sorted-sort, sorted-from_same, sorted-from_adjacent, one_order, count-sort, member-sort, sort-member, contains-from_member, member-from_contains, fresh-from_count}

-- what an order by one number and then another says
pub in_order-below : (a b : ℕ) (r : Bool) → a < b → in_order a b r ≡ true
in_order-below a b r lt = first (nat_lt a b) ((a == b) && r) (grind (arith, nat_tests)) where
  first : (c d : Bool) → c ≡ true → (c || d) ≡ true
  first true d e = refl
  first false d e = absurd (cc)

pub in_order-same : (a b : ℕ) (r : Bool) → a ≡ b → r ≡ true → in_order a b r ≡ true
in_order-same a b r same is = second (nat_lt a b) (a == b) r (grind (arith, nat_tests)) is where
  second : (c d e : Bool) → d ≡ true → e ≡ true → (c || (d && e)) ≡ true
  second true d e p q = refl
  second false true true p q = refl
  second false true false p q = q
  second false false e p q = absurd (cc)

pub in_order-cases : (a b : ℕ) (r : Bool) → in_order a b r ≡ true → (a < b) ⊎ ((a ≡ b) × (r ≡ true))
in_order-cases a b r is = go (nat_lt a b) (a == b) r refl refl is where
  go : (c d e : Bool) → nat_lt a b ≡ c → (a == b) ≡ d → (c || (d && e)) ≡ true → (a < b) ⊎ ((a ≡ b) × (e ≡ true))
  go true d e p q h = inl (grind (arith, nat_tests))
  go false true true p q h = inr (grind (arith, nat_tests), refl)
  go false true false p q h = absurd (cc)
  go false false e p q h = absurd (cc)

pub in_order-not : (a b : ℕ) (r : Bool) → in_order a b r ≡ false → (b < a) ⊎ ((a ≡ b) × (r ≡ false))
in_order-not a b r is = go (nat_lt a b) (a == b) r refl refl is where
  go : (c d e : Bool) → nat_lt a b ≡ c → (a == b) ≡ d → (c || (d && e)) ≡ false → (b < a) ⊎ ((a ≡ b) × (e ≡ false))
  go true d e p q h = absurd (cc)
  go false true true p q h = absurd (cc)
  go false true false p q h = inr (grind (arith, nat_tests), refl)
  go false false e p q h = inl (grind (arith, nat_tests))

in_order-total : (a b : ℕ) (r r' : Bool) → (r ≡ false → r' ≡ true) → in_order a b r ≡ false → in_order b a r' ≡ true
in_order-total a b r r' rest not = elim (in_order-not a b r not) [
  | inl lt ↦ in_order-below b a r' lt
  | inr e ↦ in_order-same b a r' (sym e.0) (rest e.1)
]

in_order-trans : (a b c : ℕ) (r r' r'' : Bool) → (r ≡ true → r' ≡ true → r'' ≡ true) → in_order a b r ≡ true → in_order b c r' ≡ true → in_order a c r'' ≡ true
in_order-trans a b c r r' r'' rest p q = elim (in_order-cases a b r p) [
  | inl lt ↦ elim (in_order-cases b c r' q) [ inl lt' ↦ in_order-below a c r'' (omega arith) | inr e ↦ in_order-below a c r'' (omega (arith, e.0)) ]
  | inr d ↦ elim (in_order-cases b c r' q) [ inl lt' ↦ in_order-below a c r'' (omega (arith, d.0)) | inr e ↦ in_order-same a c r'' (d.0 ∙ e.0) (rest d.1 e.1) ]
]

in_order-both : (a b : ℕ) (r r' : Bool) → in_order a b r ≡ true → in_order b a r' ≡ true → (r ≡ true) × (r' ≡ true)
in_order-both a b r r' p q = elim (in_order-cases a b r p) [
  | inl lt ↦ elim (in_order-cases b a r' q) [ inl lt' ↦ absurd (omega arith) | inr e ↦ absurd (omega (arith, e.0)) ]
  | inr d ↦ elim (in_order-cases b a r' q) [ inl lt' ↦ absurd (omega (arith, d.0)) | inr e ↦ (d.1, e.1) ]
]

nat_le-total : (a b : ℕ) → nat_le a b ≡ false → nat_le b a ≡ true
nat_le-total a b e = grind (arith, nat_tests)

nat_le-trans : (a b c : ℕ) → nat_le a b ≡ true → nat_le b c ≡ true → nat_le a c ≡ true
nat_le-trans a b c p q = grind (arith, nat_tests)

nat_le-both : (a b : ℕ) → nat_le a b ≡ true → nat_le b a ≡ true → a ≡ b
nat_le-both a b p q = grind (arith, nat_tests)

-- comparing by one number and then by others
then_not_lt : (a b : ℕ) (o : Ordering) (r : Bool) → (is_lt o ≡ false → r ≡ true) → is_lt (ordering_then (nat_cmp b a) o) ≡ false → in_order a b r ≡ true
then_not_lt a b o r rest = go (nat_lt b a) (b == a) refl refl where
  go : (c d : Bool) → nat_lt b a ≡ c → (b == a) ≡ d → is_lt (ordering_then (cond c Less (cond d Equal Greater)) o) ≡ false → in_order a b r ≡ true
  go true d p q h = absurd (cc)
  go false true p q h = in_order-same a b r (grind (arith, nat_tests)) (rest h)
  go false false p q h = in_order-below a b r (grind (arith, nat_tests))

then_lt : (a b : ℕ) (o : Ordering) (r : Bool) → (is_lt o ≡ true → r ≡ false) → is_lt (ordering_then (nat_cmp b a) o) ≡ true → in_order a b r ≡ false
then_lt a b o r rest = go (nat_lt b a) (b == a) refl refl where
  above : (c d e : Bool) → c ≡ false → d ≡ false → (c || (d && e)) ≡ false
  above true d e p q = absurd (cc)
  above false true e p q = absurd (cc)
  above false false e p q = refl

  level : (c d e : Bool) → c ≡ false → e ≡ false → (c || (d && e)) ≡ false
  level true d e p q = absurd (cc)
  level false true e p q = q
  level false false e p q = refl

  go : (c d : Bool) → nat_lt b a ≡ c → (b == a) ≡ d → is_lt (ordering_then (cond c Less (cond d Equal Greater)) o) ≡ true → in_order a b r ≡ false
  go true d p q h = above (nat_lt a b) (a == b) r (grind (arith, nat_tests)) (grind (arith, nat_tests))
  go false true p q h = level (nat_lt a b) (a == b) r (grind (arith, nat_tests)) (rest h)
  go false false p q h = absurd (cc)

last_not_lt : (a b : ℕ) → is_lt (nat_cmp b a) ≡ false → nat_le a b ≡ true
last_not_lt a b h = grind (arith, nat_tests)

last_lt : (a b : ℕ) → is_lt (nat_cmp b a) ≡ true → nat_le a b ≡ false
last_lt a b h = grind (arith, nat_tests)

-- how keys compare
abbrev pub key_cmp : Key → Key → Ordering
key_cmp k l = ordering_then (nat_cmp k.offset l.offset) (ordering_then (nat_cmp k.bias l.bias) (ordering_then (nat_cmp k.length l.length) (nat_cmp k.id l.id)))

pub key_le-from : (k l : Key) → is_lt (key_cmp l k) ≡ false → key_le k l ≡ true
key_le-from k l =
    then_not_lt k.offset l.offset (ordering_then (nat_cmp l.bias k.bias) (ordering_then (nat_cmp l.length k.length) (nat_cmp l.id k.id))) (in_order k.bias l.bias (in_order k.length l.length (nat_le k.id l.id)))
    (then_not_lt k.bias l.bias (ordering_then (nat_cmp l.length k.length) (nat_cmp l.id k.id)) (in_order k.length l.length (nat_le k.id l.id))
    (then_not_lt k.length l.length (nat_cmp l.id k.id) (nat_le k.id l.id) (last_not_lt k.id l.id)))

pub not_key_le-from : (k l : Key) → is_lt (key_cmp l k) ≡ true → key_le k l ≡ false
not_key_le-from k l =
    then_lt k.offset l.offset (ordering_then (nat_cmp l.bias k.bias) (ordering_then (nat_cmp l.length k.length) (nat_cmp l.id k.id))) (in_order k.bias l.bias (in_order k.length l.length (nat_le k.id l.id)))
    (then_lt k.bias l.bias (ordering_then (nat_cmp l.length k.length) (nat_cmp l.id k.id)) (in_order k.length l.length (nat_le k.id l.id))
    (then_lt k.length l.length (nat_cmp l.id k.id) (nat_le k.id l.id) (last_lt k.id l.id)))

pub key_le-trans : (k l m : Key) → key_le k l ≡ true → key_le l m ≡ true → key_le k m ≡ true
key_le-trans p q r =
    in_order-trans p.offset q.offset r.offset (in_order p.bias q.bias (in_order p.length q.length (nat_le p.id q.id))) (in_order q.bias r.bias (in_order q.length r.length (nat_le q.id r.id))) (in_order p.bias r.bias (in_order p.length r.length (nat_le p.id r.id)))
    (in_order-trans p.bias q.bias r.bias (in_order p.length q.length (nat_le p.id q.id)) (in_order q.length r.length (nat_le q.id r.id)) (in_order p.length r.length (nat_le p.id r.id))
    (in_order-trans p.length q.length r.length (nat_le p.id q.id) (nat_le q.id r.id) (nat_le p.id r.id) (nat_le-trans p.id q.id r.id)))

module _ {P : Type 0} where
  pub le-from_key : (p q : Placed P) → is_lt (key_cmp (key_of q) (key_of p)) ≡ false → placed_le p q ≡ true
  le-from_key p q = key_le-from (key_of p) (key_of q)

  pub le-total : (p q : Placed P) → placed_le p q ≡ false → placed_le q p ≡ true
  le-total p q =
      in_order-total p.offset q.offset (in_order (bias_rank p.bias) (bias_rank q.bias) (in_order p.length q.length (nat_le p.id q.id))) (in_order (bias_rank q.bias) (bias_rank p.bias) (in_order q.length p.length (nat_le q.id p.id)))
      (in_order-total (bias_rank p.bias) (bias_rank q.bias) (in_order p.length q.length (nat_le p.id q.id)) (in_order q.length p.length (nat_le q.id p.id))
      (in_order-total p.length q.length (nat_le p.id q.id) (nat_le q.id p.id) (nat_le-total p.id q.id)))

  pub le-trans : (p q r : Placed P) → placed_le p q ≡ true → placed_le q r ≡ true → placed_le p r ≡ true
  le-trans p q r = key_le-trans (key_of p) (key_of q) (key_of r)

  pub le-same_id : (p q : Placed P) → placed_le p q ≡ true → placed_le q p ≡ true → p.id ≡ q.id
  le-same_id p q a b =
      let c = in_order-both p.offset q.offset (in_order (bias_rank p.bias) (bias_rank q.bias) (in_order p.length q.length (nat_le p.id q.id))) (in_order (bias_rank q.bias) (bias_rank p.bias) (in_order q.length p.length (nat_le q.id p.id))) a b in
      let d = in_order-both (bias_rank p.bias) (bias_rank q.bias) (in_order p.length q.length (nat_le p.id q.id)) (in_order q.length p.length (nat_le q.id p.id)) c.0 c.1 in
      let e = in_order-both p.length q.length (nat_le p.id q.id) (nat_le q.id p.id) d.0 d.1 in
      nat_le-both p.id q.id e.0 e.1

  -- an order of things is an order of offsets
  pub le-offset : (p q : Placed P) → placed_le p q ≡ true → p.offset ≤ q.offset
  le-offset p q is = elim (in_order-cases p.offset q.offset (in_order (bias_rank p.bias) (bias_rank q.bias) (in_order p.length q.length (nat_le p.id q.id))) is) [
    | inl lt ↦ omega arith
    | inr e ↦ omega (arith, e.0)
  ]

  pub offset-le : (p q : Placed P) → p.offset < q.offset → placed_le p q ≡ true
  offset-le p q lt = in_order-below p.offset q.offset (in_order (bias_rank p.bias) (bias_rank q.bias) (in_order p.length q.length (nat_le p.id q.id))) lt

  pub sorted-placed : (ps : List (Placed P)) → sort_by placed_le ps ≡ ps → IsSorted placed_le ps
  sorted-placed ps same = sorted-from_same placed_le le-total le-trans ps same

  -- what std's sort makes of things of distinct ids
  pub sorted-by_key : (xs ys : List (Placed P)) → ((id : ℕ) → count_by (has_placed_id id) xs ≤ 1) → IsPermutation xs ys
      → ((k : ℕ) (d : Placed P) → 0 ≤ k → k + 1 < length ys → is_lt (key_cmp (key_of (get_or ys (k + 1) d)) (key_of (get_or ys k d))) ≡ false) → ys ≡ sort_by placed_le xs
  sorted-by_key xs ys distinct same up =
      one_order placed_le (λ p. p.id) le-same_id ys (sort_by placed_le xs)
      (sorted-from_adjacent placed_le le-total le-trans ys (λ k d lt. le-from_key (get_or ys k d) (get_or ys (k + 1) d) (up k d (omega arith) lt)))
      (sorted-sort placed_le le-total le-trans xs)
      (fresh-from_count (λ p. p.id) ys (λ n. omega (arith, distinct n, sum_by-IsPermutation (λ p. cond (has_placed_id n p) 1 0) xs ys same)))
      (fresh-from_count (λ p. p.id) (sort_by placed_le xs) (λ n. omega (arith, distinct n, count-sort placed_le (has_placed_id n) xs)))
      (λ z m. sort-member placed_le z xs (member-from_contains z xs (Contains-permutation ys xs z (IsPermutation-sym xs ys same) (contains-from_member z ys m))))
      (λ z m. member-from_contains z ys (Contains-permutation xs ys z same (contains-from_member z xs (member-sort placed_le z xs m))))
