-- Binary searches over joined folds and over the ends of lines.
use Rattle.std.proofs.Common.{◌≡◌, ℕ, ◌+◌, ◌<◌, ◌≤◌, ◌&&◌, suc, zero, Bool, true, false, cond, ltb, leb, eqb, List, [], ◌∷◌, length, map, filter, get_or, refl, sym, ap, ◌∙◌, subst, inl, inr, ◌⊎◌, arith}
use Rattle.std.specs.List.{AllWithin, count_by}
use Rattle.std.specs.List.Sorted.{IsPartitionPoint, IsPartitionedBy}
use Rattle.std.proofs.lemmas.Bool.{and_from, and_parts, and_right, cases_lt, eq-eqb, eqb-true, false≢true, le-leb, le-ltb, leb-true, lt-ltb, ltb-true, or_cases, or_from, or_left, or_right}
use Rattle.std.proofs.lemmas.List.Sums.{sum_by-cons}
use Rattle.cell_units.specs.declared.place.Bias.{Bias}
use Rattle.cell_units.specs.Folded.{inside}
use Rattle.cell_units.specs.Layers.{Source}
use Rattle.cell_units.proofs.CutLists.{Every}
use Rattle.plain_rows.specs.declared.folded_lines.Joined.{Joined}
use Rattle.plain_rows.specs.declared.folded_lines.LineEnd.{LineEnd}
use Rattle.plain_rows.specs.declared.folded_lines.Part.{Part}
use Rattle.plain_rows.specs.declared.folded_lines.Part.TheVariants.{Buffer, Feed, Inlay, InlayFeed, Placeholder}
use Rattle.plain_rows.specs.FoldedLines.{AreRanges, EachLies, IsChain, Lies, is_end, joined_folds, part_end, part_start}
use Rattle.plain_rows.specs.inside.PartPieces.{ends_from}
use Rattle.plain_rows.specs.inside.Passed.{inlay_passed, is_right, part_passed}
use Rattle.plain_rows.proofs.EndsOfLines.{feeds-of}
use Rattle.plain_rows.proofs.RangesApart.{below-inside}

-- ---- lists of which a prefix passes

abbrev pub Downward : {X : Type 0} → (X → Bool) → List X → Type 0
Downward p [] = Unit {0}
Downward p (x ∷ xs) = Every (λ y. p y ≡ true → p x ≡ true) xs × Downward p xs

at : {X : Type 0} (P : X → Type 0) (xs : List X) (k : ℕ) (d : X) → Every P xs → k < length xs → P (get_or xs k d)
at P [] k d all lt = absurd (omega (arith, lt))
at P (x ∷ xs) zero d all lt = all.0
at P (x ∷ xs) (suc k) d all lt = at P xs k d all.1 (omega (arith, lt))

pub parted : {X : Type 0} (p : X → Bool) (xs : List X) → Downward p xs → IsPartitionedBy p xs
parted p [] down i j d le lt h = absurd (omega (arith, lt))
parted p (x ∷ xs) down zero zero d le lt h = h
parted p (x ∷ xs) down zero (suc j) d le lt h = at (λ y. p y ≡ true → p x ≡ true) xs j d down.0 (omega (arith, lt)) h
parted p (x ∷ xs) down (suc i) zero d le lt h = absurd (omega (arith, le))
parted p (x ∷ xs) down (suc i) (suc j) d le lt h = parted p xs down.1 i j d (omega (arith, le)) (omega (arith, lt)) h

pub count-at_point : {X : Type 0} (p : X → Bool) (xs : List X) (i : ℕ) → i ≤ length xs → IsPartitionPoint (λ x. p x ≡ true) (λ x. p x ≡ false) xs i → count_by p xs ≡ i
count-at_point p [] i le point = omega (arith, le)
count-at_point p (x ∷ xs) zero le point =
    let here : p x ≡ false = point.1 0 x (omega arith) (omega arith) in
    let rest = count-at_point p xs 0 (omega arith) ((λ k d lo hi. absurd (omega (arith, hi))), (λ k d lo hi. point.1 (suc k) d (omega arith) (omega (arith, hi)))) in
    sum_by-cons (λ y. cond (p y) 1 0) x xs ∙ (λ i. cond {A = ℕ} (here i) 1 0 + rest i)
count-at_point p (x ∷ xs) (suc i) le point =
    let here : p x ≡ true = point.0 0 x (omega arith) (omega arith) in
    let rest = count-at_point p xs i (omega (arith, le)) ((λ k d lo hi. point.0 (suc k) d (omega arith) (omega (arith, hi))), (λ k d lo hi. point.1 (suc k) d (omega (arith, lo)) (omega (arith, hi)))) in
    let e : 1 + i ≡ suc i = omega arith in
    sum_by-cons (λ y. cond (p y) 1 0) x xs ∙ (λ k. cond {A = ℕ} (here k) 1 0 + rest k) ∙ e

pub count-map : {X Y : Type 0} (f : X → Y) (p : Y → Bool) (xs : List X) → count_by (λ x. p (f x)) xs ≡ count_by p (map f xs)
count-map f p [] = refl
count-map f p (x ∷ xs) =
    sum_by-cons (λ y. cond (p (f y)) 1 0) x xs ∙ ap (λ (n : ℕ). cond (p (f x)) 1 0 + n) (count-map f p xs) ∙ sym (sum_by-cons (λ y. cond (p y) 1 0) (f x) (map f xs))

pub downward-map : {X Y : Type 0} (f : X → Y) (p : Y → Bool) (xs : List X) → Downward p (map f xs) → Downward (λ x. p (f x)) xs
downward-map f p [] down = tt
downward-map f p (x ∷ xs) down = (each xs down.0, downward-map f p xs down.1) where
  each : (xs : List _) → Every (λ y. p y ≡ true → p (f x) ≡ true) (map f xs) → Every (λ y. p (f y) ≡ true → p (f x) ≡ true) xs
  each [] all = tt
  each (y ∷ ys) all = (all.0, each ys all.1)

-- ---- the ends of a chain of parts

start-end : (s : Source) (p : Part) → Lies s p → part_start p ≤ part_end p
start-end s (Buffer start end) lies = omega (arith, lies.some)
start-end s (Inlay number offset start end) lies = omega arith
start-end s (Placeholder start end) lies = omega (arith, lies)
start-end s (Feed offset) lies = omega arith
start-end s (InlayFeed number offset) lies = omega arith

later-starts : (s : Source) (n : ℕ) (q : Part) (ps : List Part) → n ≤ part_end q → IsChain q ps → EachLies s ps → Every (λ p. n ≤ part_start p) (filter is_end ps)
later-starts s n q [] le chain lie = tt
later-starts s n q (p ∷ ps) le chain lie =
    go (is_end p) (later-starts s n p ps (omega (arith, le, chain.0, start-end s p lie.0)) chain.2 lie.1) where
      go : (c : Bool) → Every (λ p. n ≤ part_start p) (filter is_end ps) → Every (λ p. n ≤ part_start p) (cond c (p ∷ filter is_end ps) (filter is_end ps))
      go true rest = (omega (arith, le, chain.0), rest)
      go false rest = rest

inlay-cases : (o : ℕ) (bias : Bias) (k : ℕ) → inlay_passed o bias k ≡ true → (k < o) ⊎ ((k ≡ o) × (is_right bias ≡ true))
inlay-cases o bias k h = elim (or_cases (ltb k o) (eqb k o && is_right bias) h) [
  | inl lt ↦ inl (ltb-true k o lt)
  | inr e ↦ let both = and_parts (eqb k o) (is_right bias) e in inr (eqb-true k o both.0, both.1)
]

-- an end that a position passes comes after others that it passes
passed-before : (o : ℕ) (bias : Bias) (p q : Part) → is_end p ≡ true → is_end q ≡ true → part_end p ≤ part_start q → part_passed o bias q ≡ true → part_passed o bias p ≡ true
passed-before o bias (Feed k) q is also le h = lt-ltb k o (bound q also le h) where
  bound : (q : Part) → is_end q ≡ true → k + 1 ≤ part_start q → part_passed o bias q ≡ true → k < o
  bound (Feed m) also le h = omega (arith, le, ltb-true m o h)
  bound (InlayFeed n m) also le h = elim (inlay-cases o bias m h) [ inl lt ↦ omega (arith, le, lt) | inr e ↦ omega (arith, le, e.0) ]
  bound (Buffer a z) also le h = absurd (false≢true also)
  bound (Inlay n m a z) also le h = absurd (false≢true also)
  bound (Placeholder a z) also le h = absurd (false≢true also)
passed-before o bias (InlayFeed i k) q is also le h = bound q also le h where
  below : k < o → inlay_passed o bias k ≡ true
  below lt = or_left (ltb k o) (eqb k o && is_right bias) (lt-ltb k o lt)

  bound : (q : Part) → is_end q ≡ true → k ≤ part_start q → part_passed o bias q ≡ true → inlay_passed o bias k ≡ true
  bound (Feed m) also le h = below (omega (arith, le, ltb-true m o h))
  bound (InlayFeed n m) also le h = elim (inlay-cases o bias m h) [
    | inl lt ↦ below (omega (arith, le, lt))
    | inr e ↦ elim (cases_lt k o) [
      | inl lt ↦ below lt
      | inr ge ↦ let same : k ≡ o = omega (arith, le, ge, e.0) in or_right (ltb k o) (eqb k o && is_right bias) (and_from (eqb k o) (is_right bias) (eq-eqb k o same) e.1)
    ]
  ]
  bound (Buffer a z) also le h = absurd (false≢true also)
  bound (Inlay n m a z) also le h = absurd (false≢true also)
  bound (Placeholder a z) also le h = absurd (false≢true also)
passed-before o bias (Buffer a z) q is also le h = absurd (false≢true is)
passed-before o bias (Inlay n m a z) q is also le h = absurd (false≢true is)
passed-before o bias (Placeholder a z) q is also le h = absurd (false≢true is)

are-ends : (ps : List Part) → Every (λ p. is_end p ≡ true) (filter is_end ps)
are-ends [] = tt
are-ends (p ∷ ps) = go (is_end p) refl (are-ends ps) where
  go : (c : Bool) → is_end p ≡ c → Every (λ p. is_end p ≡ true) (filter is_end ps) → Every (λ p. is_end p ≡ true) (cond c (p ∷ filter is_end ps) (filter is_end ps))
  go true e rest = (e, rest)
  go false e rest = rest

pub ends-downward : (s : Source) (o : ℕ) (bias : Bias) (q : Part) (ps : List Part) → IsChain q ps → EachLies s ps → Downward (part_passed o bias) (filter is_end ps)
ends-downward s o bias q [] chain lie = tt
ends-downward s o bias q (p ∷ ps) chain lie =
    go (is_end p) refl (later-starts s (part_end p) p ps (omega arith) chain.2 lie.1) (ends-downward s o bias p ps chain.2 lie.1) where
      each : is_end p ≡ true → (qs : List Part) → Every (λ q. is_end q ≡ true) qs → Every (λ q. part_end p ≤ part_start q) qs → Every (λ q. part_passed o bias q ≡ true → part_passed o bias p ≡ true) qs
      each e [] are all = tt
      each e (x ∷ xs) are all = ((λ h. passed-before o bias p x e are.0 all.0 h), each e xs are.1 all.1)

      go : (c : Bool) → is_end p ≡ c → Every (λ q. part_end p ≤ part_start q) (filter is_end ps) → Downward (part_passed o bias) (filter is_end ps) →
          Downward (part_passed o bias) (cond c (p ∷ filter is_end ps) (filter is_end ps))
      go true e starts rest = (each e (filter is_end ps) (are-ends ps) starts, rest)
      go false e starts rest = rest

-- what a search over the ends finds
pub ends-parted : (s : Source) (o : ℕ) (bias : Bias) (q : Part) (ps : List Part) → IsChain q ps → EachLies s ps → (ends : List LineEnd) → ends ≡ ends_from 0 ps →
    IsPartitionedBy (λ (e : LineEnd). part_passed o bias e.feed) ends
ends-parted s o bias q ps chain lie ends is =
    parted (λ (e : LineEnd). part_passed o bias e.feed) ends
    (downward-map (λ (e : LineEnd). e.feed) (part_passed o bias) ends
    (subst (Downward (part_passed o bias)) (sym (ap (map (λ (e : LineEnd). e.feed)) is ∙ feeds-of 0 ps)) (ends-downward s o bias q ps chain lie)))

pub ends-counted : (o : ℕ) (bias : Bias) (ps : List Part) (ends : List LineEnd) (i : ℕ) → ends ≡ ends_from 0 ps → i ≤ length ends →
    IsPartitionPoint (λ (e : LineEnd). part_passed o bias e.feed ≡ true) (λ (e : LineEnd). part_passed o bias e.feed ≡ false) ends i →
    i ≡ count_by (part_passed o bias) (filter is_end ps)
ends-counted o bias ps ends i is le point =
    sym (count-at_point (λ (e : LineEnd). part_passed o bias e.feed) ends i le point)
    ∙ count-map (λ (e : LineEnd). e.feed) (part_passed o bias) ends
    ∙ ap (count_by (part_passed o bias)) (ap (map (λ (e : LineEnd). e.feed)) is ∙ feeds-of 0 ps)

-- ---- the joined folds

pub ranges-parted : (from o : ℕ) (js : List Joined) → AreRanges from js → IsPartitionedBy (λ (j : Joined). leb j.end o) js
ranges-parted from o js r = parted (λ (j : Joined). leb j.end o) js (down from js r) where
  past : (n from : ℕ) (js : List Joined) → n ≤ from → AreRanges from js → Every (λ (j : Joined). leb j.end o ≡ true → leb n o ≡ true) js
  past n from [] le r = tt
  past n from (j ∷ js) le r = ((λ h. le-leb n o (omega (arith, leb-true j.end o h, le, r.0, r.1))), past n j.end js (omega (arith, le, r.0, r.1)) r.2)

  down : (from : ℕ) (js : List Joined) → AreRanges from js → Downward (λ (j : Joined). leb j.end o) js
  down from [] r = tt
  down from (j ∷ js) r = (past j.end j.end js (omega arith) r.2, down j.end js r.2)

-- between the ranges that end before an offset and the next one, which doesn't start before it
pub outside-ranges : (from o : ℕ) (js : List Joined) (i : ℕ) → AreRanges from js → i ≤ length js → AllWithin (λ (j : Joined). leb j.end o ≡ true) js 0 i → ((d : Joined) → i < length js → o ≤ (get_or js i d).start) →
    inside (joined_folds js) o ≡ false
outside-ranges from o [] i r le ended starts = refl
outside-ranges from o (j ∷ js) zero r le ended starts =
    below-inside j.start o (j ∷ js) (omega arith, r.1, r.2) (starts j (omega arith))
outside-ranges from o (j ∷ js) (suc i) r le ended starts =
    let end : j.end ≤ o = leb-true j.end o (ended 0 j (omega arith) (omega arith)) in
    or_from (ltb j.start o && ltb o j.end) (inside (joined_folds js) o)
    (and_right (ltb j.start o) (ltb o j.end) (le-ltb o j.end end))
    (outside-ranges j.end o js i r.2 (omega (arith, le)) (λ k d lo hi. ended (suc k) d (omega arith) (omega (arith, hi))) (λ d lt. starts d (omega (arith, lt))))
