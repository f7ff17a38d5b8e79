-- The ranges of a tree that meet a window.
use Rattle.std.proofs.Common.{refl, ◌≡◌, ◌+◌, ◌<◌, ◌≤◌, zero, suc, Bool, true, false, cond, eqb, leb, ltb, List, [], ◌∷◌, filter, map, get_or, ap, subst, inl, inr, arith, ◌⊎◌, ◌&&◌, ◌^◌}
use Rattle.std.specs.List.{All, AllPairs, Contains}
use Rattle.std.proofs.lemmas.Bool.{and_from, and_parts, eqb-true, lt-ltb, ltb-true, or_cases}
use Rattle.std.proofs.lemmas.List.{get_or_default}
use Rattle.std.proofs.lemmas.List.Elements.{filter_passes}
use Rattle.std.proofs.lemmas.List.Kept.{AllPairs-cons, AllPairs-filter}
use Rattle.cell_units.specs.Record.{Fold, in_order}
use Rattle.cell_units.proofs.CutLists.{Every}
use Rattle.cell_units.proofs.Entries.{sorted_entries}
use Rattle.cell_units.proofs.EntryOrders.{fold_total, fold_trans}
use Rattle.cell_units.proofs.FoundEntries.{All-from_Every}
use Rattle.cell_units.proofs.SortedLists.{IsSorted}
use Rattle.mark_tree.specs.Ranges.{IsRangeList, has_in_common, range_le}
use Rattle.mark_tree.specs.declared.mark.RangeMark.{RangeMark}
use Rattle.joined_folds.specs.declared.window.Window.{Window}
use Rattle.joined_folds.specs.Sweeps.{AreMet, IsMet, MeetingAreMet, fold_of, range_of}
use Rattle.joined_folds.proofs.Sweeps.{InOrder, all-at, contains-cons}

-- ---- lists

contains-map : {X Y : Type 0} (f : X → Y) (xs : List X) (x : X) → Contains xs x → Contains (map f xs) (f x)
contains-map f [] x m = absurd (let l = m.1 in omega (arith, l))
contains-map f (y ∷ ys) x (zero, below, is) = (0, omega arith, ap f is)
contains-map f (y ∷ ys) x (suc k, below, is) = let r = contains-map f ys x (k, omega (arith, below), is) in (suc r.0, (let l = r.1 in omega (arith, l)), r.2)

of-map : {X Y : Type 0} (f : X → Y) (xs : List X) (y : Y) → Contains (map f xs) y → (x : X) × Contains xs x × (f x ≡ y)
of-map f [] y m = absurd (let l = m.1 in omega (arith, l))
of-map f (x ∷ xs) y (zero, below, is) = (x, (0, omega arith, refl), is)
of-map f (x ∷ xs) y (suc k, below, is) =
    let r = of-map f xs y (k, omega (arith, below), is) in
    (r.0, (suc (r.1).0, (let l = (r.1).1 in omega (arith, l)), (r.1).2), r.2)

behind : {X : Type 0} (x : X) (xs : List X) (y : X) → Contains xs y → Contains (x ∷ xs) y
behind x xs y m = (suc m.0, (let l = m.1 in omega (arith, l)), m.2)

contains-filter : {X : Type 0} (p : X → Bool) (xs : List X) (x : X) → Contains xs x → p x ≡ true → Contains (filter p xs) x
contains-filter p [] x m h = absurd (let l = m.1 in omega (arith, l))
contains-filter p (y ∷ ys) x m h = go (p y) refl (contains-cons y ys x m) (λ m'. contains-filter p ys x m' h) where
  go : (b : Bool) → p y ≡ b → (y ≡ x) ⊎ Contains ys x → (Contains ys x → Contains (filter p ys) x) → Contains (cond b (y ∷ filter p ys) (filter p ys)) x
  go true e (inl s) next = (0, omega arith, s)
  go true e (inr m') next = behind y (filter p ys) x (next m')
  go false e (inl s) next = absurd (cc (e, ap p s, h))
  go false e (inr m') next = next m'

of-filter : {X : Type 0} (p : X → Bool) (xs : List X) (x : X) → Contains (filter p xs) x → Contains xs x
of-filter p [] x m = m
of-filter p (y ∷ ys) x m = go (p y) m (of-filter p ys x) where
  go : (b : Bool) → Contains (cond b (y ∷ filter p ys) (filter p ys)) x → (Contains (filter p ys) x → Contains ys x) → Contains (y ∷ ys) x
  go true m next = at (contains-cons y (filter p ys) x m) where
    at : (y ≡ x) ⊎ Contains (filter p ys) x → Contains (y ∷ ys) x
    at (inl s) = (0, omega arith, s)
    at (inr m') = behind y ys x (next m')
  go false m next = behind y ys x (next m)

all-by : {X : Type 0} (P : X → Type 0) (xs : List X) → ((x : X) → Contains xs x → P x) → All P xs
all-by P xs f k d h = f (get_or xs k d) (k, h, get_or_default xs k (get_or xs k d) d h)

-- ---- the order of their starts

sorted-starts : (ranges : List RangeMark) → IsSorted range_le ranges → AllPairs InOrder ranges
sorted-starts [] s = λ i j d h l. absurd (omega (arith, l))
sorted-starts (r ∷ rs) s = AllPairs-cons InOrder r rs (All-from_Every (InOrder r) rs (weaker rs s.0)) (sorted-starts rs s.1) where
  by-start : (q : RangeMark) → range_le r q ≡ true → r.start ≤ q.start
  by-start q h = go (or_cases (ltb r.start q.start) (eqb r.start q.start && in_order r.end q.end (leb r.id q.id)) h) where
    go : (ltb r.start q.start ≡ true) ⊎ ((eqb r.start q.start && in_order r.end q.end (leb r.id q.id)) ≡ true) → r.start ≤ q.start
    go (inl e) = let l = ltb-true r.start q.start e in omega arith
    go (inr e) = let same = eqb-true r.start q.start (and_parts (eqb r.start q.start) (in_order r.end q.end (leb r.id q.id)) e).0 in omega (arith, same)

  weaker : (qs : List RangeMark) → Every (λ q. range_le r q ≡ true) qs → Every (InOrder r) qs
  weaker [] a = tt
  weaker (q ∷ qs) a = (by-start q a.0, weaker qs a.1)

total : (r q : RangeMark) → range_le r q ≡ false → range_le q r ≡ true
total r q = fold_total (fold_of r) (fold_of q)

trans : (r q p : RangeMark) → range_le r q ≡ true → range_le q p ≡ true → range_le r p ≡ true
trans r q p = fold_trans (fold_of r) (fold_of q) (fold_of p)

module _ (ranges : List RangeMark) (w : Window) (is : IsRangeList ranges) where
  abbrev test : RangeMark → Bool
  test = has_in_common w.start (w.end + 1)

  abbrev met : List RangeMark
  met = filter test ranges

  abbrev folds : List Fold
  folds = map fold_of ranges

  each : (r : RangeMark) → Contains met r → IsMet folds w r
  each r m =
      let in_it = of-filter test ranges r m in
      let passed = and_parts (ltb r.start (w.end + 1)) (ltb w.start r.end) (all-at (λ q. test q ≡ true) met r (filter_passes test ranges) m) in
      let bounds = all-at (λ (q : RangeMark). (q.start < q.end) × (q.end < 2 ^ 32)) ranges r is.bounds in_it in
      record {
        fold = contains-map fold_of ranges r in_it;
        some = bounds.0;
        from = let l = ltb-true r.start (w.end + 1) passed.0 in omega arith;
        to = ltb-true w.start r.end passed.1;
      }

  all : (f : Fold) → Contains folds f → f.start ≤ w.end → w.start < f.end → Contains met (range_of f)
  all f m l u =
      let r = of-map fold_of ranges f m in
      let in_it : Contains ranges (range_of f) = subst (Contains ranges) (ap range_of r.2) r.1 in
      contains-filter test ranges (range_of f) in_it (and_from (ltb f.start (w.end + 1)) (ltb w.start f.end) (lt-ltb f.start (w.end + 1) (omega (arith, l))) (lt-ltb w.start f.end u))

  are-met : AreMet folds w met
  are-met = record {
    each = all-by (IsMet folds w) met each;
    all = all;
    in_order = AllPairs-filter InOrder test ranges (sorted-starts ranges (sorted_entries range_le total trans (λ r. r.id) ranges is.sorted));
  }

pub meeting-met : MeetingAreMet
meeting-met = are-met
