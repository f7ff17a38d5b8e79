-- Changes within a window.
use Rattle.std.proofs.Common.{refl, ◌≡◌, ℕ, ◌+◌, ◌-◌, ◌<◌, ◌≤◌, suc, Bool, true, false, cond, eqb, ltb, leb, not, List, [], ◌∷◌, ◌++◌, filter, map, sym, ap, ◌∙◌, subst, inl, inr, arith, ◌⊎◌, ◌&&◌, ◌||◌}
use Rattle.std.specs.List.{Contains, list_any}
use Rattle.std.proofs.lemmas.Bool.{and_left, and_right, cases_lt, eq-eqb, eqb-true, false≢true, le-ltb, lt-leb, lt-ltb, not-false}
use Rattle.std.proofs.lemmas.List.Folds.{list_any_none}
use Rattle.cell_units.specs.Anchor.{move}
use Rattle.cell_units.specs.declared.place.Bias.TheVariants.{Left, Right}
use Rattle.cell_units.specs.Operation.{move_fold, moved_folds, without_fold}
use Rattle.cell_units.specs.Record.{Fold, fold_le}
use Rattle.cell_units.specs.Folded.{inside, covered}
use Rattle.cell_units.specs.Sorting.{insert_by}
use Rattle.cell_units.proofs.CutLists.{Every}
use Rattle.cell_units.proofs.FoundEntries.{All-from_Every, PutIn, put_in}
use Rattle.cell_units.proofs.Moves.{move-above, move-below, move-within}
use Rattle.cell_units.proofs.ShownMoved.{covered_before, covered_behind, inside_before, inside_behind}
use Rattle.cell_units.proofs.SortedLists.{Every-filter, Every-map, Every-sort}
use Rattle.joined_folds.specs.Windows.{AddedIsAlike, AreAlike, MovedIsAlike, RemovedIsAlike, moved_on}

-- ---- tests of a list with one more, and with some less

any-without : {X : Type 0} (p : X → Bool) (xs : List X) (x : X) (ys : List X) → p x ≡ false → list_any p (xs ++ x ∷ ys) ≡ list_any p (xs ++ ys)
any-without p [] x ys h = ap (λ (c : Bool). c || list_any p ys) h
any-without p (y ∷ xs) x ys h = ap (λ (c : Bool). p y || c) (any-without p xs x ys h)

any-put : {X : Type 0} (p : X → Bool) (x : X) (old new : List X) → PutIn x old new → p x ≡ false → list_any p new ≡ list_any p old
any-put p x old new put h = ap (list_any p) put.new_is ∙ any-without p put.before x put.behind h ∙ ap (list_any p) (sym put.old_is)

any-filter : {X : Type 0} (p q : X → Bool) (xs : List X) → ((x : X) → Contains xs x → q x ≡ false → p x ≡ false) → list_any p (filter q xs) ≡ list_any p xs
any-filter p q [] h = refl
any-filter p q (x ∷ xs) h = go (q x) refl (any-filter p q xs (λ y m e. h y (suc m.0, (let l = m.1 in omega (arith, l)), m.2) e)) where
  go : (b : Bool) → q x ≡ b → list_any p (filter q xs) ≡ list_any p xs → list_any p (cond b (x ∷ filter q xs) (filter q xs)) ≡ (p x || list_any p xs)
  go true e r = ap (λ (c : Bool). p x || c) r
  go false e r = r ∙ sym (ap (λ (c : Bool). c || list_any p xs) (h x (0, omega arith, refl) e))

-- ---- a fold before its start and from its end on

abbrev around : ℕ → Fold → Bool
around o f = ltb f.start o && ltb o f.end

abbrev over : ℕ → Fold → Bool
over o f = leb f.start o && ltb o f.end

module _ (f : Fold) where
  not-over_before : (k : ℕ) → k < f.start → over k f ≡ false
  not-over_before k h = and_left (leb f.start k) (ltb k f.end) (lt-leb f.start k h)

  not-around_before : (k : ℕ) → k ≤ f.start → around k f ≡ false
  not-around_before k h = and_left (ltb f.start k) (ltb k f.end) (le-ltb f.start k h)

  not-over_behind : (k : ℕ) → f.end ≤ k → over k f ≡ false
  not-over_behind k h = and_right (leb f.start k) (ltb k f.end) (le-ltb k f.end h)

  not-around_behind : (k : ℕ) → f.end ≤ k → around k f ≡ false
  not-around_behind k h = and_right (ltb f.start k) (ltb k f.end) (le-ltb k f.end h)

  -- lists that differ by such folds are alike
  by-range : (old new : List Fold) → f.start < f.end → ((p : Fold → Bool) → p f ≡ false → list_any p new ≡ list_any p old) → AreAlike old new f.start f.end f.end
  by-range old new some same = record {
    order = omega arith;
    reach = omega arith;
    covered_before = λ k h. same (over k) (not-over_before k h);
    inside_before = λ k h. same (around k) (not-around_before k (omega (arith, h)));
    start_open = λ e. same (around f.start) (not-around_before f.start (omega arith)) ∙ e;
    covered_behind = λ d. same (over (f.end + d)) (not-over_behind (f.end + d) (omega arith));
    inside_behind = λ d h. same (around (f.end + d)) (not-around_behind (f.end + d) (omega arith));
  }

pub added-alike : AddedIsAlike
added-alike folds f some = by-range f folds (insert_by fold_le f folds) some (λ p h. any-put p f folds (insert_by fold_le f folds) (put_in fold_le f folds) h)

pub removed-alike : RemovedIsAlike
removed-alike folds f m some one =
    by-range f folds (without_fold f.id folds) some
    (λ p h. any-filter p (λ (g : Fold). not (eqb g.id f.id)) folds (λ g c e. ap p (one g c (eqb-true g.id f.id (not-false (eqb g.id f.id) e))) ∙ h))

-- ---- a replacement

none-passes : {X : Type 0} (p : X → Bool) (xs : List X) → list_any p xs ≡ false → Every (λ x. p x ≡ false) xs
none-passes p [] h = tt
none-passes p (x ∷ xs) h = go (p x) refl h (none-passes p xs) where
  go : (b : Bool) → p x ≡ b → (b || list_any p xs) ≡ false → (list_any p xs ≡ false → Every (λ y. p y ≡ false) xs) → Every (λ y. p y ≡ false) (x ∷ xs)
  go true e q r = absurd (false≢true (sym q))
  go false e q r = (e, r q)

move-start : (a b n : ℕ) → move a Left a b n ≡ a
move-start a b n = rw (le-ltb a a (omega arith), eq-eqb a a refl) refl

module _ (a b n : ℕ) (ab : a ≤ b) where
  -- a fold that isn't strictly around the start of what is replaced isn't there afterwards
  stays-out : (f : Fold) → around a f ≡ false → around a (move_fold a b n f) ≡ false
  stays-out f h = go (cases_lt f.start a) where
    ends : f.end ≤ a → move f.end Left a b n ≤ a
    ends l = at (cases_lt f.end a) where
      at : (f.end < a) ⊎ (a ≤ f.end) → move f.end Left a b n ≤ a
      at (inl x) = omega (arith, move-below f.end Left a b n x)
      at (inr x) = let e : f.end ≡ a = omega (arith, l, x) in subst (λ (k : ℕ). move k Left a b n ≤ a) (sym e) (omega (arith, move-start a b n))

    go : (f.start < a) ⊎ (a ≤ f.start) → around a (move_fold a b n f) ≡ false
    go (inl x) = and_right (ltb (move f.start Right a b n) a) (ltb a (move f.end Left a b n)) (le-ltb a (move f.end Left a b n) (ends (at (cases_lt a f.end)))) where
      at : (a < f.end) ⊎ (f.end ≤ a) → f.end ≤ a
      at (inr y) = y
      at (inl y) = absurd (false≢true (sym h ∙ (λ i. lt-ltb f.start a x i && lt-ltb a f.end y i)))
    go (inr x) = and_left (ltb (move f.start Right a b n) a) (ltb a (move f.end Left a b n)) (le-ltb (move f.start Right a b n) a (at (cases_lt b f.start))) where
      at : (b < f.start) ⊎ (f.start ≤ b) → a ≤ move f.start Right a b n
      at (inl y) = omega (arith, move-above f.start Right a b n ab y, y)
      at (inr y) = (move-within f.start Right a b n x y).0

  start-open : (folds : List Fold) → inside folds a ≡ false → inside (moved_folds a b n folds) a ≡ false
  start-open folds h =
      let moved = Every-map (move_fold a b n) (λ (f : Fold). around a f ≡ false) (λ (f : Fold). around a f ≡ false) stays-out folds (none-passes (around a) folds h) in
      let kept = Every-filter fold_le (λ (f : Fold). around a f ≡ false) (λ f. ltb f.start f.end) (map (move_fold a b n) folds) moved in
      let sorted = Every-sort fold_le (λ (f : Fold). around a f ≡ false) (filter (λ f. ltb f.start f.end) (map (move_fold a b n) folds)) kept in
      list_any_none (around a) (moved_folds a b n folds) (All-from_Every (λ (f : Fold). around a f ≡ false) (moved_folds a b n folds) sorted)

pub moved-alike : MovedIsAlike
moved-alike folds a b n start end ab sa be = record {
  order = omega arith;
  reach = omega arith;
  covered_before = λ k h. covered_before a b n ab folds [] tt k (omega (arith, h));
  inside_before = λ k h. inside_before a b n ab folds [] tt k (omega (arith, h));
  start_open = first (cases_lt start a);
  covered_behind = λ d.
      let there : moved_on b (a + n) end + d ≡ end + d + n - (b - a) = omega arith in
      ap (covered (moved_folds a b n folds)) there ∙ covered_behind a b n ab folds [] tt (end + d) (omega arith);
  inside_behind = λ d h.
      let there : moved_on b (a + n) end + d ≡ end + d + n - (b - a) = omega arith in
      ap (inside (moved_folds a b n folds)) there ∙ inside_behind a b n ab folds [] tt (end + d) (omega (arith, h));
} where
  first : (start < a) ⊎ (a ≤ start) → inside folds start ≡ false → inside (moved_folds a b n folds) start ≡ false
  first (inl x) h = inside_before a b n ab folds [] tt start x ∙ h
  first (inr x) h =
      let e : a ≡ start = omega (arith, x) in
      subst (λ (k : ℕ). inside (moved_folds a b n folds) k ≡ false) e (start-open a b n ab folds (subst (λ (k : ℕ). inside folds k ≡ false) (sym e) h))
