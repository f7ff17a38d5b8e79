-- The nearest valid spot, of the greatest at or before a spot and the least at or after it.
use Rattle.std.proofs.Common.{◌==◌, ◌&&◌, not, if◌then◌else◌, ◌≡◌, ℕ, ◌<◌, ◌⊎◌, inl, inr, Bool, true, false, List, length, get_or, Option, Some, None, refl, sym, ap, ◌∙◌, subst, arith}
use Rattle.std.specs.List.{Contains}
use Rattle.std.proofs.lemmas.Bool.{and_from, and_left, and_right, cases_Bool, cases_eq, eq-eqb, false≢true, ne_eqb, not_from_false, not_from_true}
use Rattle.std.proofs.lemmas.Bool.Decides.{nat_tests}
use Rattle.std.proofs.lemmas.List.{get_or_default}
use Rattle.cell_units.specs.declared.place.Bias.{Bias}
use Rattle.cell_units.specs.declared.place.Bias.TheVariants.{Left, Right}
use Rattle.cell_units.specs.declared.place.Spot.{Spot}
use Rattle.cell_units.specs.Record.{Record}
use Rattle.cell_units.specs.Text.{is_boundary}
use Rattle.plain_rows.specs.Spots.{clip, positions, show, spot_le, valid_spots}
use Rattle.plain_rows.specs.Laws.{GreatestBefore, GreatestOfAll, IsNearestAfter, IsNearestBefore, LastOfRow, LeastAfter, LeastOfAll}
use Rattle.plain_rows.specs.inside.SpotSearch.{IsGreatestBy, IsGreatestUpto, IsLeastBy, IsLeastFrom, earlier, later, nearest_left, nearest_right}
use Rattle.plain_rows.proofs.Lists.{all-contained, contains-mapped}
use Rattle.plain_rows.proofs.SpotPositions.{contains-unmapped, position-boundary, position-contained}
use Rattle.plain_rows.proofs.Clips.{clip-nearest_before, some-valid, spot_le-antisym, spot_le-refl, spot_le-total, spot_le-trans}
use Rattle.plain_rows.proofs.NearestAfter.{clip-nearest_after, nearest_rises}

contains-at : {X : Type 0} (xs : List X) (k : ℕ) (d : X) → k < length xs → Contains xs (get_or xs k d)
contains-at xs k d lt = (k, lt, get_or_default xs k (get_or xs k d) d lt)

before-same : (spots : List Spot) (d c c' : Spot) → IsNearestBefore spots d c → IsNearestBefore spots d c' → c ≡ c'
before-same spots d c c' (GreatestBefore s n h most) (GreatestBefore s' n' h' most') = spot_le-antisym c c' (most' c n h) (most c' n' h')
before-same spots d c c' (GreatestBefore s n h most) (LeastOfAll s' all' none') = absurd (false≢true (sym (none' c n) ∙ h))
before-same spots d c c' (LeastOfAll s all none) (GreatestBefore s' n' h' most') = absurd (false≢true (sym (none c' n') ∙ h'))
before-same spots d c c' (LeastOfAll s all none) (LeastOfAll s' all' none') =
    spot_le-antisym c c' (all-contained (λ t. spot_le c t ≡ true) spots c' all.1 all'.0) (all-contained (λ t. spot_le c' t ≡ true) spots c all'.1 all.0)

after-same : (spots : List Spot) (d c c' : Spot) → IsNearestAfter spots d c → IsNearestAfter spots d c' → c ≡ c'
after-same spots d c c' h k = spot_le-antisym c c' (nearest_rises spots d d c c' (spot_le-refl d) h k) (nearest_rises spots d d c' c (spot_le-refl d) k h)

row-between : (s t u : Spot) → spot_le s t ≡ true → spot_le t u ≡ true → s.row ≡ u.row → t.row ≡ u.row
row-between s t u h k e = grind (arith, nat_tests, h, k, e)

module _ (r : Record) (d : Spot) where
  abbrev spots : List Spot
  spots = valid_spots r

  -- none at or before and none at or after is nothing at all
  pub not-none : IsGreatestUpto r d None → IsLeastFrom r d None → ⊥
  not-none below above =
      let t = show r (length r.text) Left in
      let m = some-valid r in
      false≢true (sym (above t m) ∙ spot_le-total t d (below t m))

  pub left-before : (g : Spot) → IsGreatestUpto r d (Some g) → g ≡ clip r d Left
  left-before g h = before-same spots d g (clip r d Left) (GreatestBefore g h.0 h.1 h.2) (clip-nearest_before r d)

  -- what is not at or before d is at or after it
  other-side : (t : Spot) → spot_le t d ≡ false → spot_le d t ≡ true
  other-side t h = spot_le-total t d h

  pub left-after : (a : Spot) → IsGreatestUpto r d None → IsLeastFrom r d (Some a) → a ≡ clip r d Left
  left-after a none h =
      before-same spots d a (clip r d Left)
      (LeastOfAll a (h.0, λ k e lt. let m = contains-at spots k e lt in h.2 (get_or spots k e) m (other-side (get_or spots k e) (none (get_or spots k e) m))) none)
      (clip-nearest_before r d)

  past : (a : Spot) → IsLeastFrom r d (Some a) → (a.row ≡ d.row → ⊥) → (t : Spot) → Contains spots t → t.row ≡ d.row → spot_le d t ≡ false
  past a h away t m same = go (cases_Bool (spot_le d t)) where
    go : (spot_le d t ≡ true) ⊎ (spot_le d t ≡ false) → spot_le d t ≡ false
    go (inr e) = e
    go (inl e) = absurd (away (row-between d a t h.1 (h.2 t m e) (sym same) ∙ same))

  before-of : (g : Spot) → IsGreatestUpto r d (Some g) → (t : Spot) → Contains spots t → spot_le d t ≡ false → spot_le t g ≡ true
  before-of g h t m e = h.2 t m (spot_le-total d t e)

  -- the last of d's row
  pub right-last : (g a : Spot) → IsGreatestUpto r d (Some g) → IsLeastFrom r d (Some a) → g.row ≡ d.row → (a.row ≡ d.row → ⊥) → g ≡ clip r d Right
  right-last g a h k same away =
      after-same spots d g (clip r d Right) (LastOfRow g h.0 same (past a k away) (λ t m e. before-of g h t m (past a k away t m e))) (clip-nearest_after r d)

  -- the least at or after d, in its row
  pub right-own_row : (a : Spot) → IsLeastFrom r d (Some a) → a.row ≡ d.row → a ≡ clip r d Right
  right-own_row a k same =
      after-same spots d a (clip r d Right) (LeastAfter a k.0 k.1 k.2 (λ t m e. (a, k.0, same, k.1))) (clip-nearest_after r d)

  -- the least at or after d, where no spot of its row is before it
  within : (none : (t : Spot) → Contains spots t → t.row ≡ d.row → spot_le t d ≡ false) → (t : Spot) → Contains spots t → t.row ≡ d.row → (u : Spot) × Contains spots u × (u.row ≡ d.row) × (spot_le d u ≡ true)
  within none t m e = (t, m, e, other-side t (none t m e))

  pub right-other_row : (g a : Spot) → IsGreatestUpto r d (Some g) → IsLeastFrom r d (Some a) → (g.row ≡ d.row → ⊥) → a ≡ clip r d Right
  right-other_row g a h k away =
      after-same spots d a (clip r d Right) (LeastAfter a k.0 k.1 k.2 (within none)) (clip-nearest_after r d) where
        none : (t : Spot) → Contains spots t → t.row ≡ d.row → spot_le t d ≡ false
        none t m e = go (cases_Bool (spot_le t d)) where
          go : (spot_le t d ≡ true) ⊎ (spot_le t d ≡ false) → spot_le t d ≡ false
          go (inr x) = x
          go (inl x) = absurd (away (row-between t g d (h.2 t m x) h.1 e))

  pub right-after : (a : Spot) → IsGreatestUpto r d None → IsLeastFrom r d (Some a) → a ≡ clip r d Right
  right-after a h k =
      after-same spots d a (clip r d Right) (LeastAfter a k.0 k.1 k.2 (within (λ t m e. h t m))) (clip-nearest_after r d)

  -- nothing at or after d: its row's last, or the last of all
  pub right-before : (g : Spot) → IsGreatestUpto r d (Some g) → IsLeastFrom r d None → g ≡ clip r d Right
  right-before g h none = go (cases_eq g.row d.row) where
    go : (g.row ≡ d.row) ⊎ (g.row ≡ d.row → ⊥) → g ≡ clip r d Right
    go (inl same) =
        after-same spots d g (clip r d Right) (LastOfRow g h.0 same (λ t m e. none t m) (λ t m e. before-of g h t m (none t m))) (clip-nearest_after r d)
    go (inr away) =
        after-same spots d g (clip r d Right)
        (GreatestOfAll g (h.0, λ k e lt. let m = contains-at spots k e lt in before-of g h (get_or spots k e) m (none (get_or spots k e) m)) none
        (λ t m e. away (row-between t g d (before-of g h t m (none t m)) h.1 e)))
        (clip-nearest_after r d)

pub clip-left : (r : Record) (d : Spot) (g a : Option Spot) → IsGreatestUpto r d g → IsLeastFrom r d a → nearest_left d g a ≡ clip r d Left
clip-left r d (Some g) a h k = left-before r d g h
clip-left r d None (Some a) h k = left-after r d a h k
clip-left r d None None h k = absurd (not-none r d h k)

pub clip-right : (r : Record) (d : Spot) (g a : Option Spot) → IsGreatestUpto r d g → IsLeastFrom r d a → nearest_right d g a ≡ clip r d Right
clip-right r d (Some g) None h k = right-before r d g h k
clip-right r d None (Some a) h k = right-after r d a h k
clip-right r d None None h k = absurd (not-none r d h k)
clip-right r d (Some g) (Some a) h k = go (cases_eq g.row d.row) (cases_eq a.row d.row) where
  go : (g.row ≡ d.row) ⊎ (g.row ≡ d.row → ⊥) → (a.row ≡ d.row) ⊎ (a.row ≡ d.row → ⊥) → (if (g.row == d.row) && not (a.row == d.row) then g else a) ≡ clip r d Right
  go x (inl own) =
      ap (λ (c : Bool). if c then g else a) (and_right (g.row == d.row) (not (a.row == d.row)) (not_from_true (a.row == d.row) (eq-eqb a.row d.row own))) ∙ right-own_row r d a k own
  go (inl same) (inr away) =
      ap (λ (c : Bool). if c then g else a) (and_from (g.row == d.row) (not (a.row == d.row)) (eq-eqb g.row d.row same) (not_from_false (a.row == d.row) (ne_eqb a.row d.row away))) ∙ right-last r d g a h k same away
  go (inr other) (inr away) =
      ap (λ (c : Bool). if c then g else a) (and_left (g.row == d.row) (not (a.row == d.row)) (ne_eqb g.row d.row other)) ∙ right-other_row r d g a h k other

-- ---- both biases

-- a valid spot is that of a boundary and a bias
shown-as : (r : Record) (s : Spot) → Contains (valid_spots r) s → (o : ℕ) × (b : Bias) × (is_boundary r.text o ≡ true) × (show r o b ≡ s)
shown-as r s m =
    let x = contains-unmapped (λ (p : ℕ × Bias). show r p.0 p.1) (positions r.text) s m in
    (x.0.0, x.0.1, position-boundary r.text x.0 x.1, x.2)

valid : (r : Record) (o : ℕ) (b : Bias) → is_boundary r.text o ≡ true → Contains (valid_spots r) (show r o b)
valid r o b h = contains-mapped (λ (p : ℕ × Bias). show r p.0 p.1) (positions r.text) (o, b) (position-contained r.text o b h)

module _ (r : Record) (d : Spot) where
  -- both biases by cases of a valid spot
  by-bias : (P : Spot → Type 0) → ((o : ℕ) → is_boundary r.text o ≡ true → P (show r o Left)) → ((o : ℕ) → is_boundary r.text o ≡ true → P (show r o Right)) → (s : Spot) → Contains (valid_spots r) s → P s
  by-bias P l q s m = let x = shown-as r s m in subst P x.3 (go x.1 x.0 x.2) where
    go : (b : Bias) (o : ℕ) → is_boundary r.text o ≡ true → P (show r o b)
    go Left o h = l o h
    go Right o h = q o h

  abbrev Upto : Spot → Spot → Type 0
  Upto g s = spot_le s d ≡ true → spot_le s g ≡ true

  pub greatest-both : (g h : Option Spot) → IsGreatestBy r Left d g → IsGreatestBy r Right d h → IsGreatestUpto r d (later g h)
  greatest-both None None x y = by-bias (λ s. spot_le s d ≡ false) x y
  greatest-both None (Some h) x y = (
    subst (Contains (valid_spots r)) y.0.2 (valid r y.0.0 Right y.0.1),
    y.1,
    by-bias (Upto h) (λ o b e. absurd (false≢true (sym (x o b) ∙ e))) y.2,
  )
  greatest-both (Some g) None x y = (
    subst (Contains (valid_spots r)) x.0.2 (valid r x.0.0 Left x.0.1),
    x.1,
    by-bias (Upto g) x.2 (λ o b e. absurd (false≢true (sym (y o b) ∙ e))),
  )
  greatest-both (Some g) (Some h) x y = go (spot_le g h) refl where
    go : (c : Bool) → spot_le g h ≡ c → IsGreatestUpto r d (Some (if c then h else g))
    go true e = (
      subst (Contains (valid_spots r)) y.0.2 (valid r y.0.0 Right y.0.1),
      y.1,
      by-bias (Upto h) (λ o b k. spot_le-trans (show r o Left) g h (x.2 o b k) e) y.2,
    )
    go false e = (
      subst (Contains (valid_spots r)) x.0.2 (valid r x.0.0 Left x.0.1),
      x.1,
      by-bias (Upto g) x.2 (λ o b k. spot_le-trans (show r o Right) h g (y.2 o b k) (spot_le-total g h e)),
    )

  abbrev From : Spot → Spot → Type 0
  From g s = spot_le d s ≡ true → spot_le g s ≡ true

  pub least-both : (g h : Option Spot) → IsLeastBy r Left d g → IsLeastBy r Right d h → IsLeastFrom r d (earlier g h)
  least-both None None x y = by-bias (λ s. spot_le d s ≡ false) x y
  least-both None (Some h) x y = (
    subst (Contains (valid_spots r)) y.0.2 (valid r y.0.0 Right y.0.1),
    y.1,
    by-bias (From h) (λ o b e. absurd (false≢true (sym (x o b) ∙ e))) y.2,
  )
  least-both (Some g) None x y = (
    subst (Contains (valid_spots r)) x.0.2 (valid r x.0.0 Left x.0.1),
    x.1,
    by-bias (From g) x.2 (λ o b e. absurd (false≢true (sym (y o b) ∙ e))),
  )
  least-both (Some g) (Some h) x y = go (spot_le g h) refl where
    go : (c : Bool) → spot_le g h ≡ c → IsLeastFrom r d (Some (if c then g else h))
    go true e = (
      subst (Contains (valid_spots r)) x.0.2 (valid r x.0.0 Left x.0.1),
      x.1,
      by-bias (From g) x.2 (λ o b k. spot_le-trans g h (show r o Right) e (y.2 o b k)),
    )
    go false e = (
      subst (Contains (valid_spots r)) y.0.2 (valid r y.0.0 Right y.0.1),
      y.1,
      by-bias (From h) (λ o b k. spot_le-trans h g (show r o Left) (spot_le-total g h e) (x.2 o b k)) y.2,
    )
