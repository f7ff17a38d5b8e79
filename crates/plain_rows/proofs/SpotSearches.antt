-- What halving and walks find among positions.
use Rattle.std.proofs.Common.{◌≡◌, ℕ, ◌+◌, ◌<◌, ◌≤◌, ◌⊎◌, inl, inr, true, false, ltb, List, length, Some, None, refl, ap, sym, ◌∙◌, subst, arith}
use Rattle.std.specs.List.Sorted.{IsNonDecreasingBy}
use Rattle.std.proofs.lemmas.Bool.{cases_Bool, cases_lt, false≢true, le-ltb, lt-ltb, not-false, not-true}
use Rattle.std.proofs.lemmas.Bool.Decides.{nat_tests}
use Rattle.std.proofs.lemmas.List.{get_or_default}
use Rattle.std.proofs.lemmas.Str.{IsUtf8-nil}
use Rattle.cell_units.specs.declared.place.Bias.{Bias}
use Rattle.cell_units.specs.declared.place.Bias.TheVariants.{Left, Right}
use Rattle.cell_units.specs.declared.place.Spot.{Spot}
use Rattle.cell_units.specs.Folded.{line_of, place_in_line}
use Rattle.cell_units.specs.Lawful.{IsLawful}
use Rattle.cell_units.specs.Record.{Record}
use Rattle.cell_units.specs.Text.{IsBoundary, is_boundary}
use Rattle.cell_units.proofs.TextLaws.{tells_boundaries}
use Rattle.cell_line.specs.Wrapping.{cuts_of}
use Rattle.plain_rows.specs.declared.spots.searching.Aim.{Aim}
use Rattle.plain_rows.specs.Spots.{elements_at, elements_before, mark_at, rows_before, show, spot_le}
use Rattle.plain_rows.specs.inside.SpotRows.{HasFirstRows}
use Rattle.plain_rows.specs.inside.SpotSearch.{IsAim, IsFirstBoundary, IsGreatestBy, IsLastBoundary, IsLeastBy, IsPartedAt, stands_before}
use Rattle.plain_rows.proofs.Clips.{spot_le-trans}
use Rattle.plain_rows.proofs.LineSpots.{spot_in_line-row}
use Rattle.plain_rows.proofs.RowsInOrder.{rows_before-later}
use Rattle.plain_rows.proofs.ShowRises.{show-rises}
use Rattle.plain_rows.proofs.SpotFronts.{line_of-within}
use Rattle.plain_rows.proofs.SpotPositions.{boundary-within}
use Rattle.plain_rows.proofs.SpotSizes.{length-elements}

-- ---- spots beside one spot

row-before : (side : Bias) (s d : Spot) → s.row < d.row → stands_before side s d ≡ true
row-before Left s d h = grind (arith, nat_tests, h)
row-before Right s d h = grind (arith, nat_tests, h)

row-behind : (side : Bias) (s d : Spot) → d.row < s.row → stands_before side s d ≡ false
row-behind Left s d h = grind (arith, nat_tests, h)
row-behind Right s d h = grind (arith, nat_tests, h)

-- what is before one that is before d is before d
before-down : (side : Bias) (s t d : Spot) → spot_le s t ≡ true → stands_before side t d ≡ true → stands_before side s d ≡ true
before-down Left s t d h k = grind (arith, nat_tests, h, k)
before-down Right s t d h k = spot_le-trans s t d h k

behind-up : (side : Bias) (s t d : Spot) → spot_le s t ≡ true → stands_before side s d ≡ false → stands_before side t d ≡ false
behind-up side s t d h k = go (cases_Bool (stands_before side t d)) where
  go : (stands_before side t d ≡ true) ⊎ (stands_before side t d ≡ false) → stands_before side t d ≡ false
  go (inl e) = absurd (false≢true (sym k ∙ before-down side s t d h e))
  go (inr e) = e

-- ---- rows of lines

module _ (r : Record) (lawful : IsLawful r) (short : length r.text ≤ 67108864) where
  pub some-line : 0 < length r.marks
  some-line = omega (arith, line_of-within r lawful 0 Left (omega arith))

  rows_before-rises : (j k : ℕ) → j ≤ k → k < length r.marks → rows_before r j ≤ rows_before r k
  rows_before-rises j k le lt = go (cases_lt j k) where
    go : (j < k) ⊎ (k ≤ j) → rows_before r j ≤ rows_before r k
    go (inl less) = omega (arith, rows_before-later r j k 0 less (omega (arith, le, lt, length-elements r lawful short)) (omega (arith, le, lt)) (omega arith))
    go (inr ge) = let e : j ≡ k = omega (arith, le, ge) in omega (arith, ap (rows_before r) e)

  pub first_rows-rise : (rows : List ℕ) → HasFirstRows r rows → IsNonDecreasingBy (λ (first : ℕ). first) rows
  first_rows-rise rows has = λ i j d le lt.
      omega (
        arith,
        get_or_default rows i d 0 (omega (arith, le, lt)),
        get_or_default rows j d 0 lt,
        has.each i (omega (arith, le, lt, has.count)),
        has.each j (omega (arith, lt, has.count)),
        rows_before-rises i j le (omega (arith, lt, has.count)),
      )

  -- a position is shown among the text rows of its line
  show-row : (o : ℕ) (bias : Bias) (line : ℕ) → line ≡ line_of r.text r.inlays r.folds o bias →
      (rows_before r line ≤ (show r o bias).row) × ((show r o bias).row ≤ rows_before r line + length (cuts_of (elements_at r line) (mark_at r line).width))
  unfolding show
  show-row o bias line at =
      let l = line_of r.text r.inlays r.folds o bias in
      let place = elements_before (elements_at r l) (place_in_line r.text r.inlays r.folds o bias) bias in
      subst (λ (n : ℕ). (rows_before r n ≤ (show r o bias).row) × ((show r o bias).row ≤ rows_before r n + length (cuts_of (elements_at r n) (mark_at r n).width))) (sym at)
      (omega arith, omega (arith, spot_in_line-row (elements_at r l) (mark_at r l).width place))

  earlier-line : (o : ℕ) (bias : Bias) (line number : ℕ) → o ≤ length r.text → line ≡ line_of r.text r.inlays r.folds o bias → line < number →
      (show r o bias).row < rows_before r number
  earlier-line o bias line number le at less =
      let rows = show-row o bias line at in
      let most = length (cuts_of (elements_at r line) (mark_at r line).width) in
      let lt : line < length r.marks = omega (arith, at, line_of-within r lawful o bias le) in
      omega (arith, rows.1, rows_before-later r line number most less (omega (arith, lt, length-elements r lawful short)) lt (omega arith))

  -- the line of the aim is that of each position in whose row the aim is
  pub other-line : (aim : Aim) → IsAim r aim → (o : ℕ) (bias side : Bias) (line : ℕ) → o ≤ length r.text → line ≡ line_of r.text r.inlays r.folds o bias →
      (line ≡ aim.number → ⊥) → ltb line aim.number ≡ stands_before side (show r o bias) aim.spot
  other-line aim is o bias side line le at away = go (cases_lt line aim.number) (cases_lt aim.number line) where
    go : (line < aim.number) ⊎ (aim.number ≤ line) → (aim.number < line) ⊎ (line ≤ aim.number) → ltb line aim.number ≡ stands_before side (show r o bias) aim.spot
    go (inl less) k =
        lt-ltb line aim.number less
        ∙ sym (row-before side (show r o bias) aim.spot (omega (arith, earlier-line o bias line aim.number le at less, is.begins (omega (arith, less)))))
    go (inr ge) (inl less) =
        let within : line < length r.marks = omega (arith, at, line_of-within r lawful o bias le) in
        le-ltb line aim.number ge
        ∙ sym (row-behind side (show r o bias) aim.spot (omega (arith, is.ends line less within, (show-row o bias line at).0)))
    go (inr ge) (inr le) = absurd (away (omega (arith, ge, le)))

  pub own-line : (aim : Aim) → IsAim r aim → (o : ℕ) (bias : Bias) → o ≤ length r.text → show r o bias ≡ aim.spot → aim.number ≡ line_of r.text r.inlays r.folds o bias
  own-line aim is o bias le shown = go (cases_lt line aim.number) (cases_lt aim.number line) where
    line : ℕ
    line = line_of r.text r.inlays r.folds o bias

    go : (line < aim.number) ⊎ (aim.number ≤ line) → (aim.number < line) ⊎ (line ≤ aim.number) → aim.number ≡ line
    go (inl less) k = absurd (omega (arith, ap (λ (s : Spot). s.row) shown, earlier-line o bias line aim.number le refl less, is.begins (omega (arith, less))))
    go (inr ge) (inl less) =
        absurd (omega (arith, ap (λ (s : Spot). s.row) shown, is.ends line less (line_of-within r lawful o bias le), (show-row o bias line refl).0))
    go (inr ge) (inr le) = omega (arith, ge, le)

-- ---- boundaries

pub boundary-is : (r : Record) → IsLawful r → (o : ℕ) → is_boundary r.text o ≡ true → IsBoundary r.text o
boundary-is r lawful o at = (tells_boundaries r.text lawful.entries.source.text.0 o).0 at

pub first-boundary : (r : Record) → IsLawful r → is_boundary r.text 0 ≡ true
first-boundary r lawful = (tells_boundaries r.text lawful.entries.source.text.0 0).1 (omega arith, IsUtf8-nil)

-- ---- offsets on one side of a spot

module _ (r : Record) (lawful : IsLawful r) (bias : Bias) (d : Spot) where
  pub before-upto : (side : Bias) (m o : ℕ) → o ≤ m → m ≤ length r.text → stands_before side (show r m bias) d ≡ true → stands_before side (show r o bias) d ≡ true
  before-upto side m o le within h = before-down side (show r o bias) (show r m bias) d (show-rises r lawful.marked o m bias le within) h

  pub behind-from : (side : Bias) (m o : ℕ) → m ≤ o → o ≤ length r.text → stands_before side (show r m bias) d ≡ false → stands_before side (show r o bias) d ≡ false
  behind-from side m o le within h = behind-up side (show r m bias) (show r o bias) d (show-rises r lawful.marked m o bias le within) h

  -- where the last boundary up to an offset is shown before d, all up to it are
  pub before-last : (side : Bias) (m b : ℕ) → IsLastBoundary r.text (m + 1) (Some b) → stands_before side (show r b bias) d ≡ true → (o : ℕ) → o < m + 1 → is_boundary r.text o ≡ true →
      stands_before side (show r o bias) d ≡ true
  before-last side m b last h o lt at = elim (cases_lt b o) [
    | inl past ↦ absurd (false≢true (sym (last.2 o past lt) ∙ at))
    | inr le ↦ before-upto side b o le (boundary-within r.text b last.1) h
  ]

  -- a boundary that isn't shown before d comes after those of which all are
  pub after-low : (side : Bias) (low b : ℕ) → ((o : ℕ) → o < low → is_boundary r.text o ≡ true → stands_before side (show r o bias) d ≡ true) → is_boundary r.text b ≡ true →
      stands_before side (show r b bias) d ≡ false → low ≤ b
  after-low side low b before at h = elim (cases_lt b low) [
    | inl less ↦ absurd (false≢true (sym h ∙ before b less at))
    | inr le ↦ le
  ]

  -- of the offsets that are shown at or before d the last boundary is shown last
  pub greatest-by : (n b : ℕ) (g : Spot) → IsPartedAt r bias Right d n → IsLastBoundary r.text n (Some b) → g ≡ show r b bias → IsGreatestBy r bias d (Some g)
  greatest-by n b g parted last is = (
    (b, last.1, sym is),
    subst (λ (s : Spot). spot_le s d ≡ true) (sym is) (parted.before b last.0 last.1),
    λ o boundary upto. subst (λ (s : Spot). spot_le (show r o bias) s ≡ true) (sym is) (show-rises r lawful.marked o b bias (most o boundary upto) (boundary-within r.text b last.1)),
  ) where
    most : (o : ℕ) → is_boundary r.text o ≡ true → spot_le (show r o bias) d ≡ true → o ≤ b
    most o boundary upto = go (cases_lt b o) (cases_lt o n) where
      go : (b < o) ⊎ (o ≤ b) → (o < n) ⊎ (n ≤ o) → o ≤ b
      go (inr le) k = le
      go (inl past) (inl lt) = absurd (false≢true (sym (last.2 o past lt) ∙ boundary))
      go (inl past) (inr ge) = absurd (false≢true (sym (parted.behind o ge boundary) ∙ upto))

  -- of the others the first boundary is shown first
  pub least-by : (n b : ℕ) (g : Spot) → IsPartedAt r bias Left d n → IsFirstBoundary r.text n (Some b) → g ≡ show r b bias → IsLeastBy r bias d (Some g)
  least-by n b g parted first is = (
    (b, first.1, sym is),
    subst (λ (s : Spot). spot_le d s ≡ true) (sym is) (not-false (spot_le d (show r b bias)) (parted.behind b first.0 first.1)),
    λ o boundary from. subst (λ (s : Spot). spot_le s (show r o bias) ≡ true) (sym is) (show-rises r lawful.marked b o bias (least o boundary from) (boundary-within r.text o boundary)),
  ) where
    least : (o : ℕ) → is_boundary r.text o ≡ true → spot_le d (show r o bias) ≡ true → b ≤ o
    least o boundary from = go (cases_lt o b) (cases_lt o n) where
      go : (o < b) ⊎ (b ≤ o) → (o < n) ⊎ (n ≤ o) → b ≤ o
      go (inr le) k = le
      go (inl before) (inl lt) = absurd (false≢true (sym (not-true (spot_le d (show r o bias)) (parted.before o lt boundary)) ∙ from))
      go (inl before) (inr ge) = absurd (false≢true (sym (first.2 o ge before) ∙ boundary))

  -- and where there is none, none is shown there
  pub no-greatest : (n : ℕ) → IsPartedAt r bias Right d n → IsLastBoundary r.text n None → IsGreatestBy r bias d None
  no-greatest n parted none o at = elim (cases_lt o n) [
    | inl lt ↦ absurd (false≢true (sym (none o lt) ∙ at))
    | inr ge ↦ parted.behind o ge at
  ]

  pub no-least : (n : ℕ) → IsPartedAt r bias Left d n → IsFirstBoundary r.text n None → IsLeastBy r bias d None
  no-least n parted none o at = elim (cases_lt o n) [
    | inl lt ↦ not-true (spot_le d (show r o bias)) (parted.before o lt at)
    | inr ge ↦ absurd (false≢true (sym (none o ge) ∙ at))
  ]
