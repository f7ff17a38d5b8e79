-- What `back` returns: it doesn't fall as the spot rises, and it is on each side of what is shown there.
use Rattle.std.proofs.Common.{◌≡◌, ℕ, ◌<◌, ◌≤◌, nat_le, Bool, true, List, unwrap_or, Option, Some, None, refl, ap, ◌∙◌, subst, inl, inr, ◌⊎◌, arith}
use Rattle.std.specs.List.{Contains}
use Rattle.std.proofs.lemmas.Bool.{cases_lt}
use Rattle.std.proofs.lemmas.Bool.Decides.{nat_tests}
use Rattle.cell_units.specs.declared.place.Bias.{Bias}
use Rattle.cell_units.specs.declared.place.Bias.TheVariants.{Left, Right}
use Rattle.cell_units.specs.declared.place.Spot.{Spot}
use Rattle.cell_units.specs.Text.{is_boundary}
use Rattle.cell_units.specs.Record.{Record}
use Rattle.plain_rows.specs.Spots.{back, clip, first_by, is_open, offsets_at, positions, show, spot_le}
use Rattle.plain_rows.specs.Laws.{IsValidSpot}
use Rattle.plain_rows.proofs.Lists.{IsFirst, all-contained, contains-mapped, contains-none, first_by-first}
use Rattle.plain_rows.proofs.Clips.{clip-own, clip-valid, spot_le-antisym}
use Rattle.plain_rows.proofs.NearestAfter.{clip-rises}
use Rattle.plain_rows.proofs.SpotOffsets.{IsShownAt, contained-shown, ge-total, ge-trans, le-refl, le-total, le-trans, shown-contained}
use Rattle.plain_rows.proofs.SpotPositions.{boundary-within, position-contained}
use Rattle.cell_units.specs.Lawful.{IsMarked}
use Rattle.plain_rows.proofs.ShowRises.{ComesFirst, show-open_rises}

-- each valid spot shows an open position
abbrev pub HasBack : Record → Type 0
HasBack r = (s : Spot) → IsValidSpot r s → (o : ℕ) × Contains (offsets_at r s) o

-- the least of offsets for Left, the greatest for Right
abbrev pub picked : List ℕ → Bias → ℕ
picked offsets Left = unwrap_or (first_by nat_le offsets) 0
picked offsets Right = unwrap_or (first_by (λ a b. nat_le b a) offsets) 0

first-picked : (le : ℕ → ℕ → Bool) (offsets : List ℕ) (o : ℕ) → IsFirst le offsets (first_by le offsets) → Contains offsets o →
    Contains offsets (unwrap_or (first_by le offsets) 0) × (le (unwrap_or (first_by le offsets) 0) o ≡ true)
first-picked le offsets o h m = go (first_by le offsets) h where
  go : (f : Option ℕ) → IsFirst le offsets f → Contains offsets (unwrap_or f 0) × (le (unwrap_or f 0) o ≡ true)
  go (Some x) k = (k.0, all-contained (λ y. le x y ≡ true) offsets o k.1 m)
  go None k = absurd (contains-none o (subst (λ (l : List ℕ). Contains l o) k m))

pub left-picked : (offsets : List ℕ) (o : ℕ) → Contains offsets o → Contains offsets (picked offsets Left) × (picked offsets Left ≤ o)
left-picked offsets o m =
    let p = first-picked nat_le offsets o (first_by-first nat_le le-refl le-total le-trans offsets) m in
    (p.0, grind (arith, nat_tests, p.1))

pub right-picked : (offsets : List ℕ) (o : ℕ) → Contains offsets o → Contains offsets (picked offsets Right) × (o ≤ picked offsets Right)
right-picked offsets o m =
    let p = first-picked (λ a b. nat_le b a) offsets o (first_by-first (λ a b. nat_le b a) le-refl ge-total ge-trans offsets) m in
    (p.0, grind (arith, nat_tests, p.1))

picked-contained : (offsets : List ℕ) (bias : Bias) (o : ℕ) → Contains offsets o → Contains offsets (picked offsets bias)
picked-contained offsets Left o m = (left-picked offsets o m).0
picked-contained offsets Right o m = (right-picked offsets o m).0

pub back-picked : (r : Record) (d : Spot) (bias : Bias) → back r d bias ≡ picked (offsets_at r (clip r d bias)) bias
unfolding back
back-picked r d Left = refl
back-picked r d Right = refl

-- an offset that is shown at a spot is between the two results for that spot
pub back-own : (r : Record) (o : ℕ) (bias : Bias) → is_boundary r.text o ≡ true → is_open r o bias ≡ true →
    (back r (show r o bias) Left ≤ o) × (o ≤ back r (show r o bias) Right)
back-own r o bias boundary opened =
    let s = show r o bias in
    let valid : IsValidSpot r s = contains-mapped (λ (p : ℕ × Bias). show r p.0 p.1) (positions r.text) (o, bias) (position-contained r.text o bias boundary) in
    let m : Contains (offsets_at r s) o = shown-contained r s o (record { bias = bias; boundary = boundary; opened = opened; is = refl }) in
    let at : (side : Bias) → back r s side ≡ picked (offsets_at r s) side = λ side. back-picked r s side ∙ ap (λ (t : Spot). picked (offsets_at r t) side) (clip-own r s side valid) in
    (omega (arith, at Left, (left-picked (offsets_at r s) o m).1), omega (arith, at Right, (right-picked (offsets_at r s) o m).1))

comes_first : (o : ℕ) (b : Bias) (p : ℕ) (c : Bias) (r : Record) (marked : IsMarked r) → o < p → ComesFirst r marked o b p c
comes_first o Left p c r marked lt = omega (arith, lt)
comes_first o Right p Left r marked lt = lt
comes_first o Right p Right r marked lt = omega (arith, lt)

module _ (r : Record) (marked : IsMarked r) where
  -- offsets that are shown at different spots are in the order of these
  pub offsets-rise : (s t : Spot) (o p : ℕ) → spot_le s t ≡ true → IsShownAt r s o → IsShownAt r t p → (s ≡ t) ⊎ (o ≤ p)
  offsets-rise s t o p h x y = elim (cases_lt p o) [
    | inr le ↦ inr le
    | inl lt ↦
        let back : spot_le (show r p y.bias) (show r o x.bias) ≡ true = show-open_rises r marked p y.bias o x.bias y.opened x.opened (comes_first p y.bias o x.bias r marked lt) (boundary-within r.text o x.boundary) in
        inl (spot_le-antisym s t h (subst (λ (u : Spot). spot_le u s ≡ true) y.is (subst (λ (u : Spot). spot_le (show r p y.bias) u ≡ true) x.is back)))
  ]

  pub back-rises : HasBack r → (d e : Spot) (bias : Bias) → spot_le d e ≡ true → back r d bias ≤ back r e bias
  back-rises has d e bias h =
      let s = clip r d bias in
      let t = clip r e bias in
      let some : Contains (offsets_at r s) (picked (offsets_at r s) bias) = let m = has s (clip-valid r d bias) in picked-contained (offsets_at r s) bias m.0 m.1 in
      let some' : Contains (offsets_at r t) (picked (offsets_at r t) bias) = let m = has t (clip-valid r e bias) in picked-contained (offsets_at r t) bias m.0 m.1 in
      let order : picked (offsets_at r s) bias ≤ picked (offsets_at r t) bias =
      elim (offsets-rise s t (picked (offsets_at r s) bias) (picked (offsets_at r t) bias) (clip-rises r d e bias h) (contained-shown r s (picked (offsets_at r s) bias) some) (contained-shown r t (picked (offsets_at r t) bias) some')) [
        | inl same ↦ let e = ap (λ (u : Spot). picked (offsets_at r u) bias) same in omega (arith, e)
        | inr le ↦ le
      ] in
      omega (arith, back-picked r d bias, back-picked r e bias, order)
