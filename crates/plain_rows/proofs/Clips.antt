-- The nearest valid spots.
use Rattle.std.proofs.Common.{◌≡◌, ℕ, ◌==◌, inl, inr, Bool, true, false, if◌then◌else◌, List, [], length, filter, nat_lt, unwrap_or, Option, Some, None, ap, ◌∙◌, subst, arith}
use Rattle.std.specs.List.{Contains}
use Rattle.std.specs.Option.{option_or}
use Rattle.std.proofs.lemmas.Bool.{cases_Bool, lt-ltb, or_left}
use Rattle.std.proofs.lemmas.Bool.Decides.{nat_tests}
use Rattle.cell_units.specs.declared.place.Bias.{Bias}
use Rattle.cell_units.specs.declared.place.Bias.TheVariants.{Left, Right}
use Rattle.cell_units.specs.declared.place.Spot.{Spot}
use Rattle.cell_units.specs.Record.{Record}
use Rattle.plain_rows.specs.Spots.{at_or_after, at_or_before, clip, greatest, least, origin, past, positions, show, spot_le, valid_spots}
use Rattle.plain_rows.specs.Laws.{GreatestBefore, IsGreatest, IsLeast, IsNearestBefore, IsValidSpot, LeastOfAll}
use Rattle.plain_rows.proofs.SpotPositions.{position-contained}
use Rattle.plain_rows.proofs.Lists.{IsFirst, all-contained, contains-filtered, contains-mapped, contains-none, contains-some, contains-unfiltered, first_by-first}

pub spot_le-refl : (s : Spot) → spot_le s s ≡ true
spot_le-refl s = grind (arith, nat_tests)

pub spot_le-total : (s t : Spot) → spot_le s t ≡ false → spot_le t s ≡ true
spot_le-total s t h = grind (arith, nat_tests, h)

pub spot_le-trans : (s t u : Spot) → spot_le s t ≡ true → spot_le t u ≡ true → spot_le s u ≡ true
spot_le-trans s t u h k = grind (arith, nat_tests, h, k)

pub spot_le-antisym : (s t : Spot) → spot_le s t ≡ true → spot_le t s ≡ true → s ≡ t
spot_le-antisym s t h k =
    let rows : s.row ≡ t.row = grind (arith, nat_tests, h, k) in
    let cols : s.col ≡ t.col = grind (arith, nat_tests, h, k, rows) in
    λ i. record { row = rows i; col = cols i }

abbrev pub spot_ge : Spot → Spot → Bool
spot_ge s t = spot_le t s

pub least-first : (spots : List Spot) → IsFirst spot_le spots (least spots)
least-first spots = first_by-first spot_le spot_le-refl spot_le-total spot_le-trans spots

pub greatest-first : (spots : List Spot) → IsFirst spot_ge spots (greatest spots)
greatest-first spots = first_by-first spot_ge spot_le-refl (λ s t. spot_le-total t s) (λ s t u h k. spot_le-trans u t s k h) spots

pub least-is : (spots : List Spot) (s : Spot) → least spots ≡ Some s → IsLeast spots s
least-is spots s e = subst (λ (o : Option Spot). IsFirst spot_le spots o) e (least-first spots)

pub greatest-is : (spots : List Spot) (s : Spot) → greatest spots ≡ Some s → IsGreatest spots s
greatest-is spots s e = subst (λ (o : Option Spot). IsFirst spot_ge spots o) e (greatest-first spots)

-- a text has at least the position at its end
end-position : (text : List ℕ) → Contains (positions text) (length text, Left)
end-position text =
    let n = length text in
    let here : (n == n) ≡ true = grind (arith, nat_tests) in
    position-contained text n Left (or_left (n == n) _ here)

pub some-valid : (r : Record) → Contains (valid_spots r) (show r (length r.text) Left)
some-valid r = contains-mapped (λ (p : ℕ × Bias). show r p.0 p.1) (positions r.text) (length r.text, Left) (end-position r.text)

abbrev pub left_of : List Spot → Spot → Spot
left_of spots d = unwrap_or (option_or (greatest (at_or_before d spots)) (least spots)) origin

abbrev pub right_of : List Spot → Spot → Spot
right_of spots d = unwrap_or (option_or (greatest (past d spots)) (option_or (least (at_or_after d spots)) (greatest spots))) origin

abbrev pub row_of_spot : List Spot → Spot → List Spot
row_of_spot spots d = filter (λ s. s.row == d.row) spots

past-contained : (spots : List Spot) (d s : Spot) → Contains (past d spots) s → Contains spots s
past-contained spots d s m = go (nat_lt 0 (length (at_or_after d (row_of_spot spots d)))) m where
  go : (b : Bool) → Contains (if b then [] else row_of_spot spots d) s → Contains spots s
  go true m = absurd (contains-none s m)
  go false m = (contains-unfiltered (λ s. s.row == d.row) spots s m).0

pub left-valid : (spots : List Spot) (d w : Spot) → Contains spots w → Contains spots (left_of spots d)
left-valid spots d w m = go (greatest (at_or_before d spots)) (greatest-first (at_or_before d spots)) (least spots) (least-first spots) where
  go : (a : Option Spot) → IsFirst spot_ge (at_or_before d spots) a → (b : Option Spot) → IsFirst spot_le spots b → Contains spots (unwrap_or (option_or a b) origin)
  go (Some s) h b k = (contains-unfiltered (λ s. spot_le s d) spots s h.0).0
  go None h (Some s) k = k.0
  go None h None k = absurd (contains-none w (subst (λ (l : List Spot). Contains l w) k m))

right-valid : (spots : List Spot) (d w : Spot) → Contains spots w → Contains spots (right_of spots d)
right-valid spots d w m = go (greatest (past d spots)) (greatest-first (past d spots)) (least (at_or_after d spots)) (least-first (at_or_after d spots)) (greatest spots) (greatest-first spots) where
  go : (a : Option Spot) → IsFirst spot_ge (past d spots) a → (b : Option Spot) → IsFirst spot_le (at_or_after d spots) b → (c : Option Spot) → IsFirst spot_ge spots c → Contains spots (unwrap_or (option_or a (option_or b c)) origin)
  go (Some s) h b k c l = past-contained spots d s h.0
  go None h (Some s) k c l = (contains-unfiltered (λ s. spot_le d s) spots s k.0).0
  go None h None k (Some s) l = l.0
  go None h None k None l = absurd (contains-none w (subst (λ (l : List Spot). Contains l w) l m))

-- a spot of the list is the nearest to itself
left-own : (spots : List Spot) (s : Spot) → Contains spots s → left_of spots s ≡ s
left-own spots s m = go (greatest (at_or_before s spots)) (greatest-first (at_or_before s spots)) where
  kept : Contains (at_or_before s spots) s
  kept = contains-filtered (λ t. spot_le t s) spots s m (spot_le-refl s)

  go : (a : Option Spot) → IsFirst spot_ge (at_or_before s spots) a → unwrap_or (option_or a (least spots)) origin ≡ s
  go (Some t) h = spot_le-antisym t s (contains-unfiltered (λ t. spot_le t s) spots t h.0).1 (all-contained (λ u. spot_ge t u ≡ true) (at_or_before s spots) s h.1 kept)
  go None h = absurd (contains-none s (subst (λ (l : List Spot). Contains l s) h kept))

past-own : (spots : List Spot) (s : Spot) → Contains spots s → past s spots ≡ []
past-own spots s m =
    let same : (s.row == s.row) ≡ true = grind (arith, nat_tests) in
    let in_row : Contains (row_of_spot spots s) s = contains-filtered (λ t. t.row == s.row) spots s m same in
    let kept : Contains (at_or_after s (row_of_spot spots s)) s = contains-filtered (λ t. spot_le s t) (row_of_spot spots s) s in_row (spot_le-refl s) in
    ap (λ (b : Bool). if b then [] else row_of_spot spots s) (lt-ltb 0 (length (at_or_after s (row_of_spot spots s))) (contains-some (at_or_after s (row_of_spot spots s)) s kept))

right-own : (spots : List Spot) (s : Spot) → Contains spots s → right_of spots s ≡ s
right-own spots s m =
    ap (λ (l : List Spot). unwrap_or (option_or (greatest l) (option_or (least (at_or_after s spots)) (greatest spots))) origin) (past-own spots s m)
    ∙ go (least (at_or_after s spots)) (least-first (at_or_after s spots)) where
      kept : Contains (at_or_after s spots) s
      kept = contains-filtered (λ t. spot_le s t) spots s m (spot_le-refl s)

      go : (a : Option Spot) → IsFirst spot_le (at_or_after s spots) a → unwrap_or (option_or a (greatest spots)) origin ≡ s
      go (Some t) h = spot_le-antisym t s (all-contained (λ u. spot_le t u ≡ true) (at_or_after s spots) s h.1 kept) (contains-unfiltered (λ t. spot_le s t) spots t h.0).1
      go None h = absurd (contains-none s (subst (λ (l : List Spot). Contains l s) h kept))

pub clip-valid : (r : Record) (d : Spot) (bias : Bias) → IsValidSpot r (clip r d bias)
unfolding clip
clip-valid r d Left = left-valid (valid_spots r) d (show r (length r.text) Left) (some-valid r)
clip-valid r d Right = right-valid (valid_spots r) d (show r (length r.text) Left) (some-valid r)

pub clip-own : (r : Record) (s : Spot) (bias : Bias) → IsValidSpot r s → clip r s bias ≡ s
unfolding clip
clip-own r s Left m = left-own (valid_spots r) s m
clip-own r s Right m = right-own (valid_spots r) s m

-- a spot of the list that is at or before d is at or before the nearest one
pub left_nearest : (spots : List Spot) (d s : Spot) → Contains spots s → spot_le s d ≡ true → (spot_le (left_of spots d) d ≡ true) × (spot_le s (left_of spots d) ≡ true)
left_nearest spots d s m h = go (greatest (at_or_before d spots)) (greatest-first (at_or_before d spots)) where
  kept : Contains (at_or_before d spots) s
  kept = contains-filtered (λ t. spot_le t d) spots s m h

  go : (a : Option Spot) → IsFirst spot_ge (at_or_before d spots) a → (spot_le (unwrap_or (option_or a (least spots)) origin) d ≡ true) × (spot_le s (unwrap_or (option_or a (least spots)) origin) ≡ true)
  go (Some t) k = ((contains-unfiltered (λ t. spot_le t d) spots t k.0).1, all-contained (λ u. spot_ge t u ≡ true) (at_or_before d spots) s k.1 kept)
  go None k = absurd (contains-none s (subst (λ (l : List Spot). Contains l s) k kept))

-- the nearest one is the greatest at or before d, or the least where there is none
left-nearest : (spots : List Spot) (d w : Spot) → Contains spots w → IsNearestBefore spots d (left_of spots d)
left-nearest spots d w m = go (greatest (at_or_before d spots)) (greatest-first (at_or_before d spots)) (least spots) (least-first spots) where
  behind : at_or_before d spots ≡ [] → (t : Spot) → Contains spots t → spot_le t d ≡ false
  behind none t k = elim (cases_Bool (spot_le t d)) [
    | inl le ↦ absurd (contains-none t (subst (λ (l : List Spot). Contains l t) none (contains-filtered (λ s. spot_le s d) spots t k le)))
    | inr past ↦ past
  ]

  go : (a : Option Spot) → IsFirst spot_ge (at_or_before d spots) a → (b : Option Spot) → IsFirst spot_le spots b → IsNearestBefore spots d (unwrap_or (option_or a b) origin)
  go (Some s) h b k =
      let is = contains-unfiltered (λ s. spot_le s d) spots s h.0 in
      GreatestBefore s is.0 is.1 (λ t n le. all-contained (λ u. spot_ge s u ≡ true) (at_or_before d spots) t h.1 (contains-filtered (λ s. spot_le s d) spots t n le))
  go None h (Some s) k = LeastOfAll s k (behind h)
  go None h None k = absurd (contains-none w (subst (λ (l : List Spot). Contains l w) k m))

pub clip-nearest_before : (r : Record) (d : Spot) → IsNearestBefore (valid_spots r) d (clip r d Left)
unfolding clip
clip-nearest_before r d = left-nearest (valid_spots r) d (show r (length r.text) Left) (some-valid r)
