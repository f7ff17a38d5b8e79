-- What Right takes, and that the nearest valid spots don't fall as the spot rises.
use Rattle.std.proofs.Common.{◌≡◌, ◌<◌, ◌≤◌, ◌==◌, ◌⊎◌, inl, inr, Bool, true, false, if◌then◌else◌, List, [], ◌∷◌, length, filter, nat_lt, unwrap_or, Option, Some, None, refl, sym, ◌∙◌, subst, arith}
use Rattle.std.specs.List.{Contains}
use Rattle.std.specs.Option.{option_or}
use Rattle.std.proofs.lemmas.Bool.{cases_Bool, cases_lt, false≢true, lt-ltb}
use Rattle.std.proofs.lemmas.Bool.Decides.{nat_tests}
use Rattle.cell_units.specs.declared.place.Bias.{Bias}
use Rattle.cell_units.specs.declared.place.Bias.TheVariants.{Left, Right}
use Rattle.cell_units.specs.declared.place.Spot.{Spot}
use Rattle.cell_units.specs.Record.{Record}
use Rattle.plain_rows.specs.Spots.{at_or_after, at_or_before, clip, greatest, least, origin, past, show, spot_le, valid_spots}
use Rattle.plain_rows.specs.Laws.{GreatestOfAll, IsNearestAfter, IsWithinRow, LastOfRow, LeastAfter}
use Rattle.plain_rows.proofs.Lists.{IsFirst, all-contained, contains-filtered, contains-none, contains-some, contains-unfiltered}
use Rattle.plain_rows.proofs.Clips.{greatest-first, least-first, left-valid, left_nearest, left_of, right_of, row_of_spot, some-valid, spot_ge, spot_le-total, spot_le-trans}

some-contained : (xs : List Spot) → 0 < length xs → (y : Spot) × Contains xs y
some-contained [] l = absurd (omega (arith, l))
some-contained (x ∷ xs) l = (x, (0, omega arith, refl))

row_test : (s d : Spot) → s.row ≡ d.row → (s.row == d.row) ≡ true
row_test s d e = grind (arith, nat_tests, e)

row_of_test : (s d : Spot) → (s.row == d.row) ≡ true → s.row ≡ d.row
row_of_test s d e = grind (arith, nat_tests, e)

-- where no spot of a filter is left, none that passes is there
none_kept : (p : Spot → Bool) (xs : List Spot) (y : Spot) → filter p xs ≡ [] → Contains xs y → p y ≡ false
none_kept p xs y e m = elim (cases_Bool (p y)) [
  | inl h ↦ absurd (contains-none y (subst (λ (l : List Spot). Contains l y) e (contains-filtered p xs y m h)))
  | inr h ↦ h
]

module _ (spots : List Spot) (d w : Spot) (m : Contains spots w) where
  abbrev row : List Spot
  row = row_of_spot spots d

  in_row : (t : Spot) → Contains spots t → t.row ≡ d.row → Contains row t
  in_row t n e = contains-filtered (λ s. s.row == d.row) spots t n (row_test t d e)

  least_after : (within : (t : Spot) → Contains spots t → t.row ≡ d.row → IsWithinRow spots d) → ((at_or_after d spots ≡ []) → (t : Spot) → Contains spots t → t.row ≡ d.row → ⊥) →
      IsNearestAfter spots d (unwrap_or (option_or (least (at_or_after d spots)) (greatest spots)) origin)
  least_after within none = go (least (at_or_after d spots)) (least-first (at_or_after d spots)) (greatest spots) (greatest-first spots) where
    go : (b : Option Spot) → IsFirst spot_le (at_or_after d spots) b → (c : Option Spot) → IsFirst spot_ge spots c → IsNearestAfter spots d (unwrap_or (option_or b c) origin)
    go (Some s) k c l =
        let of = contains-unfiltered (λ s. spot_le d s) spots s k.0 in
        LeastAfter s of.0 of.1 (λ t n h. all-contained (λ u. spot_le s u ≡ true) (at_or_after d spots) t k.1 (contains-filtered (λ s. spot_le d s) spots t n h)) within
    go None k (Some s) l = GreatestOfAll s l (λ t n. none_kept (λ s. spot_le d s) spots t k n) (none k)
    go None k None l = absurd (contains-none w (subst (λ (l : List Spot). Contains l w) l m))

  pub nearest_after : IsNearestAfter spots d (right_of spots d)
  nearest_after = go (nat_lt 0 (length (at_or_after d row))) refl where
    on : 0 < length (at_or_after d row) → IsNearestAfter spots d (unwrap_or (option_or (least (at_or_after d spots)) (greatest spots)) origin)
    on l =
        let some = some-contained (at_or_after d row) l in
        let u : Spot = some.0 in
        let after = contains-unfiltered (λ s. spot_le d s) row u some.1 in
        let of = contains-unfiltered (λ s. s.row == d.row) spots u after.0 in
        least_after (λ t n e. (u, of.0, row_of_test u d of.1, after.1))
        (λ e t n same. contains-none u (subst (λ (l : List Spot). Contains l u) e (contains-filtered (λ s. spot_le d s) spots u of.0 after.1)))

    off : ((t : Spot) → Contains spots t → t.row ≡ d.row → spot_le d t ≡ false) → (a : Option Spot) → IsFirst spot_ge row a → IsNearestAfter spots d (unwrap_or (option_or a (option_or (least (at_or_after d spots)) (greatest spots))) origin)
    off before (Some s) k =
        let of = contains-unfiltered (λ s. s.row == d.row) spots s k.0 in
        LastOfRow s of.0 (row_of_test s d of.1) before (λ t n e. all-contained (λ u. spot_ge s u ≡ true) row t k.1 (in_row t n e))
    off before None k =
        let empty : (t : Spot) → Contains spots t → t.row ≡ d.row → ⊥ = λ t n e. contains-none t (subst (λ (l : List Spot). Contains l t) k (in_row t n e)) in
        least_after (λ t n e. absurd (empty t n e)) (λ x. empty)

    go : (b : Bool) → nat_lt 0 (length (at_or_after d row)) ≡ b → IsNearestAfter spots d (unwrap_or (option_or (greatest (if b then [] else row)) (option_or (least (at_or_after d spots)) (greatest spots))) origin)
    go true e = on (grind (arith, nat_tests, e))
    go false e = off (λ t n same. before t n same (cases_Bool (spot_le d t))) (greatest row) (greatest-first row) where
      before : (t : Spot) → Contains spots t → t.row ≡ d.row → (spot_le d t ≡ true) ⊎ (spot_le d t ≡ false) → spot_le d t ≡ false
      before t n same (inr h) = h
      before t n same (inl h) = absurd (false≢true (sym e ∙ lt-ltb 0 (length (at_or_after d row)) (contains-some (at_or_after d row) t (contains-filtered (λ s. spot_le d s) row t (in_row t n same) h))))

-- rows of spots in order
rows_rise : (d e : Spot) → spot_le d e ≡ true → (d.row ≡ e.row) ⊎ (d.row < e.row)
rows_rise d e h = go (cases_lt d.row e.row) where
  go : (d.row < e.row) ⊎ (e.row ≤ d.row) → (d.row ≡ e.row) ⊎ (d.row < e.row)
  go (inl l) = inr l
  go (inr l) = inl (grind (arith, nat_tests, h, l))

later_row : (s t : Spot) → s.row < t.row → spot_le s t ≡ true
later_row s t l = grind (arith, nat_tests, l)

pub nearest_rises : (spots : List Spot) (d e c c' : Spot) → spot_le d e ≡ true → IsNearestAfter spots d c → IsNearestAfter spots e c' → spot_le c c' ≡ true
nearest_rises spots d e c c' h (LastOfRow s n same past last) (LastOfRow s' n' same' past' last') = elim (rows_rise d e h) [
  | inl x ↦ last' c n (same ∙ x)
  | inr x ↦ later_row c c' (omega (arith, same, same', x))
]
nearest_rises spots d e c c' h (LastOfRow s n same past last) (LeastAfter s' n' after' least' within') =
    spot_le-trans c d c' (spot_le-total d c (past c n same)) (spot_le-trans d e c' h after')
nearest_rises spots d e c c' h (LastOfRow s n same past last) (GreatestOfAll s' all' none' empty') = all-contained (λ u. spot_le u c' ≡ true) spots c all'.1 n
nearest_rises spots d e c c' h (LeastAfter s n after least within) (LastOfRow s' n' same' past' last') = elim (rows_rise d e h) [
  | inl x ↦
      let u = within c' n' (same' ∙ sym x) in
      spot_le-trans c u.0 c' (least u.0 u.1 u.3) (last' u.0 u.1 (u.2 ∙ x))
  | inr x ↦ least c' n' (later_row d c' (omega (arith, same', x)))
]
nearest_rises spots d e c c' h (LeastAfter s n after least within) (LeastAfter s' n' after' least' within') = least c' n' (spot_le-trans d e c' h after')
nearest_rises spots d e c c' h (LeastAfter s n after least within) (GreatestOfAll s' all' none' empty') = all-contained (λ u. spot_le u c' ≡ true) spots c all'.1 n
nearest_rises spots d e c c' h (GreatestOfAll s all none empty) (LastOfRow s' n' same' past' last') = elim (rows_rise d e h) [
  | inl x ↦ absurd (empty c' n' (same' ∙ sym x))
  | inr x ↦ absurd (false≢true (sym (none c' n') ∙ later_row d c' (omega (arith, same', x))))
]
nearest_rises spots d e c c' h (GreatestOfAll s all none empty) (LeastAfter s' n' after' least' within') =
    absurd (false≢true (sym (none c' n') ∙ spot_le-trans d e c' h after'))
nearest_rises spots d e c c' h (GreatestOfAll s all none empty) (GreatestOfAll s' all' none' empty') = all-contained (λ u. spot_le u c' ≡ true) spots c all'.1 all.0

left_rises : (spots : List Spot) (d e w : Spot) → Contains spots w → spot_le d e ≡ true → spot_le (left_of spots d) (left_of spots e) ≡ true
left_rises spots d e w m h = go (greatest (at_or_before d spots)) (greatest-first (at_or_before d spots)) (least spots) (least-first spots) where
  go : (a : Option Spot) → IsFirst spot_ge (at_or_before d spots) a → (b : Option Spot) → IsFirst spot_le spots b → spot_le (unwrap_or (option_or a b) origin) (left_of spots e) ≡ true
  go (Some s) k b l =
      let of = contains-unfiltered (λ t. spot_le t d) spots s k.0 in
      (left_nearest spots e s of.0 (spot_le-trans s d e of.1 h)).1
  go None k (Some s) l = all-contained (λ u. spot_le s u ≡ true) spots (left_of spots e) l.1 (left-valid spots e w m)
  go None k None l = absurd (contains-none w (subst (λ (l : List Spot). Contains l w) l m))

pub clip-nearest_after : (r : Record) (d : Spot) → IsNearestAfter (valid_spots r) d (clip r d Right)
unfolding clip
clip-nearest_after r d = nearest_after (valid_spots r) d (show r (length r.text) Left) (some-valid r)

pub clip-rises : (r : Record) (d e : Spot) (bias : Bias) → spot_le d e ≡ true → spot_le (clip r d bias) (clip r e bias) ≡ true
unfolding clip
clip-rises r d e Left h = left_rises (valid_spots r) d e (show r (length r.text) Left) (some-valid r) h
clip-rises r d e Right h =
    let w : Spot = show r (length r.text) Left in
    nearest_rises (valid_spots r) d e (right_of (valid_spots r) d) (right_of (valid_spots r) e) h
    (nearest_after (valid_spots r) d w (some-valid r)) (nearest_after (valid_spots r) e w (some-valid r))
