-- The offsets that are shown at a spot.
use Rattle.std.proofs.Common.{◌≡◌, ℕ, ◌+◌, ◌<◌, ◌≤◌, ◌&&◌, ◌==◌, ◌⊎◌, inl, inr, not, nat_le, Bool, true, false, List, filter, unwrap_or, Option, Some, None, max, min, refl, ap, sym, ◌∙◌, subst, arith}
use Rattle.std.specs.List.{Contains}
use Rattle.std.proofs.lemmas.Bool.{and_from, and_left, and_parts, cases_lt, false≢true, not-false, not-true, not_from_false, not_from_true}
use Rattle.std.proofs.Math.Nat.{max-eq_left, max-eq_right, min-eq_left, min-eq_right}
use Rattle.std.proofs.lemmas.Bool.Decides.{nat_tests}
use Rattle.cell_units.specs.declared.place.Bias.{Bias}
use Rattle.cell_units.specs.declared.place.Bias.TheVariants.{Left, Right}
use Rattle.cell_units.specs.declared.place.Spot.{Spot}
use Rattle.cell_units.specs.Folded.{inside, line_of, place_in_line}
use Rattle.cell_units.specs.Record.{Record}
use Rattle.cell_units.specs.Text.{is_boundary}
use Rattle.cell_line.specs.declared.element.Element.{Element}
use Rattle.plain_rows.specs.Spots.{back, clip, elements_at, first_by, is_open, is_spot, is_within, offsets_at, positions, show, spot_le}
use Rattle.plain_rows.specs.inside.SpotOffsets.{IsFirstOffset, IsLastOffset, IsOffsetAt, greater, lesser}
use Rattle.plain_rows.specs.inside.SpotSearch.{IsPartedAt, stands_before}
use Rattle.plain_rows.proofs.Clips.{spot_le-antisym, spot_le-refl}
use Rattle.plain_rows.proofs.Lists.{IsFirst, all-contained, contains-filtered, contains-mapped, contains-none, contains-unfiltered, first_by-first}
use Rattle.plain_rows.proofs.SpotPositions.{contains-unmapped, position-boundary, position-contained}

-- ---- what is open

pub open-is : (r : Record) (o : ℕ) (bias : Bias) (line byte : ℕ) (es : List Element) → inside r.folds o ≡ false → line ≡ line_of r.text r.inlays r.folds o bias →
    byte ≡ place_in_line r.text r.inlays r.folds o bias → es ≡ elements_at r line → not (is_within es byte) ≡ is_open r o bias
unfolding is_open
open-is r o bias line byte es out at place elements = (λ i. not (is_within ((elements ∙ ap (elements_at r) at) i) (place i))) ∙ ap (λ (b : Bool). b && not within) (sym (not_from_false (inside r.folds o) out)) where
  within : Bool
  within = is_within (elements_at r (line_of r.text r.inlays r.folds o bias)) (place_in_line r.text r.inlays r.folds o bias)

same_spot : (s t : Spot) → is_spot s t ≡ true → s ≡ t
same_spot s t h =
    let p = and_parts (s.row == t.row) (s.col == t.col) h in
    let rows : s.row ≡ t.row = grind (arith, nat_tests, p.0) in
    let cols : s.col ≡ t.col = grind (arith, nat_tests, p.1) in
    λ i. record { row = rows i; col = cols i }

own_spot : (s : Spot) → is_spot s s ≡ true
own_spot s = grind (arith, nat_tests)

-- an open position that is shown at the spot
pub record IsShownAt (r : Record) (s : Spot) (o : ℕ) : Type 0 where
  pub bias : Bias
  pub boundary : is_boundary r.text o ≡ true
  pub opened : is_open r o bias ≡ true
  pub is : show r o bias ≡ s

pub shown-contained : (r : Record) (s : Spot) (o : ℕ) → IsShownAt r s o → Contains (offsets_at r s) o
unfolding offsets_at
shown-contained r s o h =
    let test = λ (p : ℕ × Bias). is_open r p.0 p.1 && is_spot (show r p.0 p.1) s in
    let same : is_spot (show r o h.bias) s ≡ true = subst (λ (t : Spot). is_spot (show r o h.bias) t ≡ true) h.is (own_spot (show r o h.bias)) in
    contains-mapped (λ (p : ℕ × Bias). p.0) (filter test (positions r.text)) (o, h.bias)
    (contains-filtered test (positions r.text) (o, h.bias) (position-contained r.text o h.bias h.boundary) (and_from (is_open r o h.bias) (is_spot (show r o h.bias) s) h.opened same))

pub contained-shown : (r : Record) (s : Spot) (o : ℕ) → Contains (offsets_at r s) o → IsShownAt r s o
unfolding offsets_at
contained-shown r s o m =
    let test = λ (p : ℕ × Bias). is_open r p.0 p.1 && is_spot (show r p.0 p.1) s in
    let x = contains-unmapped (λ (p : ℕ × Bias). p.0) (filter test (positions r.text)) o m in
    let of = contains-unfiltered test (positions r.text) x.0 x.1 in
    let both = and_parts (is_open r x.0.0 x.0.1) (is_spot (show r x.0.0 x.0.1) s) of.1 in
    subst (IsShownAt r s) x.2 (record { bias = x.0.1; boundary = position-boundary r.text x.0 of.0; opened = both.0; is = same_spot (show r x.0.0 x.0.1) s both.1 })

-- ---- the least and the greatest

pub le-refl : (a : ℕ) → nat_le a a ≡ true
le-refl a = grind (arith, nat_tests)

pub le-total : (a b : ℕ) → nat_le a b ≡ false → nat_le b a ≡ true
le-total a b h = grind (arith, nat_tests, h)

pub le-trans : (a b c : ℕ) → nat_le a b ≡ true → nat_le b c ≡ true → nat_le a c ≡ true
le-trans a b c h k = grind (arith, nat_tests, h, k)

pub ge-total : (a b : ℕ) → nat_le b a ≡ false → nat_le a b ≡ true
ge-total a b h = le-total b a h

pub ge-trans : (a b c : ℕ) → nat_le b a ≡ true → nat_le c b ≡ true → nat_le c a ≡ true
ge-trans a b c h k = le-trans c b a k h

le-test : (a b : ℕ) → nat_le a b ≡ true → a ≤ b
le-test a b h = grind (arith, nat_tests, h)

-- the least of a list is the one that is in it and at most each of it, and 0 of none
abbrev pub IsLeastOf : (ℕ → Type 0) → Option ℕ → Type 0
IsLeastOf P None = (o : ℕ) → P o → ⊥
IsLeastOf P (Some f) = P f × ((o : ℕ) → P o → f ≤ o)

abbrev pub IsGreatestOf : (ℕ → Type 0) → Option ℕ → Type 0
IsGreatestOf P None = (o : ℕ) → P o → ⊥
IsGreatestOf P (Some l) = P l × ((o : ℕ) → P o → o ≤ l)

pub least-is : (os : List ℕ) (f : Option ℕ) → IsLeastOf (Contains os) f → unwrap_or f 0 ≡ unwrap_or (first_by nat_le os) 0
least-is os f h = go f (first_by nat_le os) h (first_by-first nat_le le-refl le-total le-trans os) where
  go : (f g : Option ℕ) → IsLeastOf (Contains os) f → IsFirst nat_le os g → unwrap_or f 0 ≡ unwrap_or g 0
  go None None h k = refl
  go None (Some y) h k = absurd (h y k.0)
  go (Some x) None h k = absurd (contains-none x (subst (λ (l : List ℕ). Contains l x) k h.0))
  go (Some x) (Some y) h k = omega (arith, h.1 y k.0, le-test y x (all-contained (λ z. nat_le y z ≡ true) os x k.1 h.0))

pub greatest-is : (os : List ℕ) (f : Option ℕ) → IsGreatestOf (Contains os) f → unwrap_or f 0 ≡ unwrap_or (first_by (λ a b. nat_le b a) os) 0
greatest-is os f h = go f (first_by (λ a b. nat_le b a) os) h (first_by-first (λ a b. nat_le b a) le-refl ge-total ge-trans os) where
  go : (f g : Option ℕ) → IsGreatestOf (Contains os) f → IsFirst (λ a b. nat_le b a) os g → unwrap_or f 0 ≡ unwrap_or g 0
  go None None h k = refl
  go None (Some y) h k = absurd (h y k.0)
  go (Some x) None h k = absurd (contains-none x (subst (λ (l : List ℕ). Contains l x) k h.0))
  go (Some x) (Some y) h k = omega (arith, h.1 y k.0, le-test x y (all-contained (λ z. nat_le z y ≡ true) os x k.1 h.0))

-- ---- both biases

module _ (r : Record) (s : Spot) where
  abbrev Listed : ℕ → Type 0
  Listed o = Contains (offsets_at r s) o

  listed : (bias : Bias) (o : ℕ) → IsOffsetAt r bias s o → Listed o
  listed bias o h = shown-contained r s o (record { bias = bias; boundary = h.boundary; opened = h.opened; is = h.is })

  by-bias : (P : ℕ → Type 0) → ((o : ℕ) → IsOffsetAt r Left s o → P o) → ((o : ℕ) → IsOffsetAt r Right s o → P o) → (o : ℕ) → Listed o → P o
  by-bias P l q o m = let x = contained-shown r s o m in go x.bias (record { boundary = x.boundary; opened = x.opened; is = x.is }) where
    go : (bias : Bias) → IsOffsetAt r bias s o → P o
    go Left h = l o h
    go Right h = q o h

  least-both : (f g : Option ℕ) → IsFirstOffset r Left s f → IsFirstOffset r Right s g → IsLeastOf Listed (lesser f g)
  least-both None None x y = by-bias (λ o. ⊥) x y
  least-both None (Some g) x y = (listed Right g y.0, by-bias (λ o. g ≤ o) (λ o h. absurd (x o h)) y.1)
  least-both (Some f) None x y = (listed Left f x.0, by-bias (λ o. f ≤ o) x.1 (λ o h. absurd (y o h)))
  least-both (Some f) (Some g) x y = go (cases_lt g f) where
    go : (g < f) ⊎ (f ≤ g) → IsLeastOf Listed (Some (min f g))
    go (inl less) =
        subst (λ o. IsLeastOf Listed (Some o)) (sym (min-eq_right (omega (arith, less))))
        (listed Right g y.0, by-bias (λ o. g ≤ o) (λ o h. omega (arith, less, x.1 o h)) y.1)
    go (inr le) =
        subst (λ o. IsLeastOf Listed (Some o)) (sym (min-eq_left le))
        (listed Left f x.0, by-bias (λ o. f ≤ o) x.1 (λ o h. omega (arith, le, y.1 o h)))

  greatest-both : (f g : Option ℕ) → IsLastOffset r Left s f → IsLastOffset r Right s g → IsGreatestOf Listed (greater f g)
  greatest-both None None x y = by-bias (λ o. ⊥) x y
  greatest-both None (Some g) x y = (listed Right g y.0, by-bias (λ o. o ≤ g) (λ o h. absurd (x o h)) y.1)
  greatest-both (Some f) None x y = (listed Left f x.0, by-bias (λ o. o ≤ f) x.1 (λ o h. absurd (y o h)))
  greatest-both (Some f) (Some g) x y = go (cases_lt g f) where
    go : (g < f) ⊎ (f ≤ g) → IsGreatestOf Listed (Some (max f g))
    go (inl less) =
        subst (λ o. IsGreatestOf Listed (Some o)) (sym (max-eq_left (omega (arith, less))))
        (listed Left f x.0, by-bias (λ o. o ≤ f) x.1 (λ o h. omega (arith, less, y.1 o h)))
    go (inr le) =
        subst (λ o. IsGreatestOf Listed (Some o)) (sym (max-eq_right le))
        (listed Right g y.0, by-bias (λ o. o ≤ g) (λ o h. omega (arith, le, x.1 o h)) y.1)

pub back-left : (r : Record) (d s : Spot) (f g : Option ℕ) → s ≡ clip r d Left → IsFirstOffset r Left s f → IsFirstOffset r Right s g → unwrap_or (lesser f g) 0 ≡ back r d Left
unfolding back
back-left r d s f g at x y =
    least-is (offsets_at r s) (lesser f g) (least-both r s f g x y)
    ∙ ap (λ (t : Spot). unwrap_or (first_by nat_le (offsets_at r t)) 0) at

pub back-right : (r : Record) (d s : Spot) (f g : Option ℕ) → s ≡ clip r d Right → IsLastOffset r Left s f → IsLastOffset r Right s g → unwrap_or (greater f g) 0 ≡ back r d Right
unfolding back
back-right r d s f g at x y =
    greatest-is (offsets_at r s) (greater f g) (greatest-both r s f g x y)
    ∙ ap (λ (t : Spot). unwrap_or (first_by (λ a b. nat_le b a) (offsets_at r t)) 0) at

-- ---- walks

-- what is neither before a spot nor after it is at it
pub at-spot : (s d : Spot) → stands_before Left s d ≡ false → stands_before Right s d ≡ true → s ≡ d
at-spot s d h k = spot_le-antisym s d k (not-false (spot_le d s) h)

module _ (r : Record) (bias : Bias) (d : Spot) where
  pub offset-at : (o : ℕ) → is_boundary r.text o && is_open r o bias ≡ true → show r o bias ≡ d → IsOffsetAt r bias d o
  offset-at o h is = let p = and_parts (is_boundary r.text o) (is_open r o bias) h in record { boundary = p.0; opened = p.1; is = is }

  pub no-offset-at : (o : ℕ) → is_boundary r.text o && is_open r o bias ≡ false → IsOffsetAt r bias d o → ⊥
  no-offset-at o h at = false≢true (sym h ∙ and_from (is_boundary r.text o) (is_open r o bias) at.boundary at.opened)

  -- none is where all boundaries are shown before the spot, or all after it
  pub none-before : (n : ℕ) → IsPartedAt r bias Left d n → (o : ℕ) → o < n → IsOffsetAt r bias d o → ⊥
  none-before n parted o lt at =
      false≢true
      (sym (not-true (spot_le d (show r o bias)) (parted.before o lt at.boundary))
      ∙ subst (λ (s : Spot). spot_le d s ≡ true) (sym at.is) (spot_le-refl d))

  pub none-behind : (n : ℕ) → IsPartedAt r bias Right d n → (o : ℕ) → n ≤ o → IsOffsetAt r bias d o → ⊥
  none-behind n parted o ge at =
      false≢true (sym (parted.behind o ge at.boundary) ∙ subst (λ (s : Spot). spot_le s d ≡ true) (sym at.is) (spot_le-refl d))

  -- one more offset
  pub none-upto : (n : ℕ) → is_boundary r.text n && is_open r n bias ≡ false → ((o : ℕ) → o < n → IsOffsetAt r bias d o → ⊥) → (o : ℕ) → o < n + 1 → IsOffsetAt r bias d o → ⊥
  none-upto n shut none o lt at = elim (cases_lt o n) [
    | inl less ↦ none o less at
    | inr ge ↦ let e : o ≡ n = omega (arith, lt, ge) in no-offset-at n shut (subst (IsOffsetAt r bias d) e at)
  ]

  pub none-from : (n : ℕ) → is_boundary r.text n && is_open r n bias ≡ false → ((o : ℕ) → n < o → IsOffsetAt r bias d o → ⊥) → (o : ℕ) → n ≤ o → IsOffsetAt r bias d o → ⊥
  none-from n shut none o le at = elim (cases_lt n o) [
    | inl more ↦ none o more at
    | inr ge ↦ let e : o ≡ n = omega (arith, le, ge) in no-offset-at n shut (subst (IsOffsetAt r bias d) e at)
  ]

  -- nor is any strictly inside a joined fold
  hidden-shut : (o : ℕ) → inside r.folds o ≡ true → IsOffsetAt r bias d o → ⊥
  unfolding is_open
  hidden-shut o h at = false≢true (sym (and_left (not (inside r.folds o)) _ (not_from_true (inside r.folds o) h)) ∙ at.opened)

  pub none-upto_end : (n e : ℕ) → ((o : ℕ) → n ≤ o → o < e → inside r.folds o ≡ true) → ((o : ℕ) → o < n → IsOffsetAt r bias d o → ⊥) → (o : ℕ) → o < e → IsOffsetAt r bias d o → ⊥
  none-upto_end n e hides none o lt at = elim (cases_lt o n) [
    | inl less ↦ none o less at
    | inr ge ↦ hidden-shut o (hides o ge lt) at
  ]

  pub none-from_start : (s n : ℕ) → ((o : ℕ) → s < o → o ≤ n → inside r.folds o ≡ true) → ((o : ℕ) → n < o → IsOffsetAt r bias d o → ⊥) → (o : ℕ) → s < o → IsOffsetAt r bias d o → ⊥
  none-from_start s n hides none o lt at = elim (cases_lt n o) [
    | inl more ↦ none o more at
    | inr le ↦ hidden-shut o (hides o lt le) at
  ]

  -- where none is before it, one that is found is the first
  pub first-found : (n : ℕ) → IsOffsetAt r bias d n → ((o : ℕ) → o < n → IsOffsetAt r bias d o → ⊥) → IsFirstOffset r bias d (Some n)
  first-found n here none = (
    here,
    λ o at. elim (cases_lt o n) [
      | inl less ↦ absurd (none o less at)
      | inr ge ↦ ge
    ],
  )

  pub last-found : (n : ℕ) → IsOffsetAt r bias d n → ((o : ℕ) → n < o → IsOffsetAt r bias d o → ⊥) → IsLastOffset r bias d (Some n)
  last-found n here none = (
    here,
    λ o at. elim (cases_lt n o) [
      | inl more ↦ absurd (none o more at)
      | inr ge ↦ ge
    ],
  )
