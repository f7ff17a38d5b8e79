-- What sums and their measures keep, and the sum of a list.
use Rattle.std.specs.Prelude.{◌≡◌, false, List, [], ◌∷◌}
use Rattle.std.specs.Ordering.{is_gt}
use Rattle.std.specs.declared.cmp.Ordering.{Ordering}

-- Sums can be grouped in any way, the empty sum adds nothing, and where a whole fits its parts fit.
pub record SummaryLaws {S : Type 0} (empty : S) (joined : S → S → S) (fits : S → Type 0) : Type 0 where
  pub left_identity : (x : S) → joined empty x ≡ x
  pub right_identity : (x : S) → joined x empty ≡ x
  pub assoc : (x y z : S) → joined (joined x y) z ≡ joined x (joined y z)
  pub empty_fits : fits empty
  pub left_fits : (x y : S) → fits (joined x y) → fits x
  pub right_fits : (x y : S) → fits (joined x y) → fits y

-- The measure of a whole is made of the measures of its parts, and no part's measure is greater than the whole's.
pub record DimensionLaws {S D : Type 0} (joined : S → S → S) (fits : S → Type 0) (joined_with : D → D → D) (fits_with : D → D → Type 0) (measure : S → D) (cmp : D → D → Ordering) : Type 0 where
  pub of_joined : (x y : S) → measure (joined x y) ≡ joined_with (measure x) (measure y)
  pub fits_joined : (x y : S) → fits (joined x y) → fits_with (measure x) (measure y)
  pub left_not_greater : (x y : S) → fits (joined x y) → is_gt (cmp (measure x) (measure (joined x y))) ≡ false
  pub right_not_greater : (x y : S) → fits (joined x y) → is_gt (cmp (measure y) (measure (joined x y))) ≡ false

-- the sum of a list of items, from the left to the right
abbrev pub total : {T S : Type 0} → S → (S → S → S) → (T → S) → List T → S
total empty joined summary [] = empty
total empty joined summary (x ∷ xs) = joined (summary x) (total empty joined summary xs)
