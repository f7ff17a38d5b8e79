-- What the measures of sums keep.
use Rattle.std.specs.Prelude.{◌≡◌, ℕ, ◌+◌, ◌≤◌}

-- A part that is in a whole which fits has no more of the measure than the whole.
pub record MeasureLaws {S : Type 0} (joined : S → S → S) (fits : S → Type 0) (number : S → ℕ) : Type 0 where
  pub left_at_most : (x y : S) → fits (joined x y) → number x ≤ number (joined x y)
  pub right_at_most : (x y : S) → fits (joined x y) → number y ≤ number (joined x y)

-- The measure of a whole is that of its parts together.
pub record CountLaws {S : Type 0} (empty : S) (joined : S → S → S) (number : S → ℕ) : Type 0 where
  pub none : number empty ≡ 0
  pub adds : (x y : S) → number (joined x y) ≡ number x + number y
