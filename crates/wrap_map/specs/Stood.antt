-- How lines are wrapped: each has a mark, with its cuts.
use Rattle.std.specs.Prelude.{ℕ, ◌≡◌, ◌≢◌, ◌+◌, ◌<◌, ◌≤◌, ◌==◌, ◌&&◌, Bool, if◌then◌else◌, List, [], ◌∷◌, ◌++◌, length, map, take, drop, slice_index_or, Option, Some, None}

-- the width at which a line is wrapped, 0 where it is in one row, and where it is cut
pub record Stood : Type 0 where
  pub mark : ℕ
  pub cuts : List ℕ

-- in one row
abbrev pub unwrapped : Stood
unwrapped = record { mark = 0; cuts = [] }

-- how the line of a number is wrapped
abbrev pub stood_at : List Stood → ℕ → Stood
stood_at lines line = slice_index_or lines line unwrapped

abbrev pub marks_in : List Stood → List ℕ
marks_in lines = map (λ l. l.mark) lines

-- how many rows lines have: each has one, and one more for each cut
abbrev pub rows_in : List Stood → ℕ
rows_in [] = 0
rows_in (l ∷ ls) = 1 + length l.cuts + rows_in ls

-- others in the place of the lines from `start` to `end`
abbrev pub put_in : ℕ → ℕ → List Stood → List Stood → List Stood
put_in start end fresh lines = take start lines ++ fresh ++ drop end lines

-- neighbours that are of one item: both without cuts, and at one mark
abbrev pub are_alike : Stood → Stood → Bool
are_alike a b = (a.mark == b.mark) && (length a.cuts == 0) && (length b.cuts == 0)

-- how many items lines make: each with cuts is one, and so is each maximal run of alike neighbours
abbrev pub runs_in : List Stood → ℕ
runs_in [] = 0
runs_in (a ∷ []) = 1
runs_in (a ∷ b ∷ ls) = (if are_alike a b then 0 else 1) + runs_in (b ∷ ls)

-- the first line from this one on whose mark is another than the width
pub record IsOther (lines : List Stood) (from width line : ℕ) : Type 0 where
  pub order : from ≤ line
  pub within : line < length lines
  pub other : (stood_at lines line).mark ≢ width
  pub before : (k : ℕ) → from ≤ k → k < line → (stood_at lines k).mark ≡ width

-- none where all lines from this one on are wrapped at the width
abbrev pub IsOtherIfAny : List Stood → ℕ → ℕ → Option ℕ → Type 0
IsOtherIfAny lines from width None =
    (k : ℕ) → from ≤ k → k < length lines → (stood_at lines k).mark ≡ width
IsOtherIfAny lines from width (Some line) = IsOther lines from width line

-- the first line from this one on, before an end, that is wrapped at the width, or the end
pub record IsNextAt (lines : List Stood) (from end width line : ℕ) : Type 0 where
  pub order : from ≤ line
  pub within : line ≤ end
  pub before : (k : ℕ) → from ≤ k → k < line → (stood_at lines k).mark ≢ width
  pub at : line < end → (stood_at lines line).mark ≡ width
