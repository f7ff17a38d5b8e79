-- The lines from the first of some flags that is set to the last.
use Rattle.std.specs.Prelude.{ℕ, ◌≡◌, ◌-◌, ◌<◌, ◌≤◌, Bool, true, false, List, slice_index_or}
use Rattle.row_pieces.specs.declared.row_change.RowChange.{RowChange}
use Rattle.row_pieces.specs.Changed.{no_change}

-- the lines from the first that is flagged to the last make place for as many. Nothing does where none is
pub record GoFromFirstToLast (flags : List Bool) (lines : RowChange) : Type 0 where
  pub as_many : lines.count ≡ lines.to - lines.from
  pub within :
      (k : ℕ) → slice_index_or flags k false ≡ true → (lines.from ≤ k) × (k < lines.to)
  pub first : lines.from < lines.to → slice_index_or flags lines.from false ≡ true
  pub last : lines.from < lines.to → slice_index_or flags (lines.to - 1) false ≡ true
  pub none : lines.to ≤ lines.from → lines ≡ no_change
