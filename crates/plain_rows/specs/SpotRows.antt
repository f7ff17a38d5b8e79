-- What display lines say of offsets and rows, so that offsets and spots can be looked up in them.
use Rattle.std.specs.Prelude.{ℕ, ◌≡◌, ◌≤◌, ◌<◌, true, false, List, length, Option, Some, None}
use Rattle.cell_units.specs.Folded.{inside}
use Rattle.cell_units.specs.Record.{Fold, Record}
use Rattle.plain_rows.specs.declared.folded_lines.Joined.{Joined}
use Rattle.plain_rows.specs.Spots.{rows_before}

-- the last line whose text rows begin at or before a row, or the first line
pub record IsLastBegun (r : Record) (row line : ℕ) : Type 0 where
  pub within : line < length r.marks
  pub begins : 0 < line → rows_before r line ≤ row
  pub ends : (other : ℕ) → line < other → other < length r.marks → row < rows_before r other

-- folds hide what is strictly inside the range, and not its ends, and the offset is strictly inside it
pub record HidesAround (folds : List Fold) (o : ℕ) (joined : Joined) : Type 0 where
  pub starts : joined.start < o
  pub ends : o < joined.end
  pub hides : (p : ℕ) → joined.start < p → p < joined.end → inside folds p ≡ true
  pub outside : (inside folds joined.start ≡ false) × (inside folds joined.end ≡ false)

-- the joined fold that an offset is strictly inside, or none where it is inside none
abbrev pub IsFoldAround : List Fold → ℕ → Option Joined → Type 0
IsFoldAround folds o None = inside folds o ≡ false
IsFoldAround folds o (Some joined) = HidesAround folds o joined
