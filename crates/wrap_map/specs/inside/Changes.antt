-- What the calls of a map know of how its lines are wrapped.
use Rattle.std.specs.Prelude.{◌≡◌, ◌≢◌, ℕ, ◌+◌, ◌<◌, ◌≤◌, List, Option, Some, None, take, replicate}
use Rattle.cell_line.specs.declared.lines.Run.{Run}
use Rattle.cell_units.specs.declared.limits.TheConstants.{RUN_LIMIT}
use Rattle.cell_units.specs.declared.place.Shift.{Shift}
use Rattle.wrap_map.specs.declared.stretches.RowRange.{RowRange}
use Rattle.wrap_map.specs.Stood.{Stood, put_in, rows_in, stood_at, unwrapped}

-- the rows of the lines from start to end
pub record AreRowsAt (lines : List Stood) (start end : ℕ) (rows : RowRange) : Type 0 where
  pub start_is : rows.start ≡ rows_in (take start lines)
  pub end_is : rows.end ≡ rows_in (take end lines)

-- the lines that were replaced are unwrapped
abbrev pub cleared : Shift → List Stood → List Stood
cleared s lines = put_in s.start s.end (replicate s.count unwrapped) lines

-- their rows, replaced by one row for each line that is there now
pub record AreRowsIn (lines : List Stood) (below rows : Shift) : Type 0 where
  pub start_is : rows.start ≡ rows_in (take below.start lines)
  pub end_is : rows.end ≡ rows_in (take below.end lines)
  pub count_is : rows.count ≡ below.count

-- none where no line was replaced
abbrev pub cleared_if_any : Option Shift → List Stood → List Stood
cleared_if_any None lines = lines
cleared_if_any (Some s) lines = cleared s lines

abbrev pub AreRowsIfAny : List Stood → Option Shift → Option Shift → Type 0
AreRowsIfAny lines None None = Unit {0}
AreRowsIfAny lines None (Some rows) = ⊥
AreRowsIfAny lines (Some below) None = ⊥
AreRowsIfAny lines (Some below) (Some rows) = AreRowsIn lines below rows

-- the lines from the first on, up to an end and up to the limit, whose mark is another than the width
pub record IsRunFrom (lines : List Stood) (width first end : ℕ) (run : Run) : Type 0 where
  pub first_is : run.first ≡ first
  pub some : 1 ≤ run.count
  pub few : run.count ≤ RUN_LIMIT
  pub within : first + run.count ≤ end
  pub other : (k : ℕ) → first ≤ k → k < first + run.count → (stood_at lines k).mark ≢ width
  pub no_longer : run.count < RUN_LIMIT → first + run.count < end
      → (stood_at lines (first + run.count)).mark ≡ width
