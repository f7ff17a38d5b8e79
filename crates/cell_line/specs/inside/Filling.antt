-- What is known of a row while it is filled, element by element.
use Rattle.std.specs.Prelude.{◌≡◌, ◌⊎◌, ℕ, ◌+◌, ◌-◌, ◌<◌, ◌≤◌, ◌++◌, ◌||◌, ◌&&◌, not, Bool, true, List, Option, None, length, nat_le, nat_lt, slice_range, unwrap_or, if◌then◌else◌}
use Rattle.cell_line.specs.declared.element.Element.{Element}
use Rattle.cell_line.specs.declared.filling.Row.{Row}
use Rattle.cell_line.specs.declared.mark.Mark.{Mark}
use Rattle.cell_line.specs.Elements.{total_cells}
use Rattle.cell_line.specs.Wrapping.{element_at, ends_well, greatest, is_blank, is_wide, lead_of, next_start_of, row_starts, trimmed}
use Rattle.cell_line.specs.inside.Marks.{mark_of}

-- the elements from `start` to `at`, which are within the room but for the blanks at their end
pub record IsFilled (es : List Element) (room start at cells : ℕ) : Type 0 where
  pub order : start ≤ at
  pub end : at ≤ length es
  pub cells_are : cells ≡ total_cells (slice_range es start at)
  pub within : total_cells (trimmed (slice_range es start at)) ≤ room
  pub tight : (cells ≤ room) ⊎ ((lead_of es < at) × (is_blank (element_at es (at - 1)) ≡ true))

-- the last place up to `to` where the row may end, and the cells from there to `at`
pub record IsWell (es : List Element) (room start at to : ℕ) (well : Option ℕ) (since : ℕ) : Type 0 where
  pub place : well ≡ greatest (ends_well es room start) start to
  pub since_are : since ≡ total_cells (slice_range es (unwrap_or well start) at)

-- the row was filled up to `at`, and whether it may end there was not yet asked
abbrev pub IsOpen : List Element → ℕ → ℕ → Row → Type 0
IsOpen es room at row = IsFilled es room row.start at row.cells × IsWell es room row.start at (at - 1) row.well row.since

-- the row was filled up to `at`, and whether it may end there was asked
abbrev pub IsAsked : List Element → ℕ → ℕ → Row → Type 0
IsAsked es room at row = IsFilled es room row.start at row.cells × IsWell es room row.start at at row.well row.since

-- the same of a row that may not end so far, and is within the room
abbrev pub IsTurned : List Element → ℕ → ℕ → Row → Type 0
IsTurned es room at row = IsAsked es room at row × (row.well ≡ None) × (row.cells ≤ room)

-- the mark is that of the element at the place, of a line that has more than its leading blanks
pub record IsMarkAt (es : List Element) (lead at : ℕ) (mark : Mark) : Type 0 where
  pub lead_is : lead ≡ lead_of es
  pub some : lead < length es
  pub within : at < length es
  pub mark_is : mark ≡ mark_of (element_at es at)

-- a row may end after the element before the place, whatever follows but a blank
abbrev pub parts_at : List Element → ℕ → Bool
parts_at es at = is_blank (element_at es (at - 1)) || is_wide (element_at es (at - 1))

-- the element at the place overflows the room and may not hang past it
abbrev pub overflows_at : ℕ → ℕ → ℕ → ℕ → Mark → Bool
overflows_at room lead at cells mark = nat_lt room (cells + mark.cells) && (not mark.blank || nat_lt at lead)

-- a row may end before the element at the place, whatever row it is
abbrev pub may_end_at : ℕ → ℕ → Bool → Mark → Bool
may_end_at lead at parts mark = nat_lt lead at && not mark.blank && (parts || mark.wide)

-- how many letters may follow on a row that has elements: none where it may end before them
abbrev pub letters_room_at : ℕ → Row → ℕ → Bool → ℕ
letters_room_at room row at parts = if parts || nat_le at row.start then 0 else room - row.cells

-- the starts of the rows after that from `start`
abbrev pub starts_after : List Element → ℕ → ℕ → List ℕ
starts_after es room start = row_starts es room (length es) (next_start_of es room start)

-- the starts of the rows that are not yet noted, where that from `start` is noted once it has an element
abbrev pub starts_left : List Element → ℕ → ℕ → ℕ → List ℕ
starts_left es room start at =
    if nat_lt start at then starts_after es room start else row_starts es room (length es) start

-- the noted starts, with those of the rows after that from `start`, are all
abbrev pub AreNoted : List Element → ℕ → ℕ → List ℕ → List ℕ → Type 0
AreNoted es room start all noted = noted ++ starts_after es room start ≡ all

-- the noted starts, with those that are left while the row from `start` is filled up to `at`, are all
abbrev pub AreNotedSoFar : List Element → ℕ → ℕ → ℕ → List ℕ → List ℕ → Type 0
AreNotedSoFar es room start at all noted = noted ++ starts_left es room start at ≡ all
