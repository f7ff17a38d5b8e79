-- The rows that the events of a display replace, one after another.
use Rattle.std.specs.Prelude.{ℕ, ◌+◌, ◌-◌, ◌<◌, ◌==◌, ◌^◌, not, if◌then◌else◌, Bool, List, [], ◌∷◌, length, map, zip}
use Rattle.std.specs.List.{list_any, prefix_len}
use Rattle.cell_units.specs.Record.{Record}
use Rattle.display_sheet.specs.Shown.{unstamped}
use Rattle.display_map.specs.Events.{Did, Event, Landed}
use Rattle.display_map.specs.Replay.{History, State, appended, happens, present_of}
use Rattle.row_pieces.specs.declared.row_change.RowChange.{RowChange}
use Rattle.row_pieces.specs.Changed.{IsTrue, change, covering, looks, looks_by_line, no_change, rows_of_lines}
use Rattle.view_changes.specs.Operations.{rows_replaced}

-- what a sheet keeps after further events
abbrev pub shown_after : History → List Event → Record
shown_after h events = unstamped (present_of (appended h events))

-- ---- a landing

-- of each display line, whether it is wrapped at another width than before
abbrev pub rewrapped : Record → Record → List Bool
rewrapped r s = map (λ m. not (m.0.width == m.1.width)) (zip r.marks s.marks)

-- how many flags there are up to the last that is set
abbrev pub last_end : List Bool → ℕ
last_end [] = 0
last_end (flag ∷ flags) = if list_any (λ f. f) (flag ∷ flags) then last_end flags + 1 else 0

-- the lines from the first that is flagged to the last make place for as many
abbrev pub lines_flagged : List Bool → RowChange
lines_flagged flags =
    let first = prefix_len not flags in
    if list_any (λ f. f) flags then change first (last_end flags) (last_end flags - first) else no_change

-- all rows of the lines from the first that landed to the last, with those of the blocks at them
abbrev pub rows_landed : Record → Record → RowChange
rows_landed r s = rows_of_lines (lines_flagged (rewrapped r s)) (looks_by_line r) (looks_by_line s)

-- ---- events

-- what covers a change of rows and that of an event after it. Only operations and landings replace rows
abbrev pub covered_by : RowChange → State → Event → RowChange
covered_by c s (Did operation) = covering c (rows_replaced operation s.present)
covered_by c s (Landed job) = covering c (rows_landed s.present (happens s (Landed job)).present)
covered_by c s _ = c

-- ... and those of events after it, in turn
abbrev pub covered : RowChange → List Event → State → RowChange
covered c [] s = c
covered c (event ∷ events) s = covered (covered_by c s event) events (happens s event)

-- the change led from the rows of some record, as many as a u32 counts, to those of this one
pub record LedTo (c : RowChange) (r : Record) : Type 0 where
  pub earlier : Record
  pub few : length (looks earlier) < 2 ^ 32
  pub is_true : IsTrue c (looks earlier) (looks r)
