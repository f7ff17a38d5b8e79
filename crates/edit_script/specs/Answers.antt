-- The lines of an answer that are left.
use Rattle.std.specs.Prelude.{ℕ, ◌≡◌, ◌+◌, ◌-◌, ◌≤◌, List, ◌∷◌, length, take, drop, Option, Some, None}
use Rattle.cell_units.specs.declared.fault.Fault.{Fault}
use Rattle.cell_units.specs.declared.fault.Fault.TheVariants as faults
use Rattle.cell_units.specs.Record.{Record}
use Rattle.plain_rows.specs.Rows.{Row}
use Rattle.plain_rows.specs.Rows as plain
use Rattle.plain_rows.specs.ShownRows.{shown_rows}
use Rattle.display_map.specs.Replay.{History, present_of, versions_of}
use Rattle.edit_script.specs.declared.asked.Query.{Query}
use Rattle.edit_script.specs.declared.asked.Query.TheVariants as queries
use Rattle.edit_script.specs.declared.answer_lines.RowsLeft.{RowsLeft}
use Rattle.edit_script.specs.Commands.{greatest_number}
use Rattle.edit_script.specs.Printed.{row_lines, query_lines}
use Rattle.edit_script.specs.Verdict.{query_refusal}

-- the lines of rows from a next one on, as many as there are up to a count
abbrev pub rows_in : (next left : ℕ) → List Row → List (List ℕ)
rows_in next left rows = row_lines next (take left (drop next rows))

-- the rows of the view
abbrev pub rows_seen : RowsLeft → List Row
rows_seen r = plain.rows_of (present_of r.view.now)

-- the lines of the rows that are left
abbrev pub rows_left : RowsLeft → List (List ℕ)
rows_left r = rows_in r.next r.left (rows_seen r)

-- the same after a line that comes before them
abbrev pub lines_left : Option (List ℕ) → List (List ℕ) → List (List ℕ)
lines_left None lines = lines
lines_left (Some head) lines = head ∷ lines

-- rows that were made, of which those from a first on are the next ones
pub record AreMade (r : RowsLeft) : Type 0 where
  pub there : r.next + r.left ≤ length (rows_seen r)
  pub fits : r.next + r.left ≤ greatest_number
  pub within : r.used ≤ length r.made.items
  pub few : length r.made.items - r.used ≤ r.left
  pub same : shown_rows (drop r.used r.made.items) ≡ take (length r.made.items - r.used) (drop r.next (rows_seen r))

-- an answer that names the newest version has one
abbrev pub HasAnswer : ℕ → Query → Type 0
HasAnswer versions (queries.Rows first count) = Unit {0}
HasAnswer versions (queries.Peek first count) = 1 ≤ versions
HasAnswer versions (queries.Show offset bias) = Unit {0}
HasAnswer versions (queries.Back spot bias) = Unit {0}
HasAnswer versions (queries.Clip spot bias) = Unit {0}

-- the lines that answer a question on what a history replays to
abbrev pub lines_of : History → Query → List (List ℕ)
lines_of h query = query_lines (present_of h) (versions_of h.events) query

-- why a question is not answered on a record. Out of memory comes only where no refusal is owed
abbrev pub IsUnanswered : Record → Query → Fault → Type 0
IsUnanswered r query (faults.Refused refusal) = query_refusal r query ≡ Some refusal
IsUnanswered r query faults.NoMemory = query_refusal r query ≡ None
