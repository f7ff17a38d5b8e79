-- What a view gives.
use Rattle.std.specs.Prelude.{ℕ, if◌then◌else◌, List, length, map, Option, Some, None}
use Rattle.cell_units.specs.declared.fault.Refusal.{Refusal}
use Rattle.cell_units.specs.declared.fault.Refusal.TheVariants.{BadRange}
use Rattle.cell_units.specs.Text.{is_boundary}
use Rattle.cell_units.specs.Record.{Record}
use Rattle.plain_rows.specs.Plain.{marks_of}
use Rattle.cell_line.specs.declared.lines.MarkRun.{MarkRun}
use Rattle.cell_line.specs.MarkRuns.{runs_from}

-- why an offset isn't shown, if it isn't
abbrev pub show_refusal : Record → ℕ → Option Refusal
show_refusal r offset = if is_boundary r.text offset then None else Some BadRange

-- the record without its stamps: in their place the lines are counted
abbrev pub unstamped : Record → Record
unstamped r =
    record r { marks = marks_of (map (λ m. m.width) r.marks); next_stamp = length r.marks }

-- ---- marks

abbrev pub mark_runs : Record → List MarkRun
mark_runs r = runs_from 0 (map (λ m. m.width) r.marks)
