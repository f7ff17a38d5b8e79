-- What a change makes of a record that a display keeps, and of the jobs that are out.
use Rattle.std.specs.Prelude.{ℕ, ◌≡◌, ◌==◌, if◌then◌else◌, Bool, List, [], map, Option, Some, None}
use Rattle.cell_line.specs.declared.element.Element.{Element}
use Rattle.cell_line.specs.declared.lines.Run.{Run}
use Rattle.cell_units.specs.Operation.{Operation}
use Rattle.cell_units.specs.Record.{Record}
use Rattle.plain_rows.specs.Rows.{line_elements}
use Rattle.display_sheet.specs.Landing.{with_landed_lines}
use Rattle.kept_sheet.specs.Kept.{AreLinesAt, IsRising, cuts_in, lines_in, placed_lines, standing}
use Rattle.display_map.specs.Displays.{KeepsDisplay}
use Rattle.display_map.specs.Events.{Did}
use Rattle.display_map.specs.Outs.{OutParts}
use Rattle.display_map.specs.Replay.{History, appended}

-- what is kept of a history, but for where a search of the next run may start
abbrev pub KeepsWork : History → Record → List OutParts → ℕ → ℕ → Type 0
KeepsWork h sheet outs versions jobs = KeepsDisplay h sheet outs versions jobs 0

-- some history is kept so
abbrev pub IsKept : Record → List OutParts → Type 0
IsKept sheet outs = (h : History) × (versions : ℕ) × (jobs : ℕ) × KeepsWork h sheet outs versions jobs

-- a record after operations, and where the lines of the jobs that are out are then. Whatever history was kept before,
-- the history with the operations is kept so
abbrev pub IsWork : List Operation → Record → List OutParts → Record → List OutParts → Type 0
IsWork ops sheet outs sheet' outs' =
    (h : History) (versions jobs : ℕ) → KeepsWork h sheet outs versions jobs →
    KeepsWork (appended h (map Did ops)) sheet' outs' versions jobs

-- the record after a job landed, if it is out: its lines are wrapped at its width, where that is the present one
abbrev pub with_landed : Record → Option OutParts → Record
with_landed r None = r
with_landed r (Some out) = if out.width == r.width then with_landed_lines out.width out.lines r else r

-- of each line, whether the landing of a job wraps it
abbrev pub landing_lines : Record → Option OutParts → List Bool
landing_lines r None = []
landing_lines r (Some out) = if out.width == r.width then placed_lines out.lines r else []

-- the lines of the run that the job was made of are those at its places now, in order. The cuts are those of these
-- lines
abbrev pub LinesFit : Record → Option OutParts → List (List Element) → Run → List (List ℕ) → Type 0
LinesFit r None lines run cuts = Unit {0}
LinesFit r (Some out) lines run cuts =
    out.width ≡ r.width →
    AreLinesAt (line_elements r) out.lines (lines_in lines run)
    × IsRising 0 (standing out.lines)
    × (cuts ≡ cuts_in lines run r.width)
