-- What a display keeps of its history.
use Rattle.std.specs.Prelude.{ℕ, ◌≡◌, ◌<◌, ◌≤◌, ◌==◌, not, min, Bool, false, List, length, map, drop, filter, slice_index_or, count_by, All, Option, Some, None}
use Rattle.std.specs.List.{prefix_len, range_with_len}
use Rattle.cell_units.specs.declared.limits.TheConstants.{RUN_LIMIT, TEXT_LIMIT}
use Rattle.cell_line.specs.declared.lines.Run.{Run}
use Rattle.cell_units.specs.Text.{IsText}
use Rattle.cell_units.specs.Record.{Record}
use Rattle.display_map.specs.Identity.{stamps_in}
use Rattle.display_map.specs.LawfulStates.{EventsFit, IsLawfulHistory}
use Rattle.display_map.specs.Outs.{AreOut, OutParts, StandInOrder, waiting_in}
use Rattle.display_map.specs.Replay.{History, SentJob, State, begun, present_of, state_of, versions_of}
use Rattle.display_sheet.specs.Shown.{unstamped}

-- the stamps of the lines are apart and below the next one, as are those of the jobs, which are numbered from 1 on
pub record IsStamped (s : State) : Type 0 where
  pub once : (v : ℕ) → count_by (λ x. x == v) (stamps_in s.present) ≤ 1
  pub below : All (λ x. x < s.present.next_stamp) (stamps_in s.present)
  pub given : All (λ job. All (λ x. x < s.present.next_stamp) job.stamps) s.jobs
  pub numbered : map (λ job. job.number) s.jobs ≡ range_with_len 1 (length s.jobs)

-- the jobs that haven't landed
abbrev pub unlanded : List SentJob → List SentJob
unlanded jobs = filter (λ job. not job.landed) jobs

-- none of the first lines waits
abbrev pub NoneWaits : List Bool → ℕ → Type 0
NoneWaits flags count = (k : ℕ) → k < count → slice_index_or flags k false ≡ false

-- how many lines there are before the first that waits
abbrev pub first_flag : List Bool → ℕ
first_flag flags = prefix_len not flags

-- the first line that waits with the waiting lines after it, at most 128; none waits before it
abbrev pub IsNextRun : List Bool → Option Run → Type 0
IsNextRun flags None = first_flag flags ≡ length flags
IsNextRun flags (Some run) =
    (run.first ≡ first_flag flags)
    × (run.first < length flags)
    × (run.count ≡ min RUN_LIMIT (prefix_len (λ w. w) (drop run.first flags)))
    × NoneWaits flags run.first

-- what is kept of a history: the record that it replays to, and where the lines of the jobs that are out are. With
-- these come how many versions were published and jobs sent, and before which line none waits
pub record KeepsDisplay (h : History) (sheet : Record) (outs : List OutParts) (versions jobs first : ℕ) : Type 0 where
  pub opening : IsText h.opening
  pub fits : EventsFit (begun h.opening) h.events
  pub sheet_is : unstamped (present_of h) ≡ sheet
  pub stamped : IsStamped (state_of h)
  pub outs_are : AreOut (stamps_in (present_of h)) (unlanded (state_of h).jobs) outs
  pub in_order : StandInOrder outs
  pub versions_are : versions_of h.events ≡ versions
  pub jobs_are : length (state_of h).jobs ≡ jobs
  pub jobs_few : jobs ≤ length h.events
  pub none_before : NoneWaits (waiting_in sheet outs) first

-- so, and the text isn't longer than a text may be: between the operations of one batch it may be longer
pub record KeepsShortDisplay (h : History) (sheet : Record) (outs : List OutParts) (versions jobs first : ℕ) : Type 0 where
  pub kept : KeepsDisplay h sheet outs versions jobs first
  pub short : length sheet.text ≤ TEXT_LIMIT

-- what a view keeps of its history, which is lawful: the record, and how many versions were published
pub record KeepsView (h : History) (sheet : Record) (versions : ℕ) : Type 0 where
  pub history : IsLawfulHistory h
  pub sheet_is : unstamped (present_of h) ≡ sheet
  pub versions_are : versions_of h.events ≡ versions
