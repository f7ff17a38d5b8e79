-- What a journal makes of an opening text.
use Rattle.std.specs.Prelude.{ℕ, ◌==◌, ◌&&◌, not, min, Bool, true, false, if◌then◌else◌, List, [], ◌∷◌, ◌++◌, length, map, take, drop, fold, find, count_by, Option, Some, None}
use Rattle.std.specs.List.{list_any, list_all, prefix_len, last_or}
use Rattle.cell_units.specs.declared.limits.TheConstants.{RUN_LIMIT}
use Rattle.cell_line.specs.declared.lines.Run.{Run}
use Rattle.cell_units.specs.Record.{Mark, Record, opened}
use Rattle.display_map.specs.Events.{Event, Line, Did, Sent, Landed, Published}
use Rattle.display_sheet.specs.LineStep.{line_step}

-- a job: its number, the width and the stamps of its lines when it was sent, and whether it has landed
pub record SentJob : Type 0 where
  pub number : ℕ
  pub width : ℕ
  pub stamps : List ℕ
  pub landed : Bool

-- a record, and the jobs that were sent
pub record State : Type 0 where
  pub present : Record
  pub jobs : List SentJob

-- an opening text, and what happened since
pub record History : Type 0 where
  pub opening : List ℕ
  pub events : List Event

abbrev pub begun : List ℕ → State
begun text = record { present = opened text; jobs = [] }

abbrev pub holds : List ℕ → ℕ → Bool
holds stamps stamp = list_any (λ s. s == stamp) stamps

-- the marks after a job of these stamps landed
abbrev pub wrapped_at : ℕ → List ℕ → List Mark → List Mark
wrapped_at width stamps marks =
    map (λ m. if holds stamps m.stamp then record { stamp = m.stamp; width = width } else m) marks

-- a job sets the marks of the present lines whose stamps it holds, where its width is the present one
abbrev pub landed_on : Record → Option SentJob → Record
landed_on r None = r
landed_on r (Some job) =
    if job.width == r.width then record r { marks = wrapped_at job.width job.stamps r.marks } else r

-- of each present line, whether the landing of a job sets its mark
abbrev pub lines_landed_on : Record → Option SentJob → List Bool
lines_landed_on r None = []
lines_landed_on r (Some job) =
    if job.width == r.width then map (λ m. holds job.stamps m.stamp) r.marks else []

abbrev pub job_numbered : ℕ → List SentJob → Option SentJob
job_numbered number jobs = find (λ job. job.number == number) jobs

abbrev pub landed_if : ℕ → SentJob → SentJob
landed_if number job = if job.number == number then record job { landed = true } else job

abbrev pub with_landed : ℕ → List SentJob → List SentJob
with_landed number jobs = map (landed_if number) jobs

-- the stamps of the lines of a run
abbrev pub stamps_of : List Mark → ℕ → ℕ → List ℕ
stamps_of marks first count = map (λ m. m.stamp) (take count (drop first marks))

abbrev pub happens : State → Event → State
happens s (Line number) = s
happens s (Did op) = record s { present = line_step op s.present }
happens s (Sent job first count) =
    record s {
      jobs = s.jobs ++ record { number = job; width = s.present.width; stamps = stamps_of s.present.marks first count; landed = false } ∷ [];
    }
happens s (Landed job) =
    record { present = landed_on s.present (job_numbered job s.jobs); jobs = with_landed job s.jobs }
happens s (Published last) = s

-- the state after events, in order
unfoldable pub replayed : State → List Event → State
replayed s events = fold happens s events

-- the replay of a history
abbrev pub state_of : History → State
state_of h = replayed (begun h.opening) h.events

abbrev pub present_of : History → Record
present_of h = (state_of h).present

-- the history with further events
abbrev pub appended : History → List Event → History
appended h events = record { opening = h.opening; events = h.events ++ events }

-- an outstanding job of the present width holds the stamp
abbrev pub is_held : State → ℕ → Bool
is_held s stamp =
    list_any (λ job. not job.landed && (job.width == s.present.width) && holds job.stamps stamp) s.jobs

-- a line waits where its mark isn't the present width and no outstanding job of that width holds its stamp
abbrev pub waits : State → Mark → Bool
waits s mark = not (mark.width == s.present.width) && not (is_held s mark.stamp)

-- the run from a line on: the lines from there that wait, at most 128
abbrev pub run_from : State → ℕ → Run
run_from s first =
    record { first = first; count = min RUN_LIMIT (prefix_len (waits s) (drop first s.present.marks)) }

-- the first line that waits
abbrev pub first_waiting : State → ℕ
first_waiting s = prefix_len (λ m. not (waits s m)) s.present.marks

-- the run that is to be sent next, if a line waits
unfoldable pub next_run : State → Option Run
next_run s = if first_waiting s == length s.present.marks then None else Some (run_from s (first_waiting s))

-- every line is wrapped at the present width
unfoldable pub is_settled : Record → Bool
is_settled r = list_all (λ m. m.width == r.width) r.marks

abbrev pub is_published : Event → Bool
is_published (Published last) = true
is_published _ = false

-- how many versions were published
abbrev pub versions_of : List Event → ℕ
versions_of events = count_by is_published events

abbrev pub is_last : Option Event → Bool
is_last (Some (Published last)) = last
is_last _ = false

-- the last event publishes the last version
abbrev pub ends : List Event → Bool
ends events = is_last (last_or None events)
