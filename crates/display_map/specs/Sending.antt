-- Jobs that a display sends and takes back.
use Rattle.std.specs.Prelude.{ℕ, ◌≡◌, ◌+◌, ◌<◌, ◌==◌, Bool, true, false, List, [], ◌∷◌, ◌++◌, length, slice_get, slice_index, slice_index_or, Option, Some, None}
use Rattle.std.specs.List.{list_any}
use Rattle.cell_line.specs.declared.element.Element.{Element}
use Rattle.cell_line.specs.Wrapping.{cuts_of}
use Rattle.plain_rows.specs.Rows.{line_elements}
use Rattle.wrap_workers.specs.Jobs.{JobParts, wraps_of}
use Rattle.display_map.specs.Events.{Event, Sent, Landed}
use Rattle.display_map.specs.Identity.{stamps_in}
use Rattle.display_map.specs.Replay.{History, SentJob, State, appended, holds, job_numbered, next_run, present_of, state_of}

-- the event that sends a job
abbrev pub sending : JobParts (List (List Element)) → Event
sending job = Sent job.number job.run.first job.run.count

-- the job was sent: it has the next number and the next run, the present width and the present lines
pub record IsSent (before after : History) (job : JobParts (List (List Element))) : Type 0 where
  pub run_is : next_run (state_of before) ≡ Some job.run
  pub number_is : job.number ≡ length (state_of before).jobs + 1
  pub width_is : job.width ≡ (present_of before).width
  pub lines_are : job.lines ≡ line_elements (present_of before)
  pub event_is : after ≡ appended before (sending job ∷ [])

-- a job of lines of any kind, seen as lists of elements
abbrev pub seen_job : {N : Type 0} → (N → List (List Element)) → JobParts N → JobParts (List (List Element))
seen_job elements job = record { number = job.number; lines = elements job.lines; run = job.run; width = job.width }

-- a job of such lines was sent, or no line waits and nothing happened
abbrev pub IsRunTakenOn : {N : Type 0} → (N → List (List Element)) → History → History → Option (JobParts N) → Type 0
IsRunTakenOn elements before after None = (next_run (state_of before) ≡ None) × (after ≡ before)
IsRunTakenOn elements before after (Some job) = IsSent before after (seen_job elements job)

-- ... of lists of elements
abbrev pub IsRunTaken : History → History → Option (JobParts (List (List Element))) → Type 0
IsRunTaken = IsRunTakenOn (λ lines. lines)

abbrev pub is_landing : ℕ → Event → Bool
is_landing number (Landed job) = job == number
is_landing number _ = false

-- the display of the history sent the job, which hasn't landed
pub record IsOutstanding (h : History) (job : JobParts (List (List Element))) : Type 0 where
  pub before : List Event
  pub after : List Event
  pub events_are : h.events ≡ before ++ sending job ∷ after
  pub width_is : job.width ≡ (present_of (record { opening = h.opening; events = before })).width
  pub lines_are : job.lines ≡ line_elements (present_of (record { opening = h.opening; events = before }))
  pub not_landed : list_any (is_landing job.number) after ≡ false

-- the landing of the job marks the present lines whose stamps it holds; of each the job gives the cuts
pub record GivesCuts (s : State) (job : JobParts (List (List Element))) : Type 0 where
  pub sent : SentJob
  pub found : job_numbered job.number s.jobs ≡ Some sent
  pub cuts :
      (i : ℕ) → i < length s.present.marks → holds sent.stamps (slice_index (stamps_in s.present) i) ≡ true →
      (k : ℕ)
      × (slice_get sent.stamps k ≡ slice_get (stamps_in s.present) i)
      × (slice_get (wraps_of job.lines job.run job.width) k
      ≡ Some (cuts_of (slice_index_or (line_elements s.present) i []) job.width))
