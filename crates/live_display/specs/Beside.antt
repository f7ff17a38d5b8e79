-- What an owner does beside the lines of a script.
use Rattle.std.specs.Prelude.{ℕ, ◌≡◌, ◌+◌, ◌*◌, ◌<◌, ◌⊎◌, Bool, not, true, false, List, [], ◌∷◌, length, count_by, Some}
use Rattle.std.specs.List.{list_any}
use Rattle.std.specs.Option.{option_map}
use Rattle.display_map.specs.Events.{Event, Sent, Landed, Published, event_limit}
use Rattle.display_map.specs.Replay.{History, State, state_of, appended, next_run, job_numbered}
use Rattle.live_display.specs.declared.halt.Halt.{Halt}
use Rattle.live_display.specs.declared.halt.Halt.TheVariants.{Full, Memory}
use Rattle.live_display.specs.declared.owner.TheConstants.{EVENTS_AHEAD}

-- a step: a run is sent, as a job of this number, first line and count of lines; or a job lands, with its version
pub data Step : Type 0 where
  Sends : ℕ → ℕ → ℕ → Step
  Lands : ℕ → Step

-- the events of a step
abbrev pub events_of : Step → List Event
events_of (Sends job first count) = Sent job first count ∷ []
events_of (Lands job) = Landed job ∷ (Published false ∷ [])

-- the history behind a step, and behind steps
abbrev pub behind : History → Step → History
behind h step = appended h (events_of step)

abbrev pub behind_all : History → List Step → History
behind_all h [] = h
behind_all h (step ∷ steps) = behind_all (behind h step) steps

-- a run is sent
abbrev pub is_send : Event → Bool
is_send (Sent job first count) = true
is_send _ = false

-- a job lands, whichever it is
abbrev pub is_any_landing : Event → Bool
is_any_landing (Landed job) = true
is_any_landing _ = false

-- the display went on by events of which none is such a one
pub record GoesWithout (is_such : Event → Bool) (old new : History) : Type 0 where
  pub more : List Event
  pub display : new ≡ appended old more
  pub none : list_any is_such more ≡ false

-- how many jobs were sent and haven't landed
abbrev pub outstanding : State → ℕ
outstanding s = count_by (λ job. not job.landed) s.jobs

-- the next run is sent as the next job, where fewer than two jobs for each worker are outstanding
pub record IsSending (workers : ℕ) (s : State) (job first count : ℕ) : Type 0 where
  pub run : next_run s ≡ Some (record { first = first; count = count })
  pub number : job ≡ length s.jobs + 1
  pub room : outstanding s < 2 * workers

-- the job is outstanding
abbrev pub IsOut : State → ℕ → Type 0
IsOut s job = option_map (λ j. j.landed) (job_numbered job s.jobs) ≡ Some false

-- the step may be taken
abbrev pub MayTake : ℕ → State → Step → Type 0
MayTake workers s (Sends job first count) = IsSending workers s job first count
MayTake workers s (Lands job) = IsOut s job

abbrev pub MayTakeAll : ℕ → History → List Step → Type 0
MayTakeAll workers h [] = Unit {0}
MayTakeAll workers h (step ∷ steps) = MayTake workers (state_of h) step × MayTakeAll workers (behind h step) steps

-- the display of the one history went on to the other by such steps
pub record HasGone (workers : ℕ) (old new : History) : Type 0 where
  pub steps : List Step
  pub may : MayTakeAll workers old steps
  pub display : new ≡ behind_all old steps

-- ... and then, it may be, a job landed whose version wasn't published
pub record HasHalted (workers : ℕ) (old new : History) : Type 0 where
  pub between : History
  pub gone : HasGone workers old between
  pub last : (new ≡ between) ⊎ ((job : ℕ) × IsOut (state_of between) job × (new ≡ appended between (Landed job ∷ [])))

-- why and where it halted
abbrev pub IsHalted : ℕ → History → History → Halt → Type 0
IsHalted workers old new Full = HasGone workers old new × (event_limit < length new.events + EVENTS_AHEAD)
IsHalted workers old new Memory = HasHalted workers old new × (length new.events < event_limit)
