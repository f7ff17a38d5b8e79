-- An owner between two events.
use Rattle.std.specs.Prelude.{ℕ, ◌≡◌, ◌*◌, ◌≤◌, ◌⊎◌, ◌↔◌, not, false, All, List, [], ◌∷◌, filter, length, map, Option, None, IfSome, option_map, replicate}
use Rattle.std.specs.List.{range_with_len}
use Rattle.cell_line.specs.declared.element.Element.{Element}
use Rattle.wrap_workers.specs.Jobs.{JobParts}
use Rattle.wrap_workers.specs.Crewed.{IsTakenOff}
use Rattle.display_map.specs.Versions.{Version}
use Rattle.display_map.specs.Events.{Event, Published}
use Rattle.display_map.specs.Replay.{History, SentJob, state_of, appended, next_run, versions_of, ends}
use Rattle.display_map.specs.Sending.{IsOutstanding}
use Rattle.version_board.specs.Known.{Known}
use Rattle.live_display.specs.declared.owner.Owner.{Owner}
use Rattle.live_display.specs.declared.opening.Opened.{Opened}

-- the jobs are numbered 1, 2, 3 and so on
abbrev pub AreNumbered : List SentJob → Type 0
AreNumbered jobs = map (λ job. job.number) jobs ≡ range_with_len 1 (length jobs)

-- the numbers of the jobs that haven't landed
abbrev pub numbers_out : List SentJob → List ℕ
numbers_out jobs = map (λ job. job.number) (filter (λ job. not job.landed) jobs)

-- these are the outstanding jobs of the display, in the order in which they were sent
pub record AreOut (display : History) (out : List (JobParts (List (List Element)))) : Type 0 where
  pub numbered : AreNumbered (state_of display).jobs
  pub numbers : map (λ job. job.number) out ≡ numbers_out (state_of display).jobs
  pub each : All (λ job. IsOutstanding display job) out

-- this is the newest version of the display, and not the last
pub record IsNewest (newest : Version) (display : History) : Type 0 where
  pub more : List Event
  pub since : display ≡ appended newest more
  pub unpublished : versions_of more ≡ 0
  pub goes_on : ends newest.events ≡ false

-- of so many workers, one at least, the outstanding jobs of the display are out, two for each at most, and the board, if there
-- is one, shows its newest version
pub record HasTeam (display : History) (out : List (JobParts (List (List Element)))) (workers : ℕ) (writer : Option Known) : Type 0 where
  pub some_worker : 1 ≤ workers
  pub few : length out ≤ 2 * workers
  pub jobs : AreOut display out
  pub shown : IfSome writer (λ writer. IsNewest writer.newest display)

-- the crew and the board are those of the display
abbrev pub IsOwned : Owner → Type 0
IsOwned owner = HasTeam owner.display owner.crew.out owner.crew.workers owner.writer

-- a result of a job that the crew had out is to land
pub record IsLanding (owner : Owner) (job : JobParts (List (List Element))) : Type 0 where
  pub some_worker : 1 ≤ owner.crew.workers
  pub out : List (JobParts (List (List Element)))
  pub few : length out ≤ 2 * owner.crew.workers
  pub jobs : AreOut owner.display out
  pub taken : IsTakenOff job out owner.crew.out
  pub shown : IfSome owner.writer (λ writer. IsNewest writer.newest owner.display)

-- no line waits, or two jobs for each worker are out
abbrev pub IsBusy : Owner → Type 0
IsBusy owner = (next_run (state_of owner.display) ≡ None) ⊎ (length owner.crew.out ≡ 2 * owner.crew.workers)

-- it has the same workers and the same board
pub record IsSameTeam (old new : Owner) : Type 0 where
  pub workers : new.crew.workers ≡ old.crew.workers
  pub board : option_map (λ writer. writer.board) new.writer ≡ option_map (λ writer. writer.board) old.writer

-- it began with so many workers, for so many readers, who all know what the writer knows: version 0 is published and shown.
-- Without readers there is no board
pub record HasOpened (start : History) (workers readers : ℕ) (opened : Opened) : Type 0 where
  pub display : opened.owner.display ≡ appended start (Published false ∷ [])
  pub team : opened.owner.crew.workers ≡ workers
  pub owned : IsOwned opened.owner
  pub board : (opened.owner.writer ≡ None) ↔ (readers ≡ 0)
  pub known : IfSome opened.owner.writer (λ writer. opened.readers.items ≡ replicate readers writer)
  pub none : readers ≡ 0 → opened.readers.items ≡ []

-- it didn't begin: version 0 may be published and isn't shown
abbrev pub IsUnopened : History → History → Type 0
IsUnopened old new = (new ≡ old) ⊎ (new ≡ appended old (Published false ∷ []))
