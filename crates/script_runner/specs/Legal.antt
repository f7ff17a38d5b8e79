-- When a history is one of a run: entries on an opening text, by a number of workers.
use Rattle.std.specs.Prelude.{ℕ, ◌≡◌, ◌+◌, ◌*◌, ◌<◌, ◌≤◌, ◌⊎◌, Bool, true, false, List, [], ◌∷◌, ◌++◌, length, map, take, drop, count_by, slice_get, Option, Some, None}
use Rattle.std.specs.List.{last_or, list_any, list_all}
use Rattle.std.specs.Option.{option_map}
use Rattle.cell_units.specs.declared.limits.TheConstants.{RUN_LIMIT}
use Rattle.cell_units.specs.Operation.{Operation}
use Rattle.display_map.specs.Events.{Event}
use Rattle.display_map.specs.Events.{Line, Did, Sent, Landed, Published}
use Rattle.display_map.specs.Replay.{History, State, state_of, present_of, waits, is_settled, job_numbered}
use Rattle.live_display.specs.Beside.{is_any_landing, outstanding}
use Rattle.edit_script.specs.Commands.{Command}
use Rattle.edit_script.specs.Verdict.{Verdict, Refused, Accepted, ops_of, wants_settled}
use Rattle.script_runner.specs.Entries.{Entry, judged}

-- a fact about each event of a history, given the events before it
abbrev pub AtEach : (List Event → Event → Type 0) → List Event → Type 0
AtEach P history = (k : ℕ) (e : Event) → slice_get history k ≡ Some e → P (take k history) e

abbrev pub is_line : Event → Bool
is_line (Line number) = true
is_line _ = false

-- how many lines were handled
abbrev pub lines_in : List Event → ℕ
lines_in history = count_by is_line history

abbrev pub is_landed : Option Event → Bool
is_landed (Some (Landed job)) = true
is_landed _ = false

-- what events make of an opening text
abbrev pub history_of : List ℕ → List Event → History
history_of text events = record { opening = text; events = events }

-- the entry that comes next after events, with its number
abbrev pub next_entry : List (ℕ × Entry) → List Event → Option (ℕ × Entry)
next_entry entries events = slice_get entries (lines_in events)

-- what becomes of the entry that comes next
abbrev pub next_verdict : List ℕ → List (ℕ × Entry) → List Event → Option Verdict
next_verdict text entries events =
    option_map (λ l. judged (present_of (history_of text events)) l.1) (next_entry entries events)

-- an accepted command that is to be answered where every line is wrapped at the width
abbrev pub needs_settled : Option Verdict → Bool
needs_settled None = false
needs_settled (Some (Refused refusal)) = false
needs_settled (Some (Accepted command)) = wants_settled command

-- the events end with the line of an accepted command and with some of its operations: `done` were done, `rest` weren't yet
pub record IsChanging (text : List ℕ) (entries : List (ℕ × Entry)) (events : List Event) (done rest : List Operation) : Type 0 where
  pub past : List Event
  pub number : ℕ
  pub command : Command
  pub ends : events ≡ past ++ (Line number ∷ map (λ op. Did op) done)
  pub accepted : next_verdict text entries past ≡ Some (Accepted command)
  pub operations : ops_of command ≡ done ++ rest

-- all operations of an accepted command were done, and there was one
abbrev pub IsChanged : List ℕ → List (ℕ × Entry) → List Event → Type 0
IsChanged text entries events = (op : Operation) × (ops : List Operation) × IsChanging text entries events (op ∷ ops) []

-- opening: the first event publishes version 0
abbrev pub Opens : List Event → Event → Type 0
Opens past e = past ≡ [] → e ≡ Published false

-- lines in order: each line is the one that comes next
abbrev pub TakesNextLine : List (ℕ × Entry) → List Event → Event → Type 0
TakesNextLine entries past e = (number : ℕ) → e ≡ Line number → option_map (λ l. l.0) (next_entry entries past) ≡ Some number

-- changes: after the line of an accepted change come its operations at once, and then, where there was one, a version.
-- Nothing else does an operation
pub record DoesChanges (text : List ℕ) (entries : List (ℕ × Entry)) (past : List Event) (e : Event) : Type 0 where
  pub goes_on : (done rest : List Operation) (op : Operation) → IsChanging text entries past done (op ∷ rest) → e ≡ Did op
  pub publishes : IsChanged text entries past → e ≡ Published false
  pub only : (op : Operation) → e ≡ Did op → (done : List Operation) × (rest : List Operation) × IsChanging text entries past done (op ∷ rest)

-- landings: after each of them comes a version at once, and no other version is published than at the opening, after a
-- change, after a landing, and at the end
pub record PublishesLandings (text : List ℕ) (entries : List (ℕ × Entry)) (past : List Event) (e : Event) : Type 0 where
  pub publishes : is_landed (last_or None past) ≡ true → e ≡ Published false
  pub only : e ≡ Published false → (past ≡ []) ⊎ (IsChanged text entries past ⊎ (is_landed (last_or None past) ≡ true))

-- sends: jobs are numbered from 1, each of 1 to 128 lines that all wait, and at most twice the workers are outstanding
pub record IsSend (workers : ℕ) (s : State) (job first count : ℕ) : Type 0 where
  pub number : job ≡ length s.jobs + 1
  pub some : 1 ≤ count
  pub few : count ≤ RUN_LIMIT
  pub within : first + count ≤ length s.present.marks
  pub all_wait : list_all (waits s) (take count (drop first s.present.marks)) ≡ true
  pub room : outstanding s < 2 * workers

abbrev pub Sends : List ℕ → ℕ → List Event → Event → Type 0
Sends text workers past e =
    (job first count : ℕ) → e ≡ Sent job first count → IsSend workers (state_of (history_of text past)) job first count

-- once: a job lands at most once, after its send
abbrev pub LandsOnce : List ℕ → List Event → Event → Type 0
LandsOnce text past e =
    (job : ℕ) → e ≡ Landed job → option_map (λ j. j.landed) (job_numbered job (state_of (history_of text past)).jobs) ≡ Some false

-- settled: a settled query is answered, and `settle` is done, where every line is wrapped at the width
abbrev pub AnswersSettled : List ℕ → List (ℕ × Entry) → List Event → Event → Type 0
AnswersSettled text entries past e =
    (number : ℕ) → e ≡ Line number → needs_settled (next_verdict text entries past) ≡ true → is_settled (state_of (history_of text past)).present ≡ true

-- since the last line no job landed after a send: those that landed were there
abbrev pub LandsFirst : List Event → Type 0
LandsFirst past =
    (k job first count : ℕ) → slice_get past k ≡ Some (Sent job first count)
    → list_any is_line (drop k past) ≡ false → list_any is_any_landing (drop k past) ≡ false

-- unsettled: for every other line, as one that is refused, no job is waited for
abbrev pub GoesUnsettled : List ℕ → List (ℕ × Entry) → List Event → Event → Type 0
GoesUnsettled text entries past e =
    (number : ℕ) → e ≡ Line number → needs_settled (next_verdict text entries past) ≡ false → LandsFirst past

-- busy: at each line no line of the display waits, or as many jobs are outstanding as may be
abbrev pub KeepsBusy : List ℕ → ℕ → List Event → Event → Type 0
KeepsBusy text workers past e =
    (number : ℕ) → e ≡ Line number →
    (list_any (waits (state_of (history_of text past))) (state_of (history_of text past)).present.marks ≡ false) ⊎ (outstanding (state_of (history_of text past)) ≡ 2 * workers)

-- ending: the last version is published where every entry was handled, every line is wrapped at the width and
-- every job has landed
pub record IsDone (text : List ℕ) (entries : List (ℕ × Entry)) (past : List Event) : Type 0 where
  pub lines : next_entry entries past ≡ None
  pub settled : is_settled (state_of (history_of text past)).present ≡ true
  pub landed : outstanding (state_of (history_of text past)) ≡ 0

abbrev pub is_end : Event → Bool
is_end (Published last) = last
is_end _ = false

-- ... and nothing comes after it
pub record Ends (text : List ℕ) (entries : List (ℕ × Entry)) (past : List Event) (e : Event) : Type 0 where
  pub is_done : e ≡ Published true → IsDone text entries past
  pub none_behind : list_any is_end past ≡ false

-- nine facts of each event of a history, whoever wraps its lines
pub record IsOrderlySoFar (text : List ℕ) (entries : List (ℕ × Entry)) (workers : ℕ) (history : List Event) : Type 0 where
  pub opening : AtEach Opens history
  pub lines_in_order : AtEach (TakesNextLine entries) history
  pub changes : AtEach (DoesChanges text entries) history
  pub landings : AtEach (PublishesLandings text entries) history
  pub sends : AtEach (Sends text workers) history
  pub once : AtEach (LandsOnce text) history
  pub settled : AtEach (AnswersSettled text entries) history
  pub busy : AtEach (KeepsBusy text workers) history
  pub ending : AtEach (Ends text entries) history

-- it is orderly to its last version
pub record IsOrderly (text : List ℕ) (entries : List (ℕ × Entry)) (workers : ℕ) (history : List Event) : Type 0 where
  pub so_far : IsOrderlySoFar text entries workers history
  pub ends : last_or None history ≡ Some (Published true)

-- the history of a run so far
pub record IsLegalSoFar (text : List ℕ) (entries : List (ℕ × Entry)) (workers : ℕ) (history : List Event) : Type 0 where
  pub orderly : IsOrderlySoFar text entries workers history
  pub unsettled : AtEach (GoesUnsettled text entries) history

-- the history of a finished run ends with the last version
pub record IsLegal (text : List ℕ) (entries : List (ℕ × Entry)) (workers : ℕ) (history : List Event) : Type 0 where
  pub so_far : IsLegalSoFar text entries workers history
  pub ends : last_or None history ≡ Some (Published true)
