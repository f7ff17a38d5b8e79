-- Runs of a view that are wrapped one after another.
use Rattle.std.specs.Prelude.{ℕ, zero, suc, ◌≡◌, ◌+◌, Bool, true, false, List, [], ◌∷◌, length, take, Option, Some, None}
use Rattle.cell_line.specs.declared.lines.Run.{Run}
use Rattle.display_map.specs.Displays.{unlanded}
use Rattle.display_map.specs.Events.{Event, Landed, Published, Sent}
use Rattle.display_map.specs.Replay.{History, State, appended, next_run, state_of}

-- no job is out
abbrev pub IsIdle : History → Type 0
IsIdle h = unlanded (state_of h).jobs ≡ []

-- a job is sent
abbrev pub is_send : Event → Bool
is_send (Sent job first count) = true
is_send _ = false

-- a run is wrapped as the job of a number: it is sent, it lands, and a version is published
abbrev pub wrapping : ℕ → Option Run → List Event
wrapping job None = []
wrapping job (Some run) = Sent job run.first run.count ∷ (Landed job ∷ (Published false ∷ []))

-- the next run is wrapped as the next job, where a line waits
abbrev pub next_wrapping : State → List Event
next_wrapping s = wrapping (length s.jobs + 1) (next_run s)

-- the history after so many runs were wrapped, each the next one then
abbrev pub after_runs : ℕ → History → History
after_runs zero h = h
after_runs (suc n) h = appended (after_runs n h) (next_wrapping (state_of (after_runs n h)))

-- some runs were wrapped
abbrev pub HasWrapped : History → History → Type 0
HasWrapped old new = (runs : ℕ) × (new ≡ after_runs runs old)

-- some runs were wrapped, and of the next one there are maybe the first events
abbrev pub HasBegun : History → History → Type 0
HasBegun old new =
    (runs events : ℕ)
    × (new ≡ appended (after_runs runs old) (take events (next_wrapping (state_of (after_runs runs old)))))

-- whether a line waited: then its run was wrapped. Else nothing happened
abbrev pub HasWrappedNext : History → History → Bool → Type 0
HasWrappedNext old new true =
    (new ≡ appended old (next_wrapping (state_of old))) × (length new.events ≡ length old.events + 3)
HasWrappedNext old new false = (new ≡ old) × (next_run (state_of old) ≡ None)
