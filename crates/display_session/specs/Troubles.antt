-- Why calls of a session do nothing.
use Rattle.std.specs.Prelude.{ℕ, ◌≡◌, ◌+◌, ◌<◌, List, Option, Some, length}
use Rattle.std.specs.Str.{IsUtf8}
use Rattle.cell_units.specs.declared.fault.Refusal.{Refusal}
use Rattle.cell_units.specs.declared.fault.Fault.{Fault}
use Rattle.cell_units.specs.declared.fault.Fault.TheVariants as faults
use Rattle.display_map.specs.Events.{event_limit}
use Rattle.display_map.specs.Replay.{History}
use Rattle.display_session.specs.declared.trouble.Trouble.{Trouble}
use Rattle.display_session.specs.declared.trouble.Trouble.TheVariants as troubles

abbrev pub trouble_of : Fault → Trouble
trouble_of (faults.Refused refusal) = troubles.Refused refusal
trouble_of faults.NoMemory = troubles.NoMemory

-- a refusal is the one that is owed. No memory and a full journal may come at any time
abbrev pub IsOwed : Option Refusal → Trouble → Type 0
IsOwed owed (troubles.Refused refusal) = owed ≡ Some refusal
IsOwed owed troubles.NotUtf8 = ⊥
IsOwed owed _ = Unit {0}

-- why the lines of a display aren't wrapped: there was no memory, or the journal has no room for the two events of a run
abbrev pub IsUnwrapped : History → Trouble → Type 0
IsUnwrapped display troubles.NoMemory = Unit {0}
IsUnwrapped display troubles.JournalFull = event_limit < length display.events + 2
IsUnwrapped display _ = ⊥

-- why an edit by bytes isn't done: they aren't UTF-8, or the edit is refused
abbrev pub IsEditRefused : List ℕ → Option Refusal → Trouble → Type 0
IsEditRefused bytes owed troubles.NotUtf8 = ¬ IsUtf8 bytes
IsEditRefused bytes owed (troubles.Refused refusal) = owed ≡ Some refusal
IsEditRefused bytes owed _ = Unit {0}
