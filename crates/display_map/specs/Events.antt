-- What happens to a display, as a list of events says it.
use Rattle.std.specs.Prelude.{ℕ, Bool, List, map}
use Rattle.cell_units.specs.Operation.{Operation}
use Rattle.display_sheet.specs.Changes.{operation_of}
use Rattle.display_map.specs.declared.event.Event as declared
use Rattle.display_map.specs.declared.event.Event.TheVariants as events

-- a script line was answered, was refused or is about to be done. An operation was done. A job was sent with the
-- display lines from the first one on, or its wraps were taken. A version was published
pub data Event : Type 0 where
  Line : (number : ℕ) → Event
  Did : (operation : Operation) → Event
  Sent : (job first count : ℕ) → Event
  Landed : (job : ℕ) → Event
  Published : (last : Bool) → Event

-- the event of a value of the program
abbrev pub event_of : declared.Event → Event
event_of (events.Line number) = Line number
event_of (events.Did op) = Did (operation_of op)
event_of (events.Sent job first count) = Sent job first count
event_of (events.Landed job) = Landed job
event_of (events.Published last) = Published last

abbrev pub events_of : List declared.Event → List Event
events_of events = map event_of events

-- how many events a journal may have
abbrev pub event_limit : ℕ
event_limit = 4294967295
