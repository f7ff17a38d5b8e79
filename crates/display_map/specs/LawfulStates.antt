-- Which events a replay is lawful with, and what holds of the history of every display.
use Rattle.std.specs.Prelude.{◌≡◌, ◌≤◌, List, [], ◌∷◌, length, map}
use Rattle.std.specs.List.{All, range_with_len}
use Rattle.std.specs.Str.{IsUtf8}
use Rattle.cell_units.specs.declared.limits.TheConstants.{TEXT_LIMIT}
use Rattle.cell_units.specs.Lawful.{IsAllowed, IsLawful}
use Rattle.cell_units.specs.Operation.{Operation, AddBlock, AddInlay, Replace}
use Rattle.cell_units.specs.Text.{IsText}
use Rattle.display_sheet.specs.Changes.{ChangeParts, Edit, One}
use Rattle.display_map.specs.Events.{Event, Did}
use Rattle.display_map.specs.Replay.{History, State, begun, happens, present_of, state_of}

-- the operation of an event, if it is one, is allowed in the present record
abbrev pub EventFits : State → Event → Type 0
EventFits s (Did op) = IsAllowed op s.present
EventFits s _ = Unit {0}

-- so is that of each of the events, in order
abbrev pub EventsFit : State → List Event → Type 0
EventsFit s [] = Unit {0}
EventsFit s (e ∷ events) = EventFits s e × EventsFit (happens s e) events

-- what an operation inserts is UTF-8
abbrev pub InsertsUtf8 : Operation → Type 0
InsertsUtf8 (Replace start end text) = IsUtf8 text
InsertsUtf8 (AddInlay inlay) = IsUtf8 inlay.text
InsertsUtf8 (AddBlock row id side lines) = All IsUtf8 lines
InsertsUtf8 _ = Unit {0}

-- what a change inserts is UTF-8
abbrev pub ChangeInsertsUtf8 : ChangeParts → Type 0
ChangeInsertsUtf8 (Edit splices) = All (λ s. IsUtf8 s.text) splices
ChangeInsertsUtf8 (One operation) = InsertsUtf8 operation

-- the opening is a text, and each operation was allowed where it was done. The present record is lawful, its text no
-- longer than a text may be, and the jobs are numbered from 1 on
pub record IsLawfulHistory (h : History) : Type 0 where
  pub opening : IsText h.opening
  pub fits : EventsFit (begun h.opening) h.events
  pub lawful : IsLawful (present_of h)
  pub short : length (present_of h).text ≤ TEXT_LIMIT
  pub numbered : map (λ job. job.number) (state_of h).jobs ≡ range_with_len 1 (length (state_of h).jobs)
