-- What an inlay map is seen as, and what its calls make of it.
use Rattle.std.specs.Prelude.{◌≡◌, ◌≢◌, ℕ, ◌<◌, ◌^◌, ◌==◌, ◌||◌, nat_lt, nat_le, not, if◌then◌else◌, List, length, Option, Some, None}
use Rattle.std.specs.List.{All, list_any}
use Rattle.cell_units.specs.declared.limits.TheConstants.{ENTRY_LIMIT, INLAY_LIMIT}
use Rattle.cell_units.specs.declared.place.Bias.{Bias}
use Rattle.cell_units.specs.declared.fault.Fault.{Fault}
use Rattle.cell_units.specs.declared.fault.Fault.TheVariants.{Refused, NoMemory}
use Rattle.cell_units.specs.declared.fault.Refusal.{Refusal}
use Rattle.cell_units.specs.declared.fault.Refusal.TheVariants.{BadRange, BadText, IdInUse, TooLong, UnknownId}
use Rattle.cell_units.specs.Inlaid.{inlays_at}
use Rattle.cell_units.specs.Text.{IsBoundary, is_boundary}
use Rattle.cell_units.specs.Record.{Inlay, inlay_le}
use Rattle.cell_units.specs.Sorting.{insert_by}
use Rattle.cell_units.specs.Operation.{moved_inlays, without_inlay}
use Rattle.cell_units.specs.Layers.{Source, inlay_source, plain_source, shown_text}
use Rattle.edit_patch.specs.Covering.{with_pending}
use Rattle.edit_patch.specs.LayerLeads.{LayerLeads}
use Rattle.edit_patch.specs.Leads.{Reach}
use Rattle.inlay_map.specs.InlaidShifts.{inlaid_shift, inlay_shift}

-- The text with its inlays as they are now, what the last snapshot showed, and the replacement that leads from that to
-- now.
pub record InlayState : Type 0 where
  pub current : Source
  pub shown : Source
  pub pending : Option Reach

-- ---- refusals

-- why an inlay isn't added, if it isn't
abbrev pub add_refusal : Source → ℕ → ℕ → List ℕ → Option Refusal
add_refusal source id offset text =
    if list_any (λ i. i.id == id) source.inlays then Some IdInUse
    else (if not (is_boundary source.text offset) then Some BadRange
    else (if length text == 0 then Some BadText
    else (if nat_lt INLAY_LIMIT (length text) || nat_le ENTRY_LIMIT (length source.inlays) then Some TooLong else None)))

-- why no inlay of the id is removed, if none is
abbrev pub remove_refusal : Source → ℕ → Option Refusal
remove_refusal source id = if list_any (λ i. i.id == id) source.inlays then None else Some UnknownId

-- the refusal that is owed, and out of memory where there is none
abbrev pub IsOwed : Option Refusal → Fault → Type 0
IsOwed (Some refusal) fault = fault ≡ Refused refusal
IsOwed None fault = fault ≡ NoMemory

-- ---- what the calls make

abbrev pub state_of : List ℕ → InlayState
state_of text = record { current = plain_source text; shown = plain_source text; pending = None }

abbrev pub inlay_with : ℕ → ℕ → Bias → List ℕ → Inlay
inlay_with id offset bias text = record { offset = offset; bias = bias; id = id; text = text }

-- both have the same inlays but at one offset
abbrev pub DifferAt : ℕ → List Inlay → List Inlay → Type 0
DifferAt offset is js = (k : ℕ) → k ≢ offset → inlays_at is k ≡ inlays_at js k

-- other inlays in the text, which differ from those before at one offset
abbrev pub with_inlays : List Inlay → ℕ → InlayState → InlayState
with_inlays inlays offset s =
    let after = inlay_source s.current.text inlays in
    record { current = after; shown = s.shown; pending = with_pending s.pending (Some (inlay_shift s.current after offset)) }

abbrev pub added : Inlay → InlayState → InlayState
added i s = with_inlays (insert_by inlay_le i s.current.inlays) i.offset s

abbrev pub removed : Inlay → InlayState → InlayState
removed i s = with_inlays (without_inlay i.id s.current.inlays) i.offset s

-- the inlays after the replacement, if there was one
abbrev pub inlays_after : Option Reach → List Inlay → List Inlay
inlays_after None inlays = inlays
inlays_after (Some s) inlays = moved_inlays s.start s.end s.count inlays

-- after a replacement they are at boundaries of the new text
abbrev pub StandAfter : List ℕ → Option Reach → List Inlay → Type 0
StandAfter text None inlays = Unit {0}
StandAfter text (Some s) inlays = All (λ i. IsBoundary text i.offset) (moved_inlays s.start s.end s.count inlays)

-- the new text with the inlays, moved
abbrev pub source_after : List ℕ → Option Reach → Source → Source
source_after text shift source = inlay_source text (inlays_after shift source.inlays)

-- what the replacement of the text, if there was one, replaces of what was shown before
abbrev pub shift_after : List ℕ → Option Reach → Source → Option Reach
shift_after text None source = None
shift_after text (Some s) source = Some (inlaid_shift source (source_after text (Some s) source) s)

-- what a `sync` returns
abbrev pub answer_of : List ℕ → Option Reach → InlayState → Option Reach
answer_of text shift s = with_pending s.pending (shift_after text shift s.current)

-- what a `sync` leaves
abbrev pub synced : List ℕ → Option Reach → InlayState → InlayState
synced text shift s =
    let after = source_after text shift s.current in
    record { current = after; shown = after; pending = None }

-- What a `sync` of a map makes: the text with the inlays, moved, and what leads to it from the last snapshot.
pub record IsSynced (text : List ℕ) (shift : Option Reach) (map : InlayState) (layer : Source) (answer : Option Reach) : Type 0 where
  pub made : layer ≡ source_after text shift map.current
  pub answered : answer ≡ answer_of text shift map
  pub leads : LayerLeads shift map.shown layer answer

-- ---- sizes

-- every place of what is shown is a u32
abbrev pub PlacesFit : Source → Type 0
PlacesFit source = length (shown_text source) < 2 ^ 32
