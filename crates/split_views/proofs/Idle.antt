-- Views of which no job is out, over what is done with a split.
use Rattle.std.proofs.Common.{◌≡◌, ℕ, zero, suc, ◌<◌, eqb, not, cond, true≢false, Bool, true, false, List, [], ◌∷◌, map, get_or, set, replicate, refl, sym, ap, ◌∙◌, subst}
use Rattle.std.specs.Prelude.{◌||◌}
use Rattle.std.specs.List.{filter, list_any}
use Rattle.std.proofs.lemmas.List.{get_or-replicate}
use Rattle.cell_units.specs.Operation.{Operation}
use Rattle.display_sheet.specs.declared.change.Change.{Change}
use Rattle.display_sheet.specs.Changes.{ops_of, parts_of}
use Rattle.display_map.specs.Displays.{unlanded}
use Rattle.display_map.specs.Events.{Event, Did, Landed, Line, Published, Sent}
use Rattle.display_map.specs.Replay.{History, SentJob, State, appended, begun, happens, replayed, state_of}
use Rattle.display_map.proofs.Displays.{unlanded-landed}
use Rattle.display_map.proofs.Replays.{replayed-cons, replayed-none, state_of-appended}
use Rattle.split_views.specs.Views.{added, appended_in, changed, history_of, is_edit}
use Rattle.split_views.specs.Wrapping.{IsIdle, is_send}

abbrev unopened : History
unopened = record { opening = []; events = [] }

-- ---- one history

idle-begun : (text : List ℕ) → IsIdle (record { opening = text; events = [] })
idle-begun text = ap (λ (s : State). unlanded s.jobs) (replayed-none (begun text))

idle-event : (s : State) (e : Event) → is_send e ≡ false → unlanded s.jobs ≡ [] → unlanded (happens s e).jobs ≡ []
idle-event s (Line number) unsent idle = idle
idle-event s (Did op) unsent idle = idle
idle-event s (Sent job first count) unsent idle = absurd (true≢false unsent)
idle-event s (Landed number) unsent idle = unlanded-landed number s.jobs ∙ ap (filter (λ (job : SentJob). not (eqb job.number number))) idle
idle-event s (Published last) unsent idle = idle

either : (a b : Bool) → (a || b) ≡ false → (a ≡ false) × (b ≡ false)
either true b none = absurd (true≢false none)
either false b none = (refl, none)

idle-events : (s : State) (es : List Event) → list_any is_send es ≡ false → unlanded s.jobs ≡ [] → unlanded (replayed s es).jobs ≡ []
idle-events s [] unsent idle = ap (λ (s : State). unlanded s.jobs) (replayed-none s) ∙ idle
idle-events s (e ∷ es) unsent idle =
    let parts = either (is_send e) (list_any is_send es) unsent in
    ap (λ (s : State). unlanded s.jobs) (replayed-cons s e es) ∙ idle-events (happens s e) es parts.1 (idle-event s e parts.0 idle)

idle-appended : (h : History) (es : List Event) → list_any is_send es ≡ false → IsIdle h → IsIdle (appended h es)
idle-appended h es unsent idle = ap (λ (s : State). unlanded s.jobs) (state_of-appended h es) ∙ idle-events (state_of h) es unsent idle

none-sent : (ops : List Operation) → list_any is_send (map Did ops) ≡ false
none-sent [] = refl
none-sent (op ∷ ops) = none-sent ops

-- ---- all of them

idle-map : (f : History → History) (hs : List History) (view : ℕ) → ((h : History) → IsIdle h → IsIdle (f h)) → IsIdle (get_or hs view unopened) →
    IsIdle (get_or (map f hs) view unopened)
idle-map f [] view still idle = idle
idle-map f (h ∷ hs) zero still idle = still h idle
idle-map f (h ∷ hs) (suc view) still idle = idle-map f hs view still idle

idle-set : (hs : List History) (view other : ℕ) (new : History) → (IsIdle (get_or hs view unopened) → IsIdle new) → IsIdle (get_or hs other unopened) →
    IsIdle (get_or (set hs view new) other unopened)
idle-set [] view other new still idle = idle
idle-set (h ∷ hs) zero zero new still idle = still idle
idle-set (h ∷ hs) zero (suc other) new still idle = idle
idle-set (h ∷ hs) (suc view) zero new still idle = idle
idle-set (h ∷ hs) (suc view) (suc other) new still idle = idle-set hs view other new still idle

pub idle-opened : (text : List ℕ) (views view : ℕ) → view < views → IsIdle (history_of (replicate views (record { opening = text; events = [] })) view)
idle-opened text views view lt =
    subst IsIdle (sym (get_or-replicate views view (record { opening = text; events = [] }) unopened lt)) (idle-begun text)

pub idle-appended_in : (hs : List History) (view other : ℕ) (es : List Event) → list_any is_send es ≡ false → IsIdle (history_of hs other) →
    IsIdle (history_of (appended_in hs view es) other)
idle-appended_in hs view other es unsent idle =
    idle-set hs view other (appended (history_of hs view) es) (idle-appended (history_of hs view) es unsent) idle

pub idle-changed : (hs : List History) (view number other : ℕ) (change : Change) → IsIdle (history_of hs other) →
    IsIdle (history_of (changed hs view number change) other)
idle-changed hs view number other change idle = go (is_edit (parts_of change)) where
  es : List Event
  es = added number change

  go : (b : Bool) → IsIdle (history_of (cond b (map (λ h. appended h es) hs) (appended_in hs view es)) other)
  go true = idle-map (λ (h : History). appended h es) hs other (λ h. idle-appended h es (none-sent (ops_of change))) idle
  go false = idle-appended_in hs view other es (none-sent (ops_of change)) idle
