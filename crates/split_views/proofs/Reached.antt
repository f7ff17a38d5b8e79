-- Which views a change reaches.
use Rattle.std.proofs.Common.{◌≡◌, ℕ, ◌<◌, cond, Bool, true, false, List, [], length, map, ap, ◌∙◌}
use Rattle.std.specs.Prelude.{◌≢◌}
use Rattle.std.proofs.lemmas.List.{get_or-map, get_or-set_other, get_or-set_same, length-map, length-set}
use Rattle.display_sheet.specs.declared.change.Change.{Change}
use Rattle.display_sheet.specs.Changes.{parts_of}
use Rattle.display_map.specs.Events.{Event}
use Rattle.display_map.specs.Replay.{History, appended}
use Rattle.split_views.specs.Views.{added, appended_in, changed, history_of, is_edit}

abbrev unopened : History
unopened = record { opening = []; events = [] }

in-each : (hs : List History) (view : ℕ) (es : List Event) → view < length hs → history_of (map (λ h. appended h es) hs) view ≡ appended (history_of hs view) es
in-each hs view es lt = get_or-map (λ (h : History). appended h es) hs view unopened unopened lt

pub as-many : (hs : List History) (view number : ℕ) (change : Change) → length (changed hs view number change) ≡ length hs
as-many hs view number change = go (is_edit (parts_of change)) where
  go : (b : Bool) → length (cond b (map (λ h. appended h (added number change)) hs) (appended_in hs view (added number change))) ≡ length hs
  go true = length-map hs (λ (h : History). appended h (added number change))
  go false = length-set hs view (appended (history_of hs view) (added number change))

pub edit-in_each : (hs : List History) (view number other : ℕ) (change : Change) → is_edit (parts_of change) ≡ true → other < length hs →
    history_of (changed hs view number change) other ≡ appended (history_of hs other) (added number change)
edit-in_each hs view number other change edit lt =
    ap (λ (b : Bool). history_of (cond b (map (λ h. appended h (added number change)) hs) (appended_in hs view (added number change))) other) edit
    ∙ in-each hs other (added number change) lt

pub in-own : (hs : List History) (view number : ℕ) (change : Change) → view < length hs →
    history_of (changed hs view number change) view ≡ appended (history_of hs view) (added number change)
in-own hs view number change lt = go (is_edit (parts_of change)) where
  es : List Event
  es = added number change

  go : (b : Bool) → history_of (cond b (map (λ h. appended h es) hs) (appended_in hs view es)) view ≡ appended (history_of hs view) es
  go true = in-each hs view es lt
  go false = get_or-set_same hs view (appended (history_of hs view) es) unopened lt

pub in-no_other : (hs : List History) (view number other : ℕ) (change : Change) → is_edit (parts_of change) ≡ false → other ≢ view →
    history_of (changed hs view number change) other ≡ history_of hs other
in-no_other hs view number other change edit apart =
    ap (λ (b : Bool). history_of (cond b (map (λ h. appended h (added number change)) hs) (appended_in hs view (added number change))) other) edit
    ∙ get_or-set_other hs view other (appended (history_of hs view) (added number change)) unopened apart
