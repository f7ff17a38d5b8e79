-- The histories of several views of one text, and what a change of one view makes of them.
use Rattle.std.specs.Prelude.{ℕ, ◌≡◌, ◌≤◌, Bool, true, false, if◌then◌else◌, List, [], ◌∷◌, length, map, slice_index_or, slice_set}
use Rattle.std.specs.List.{All}
use Rattle.cell_units.specs.Operation as operations
use Rattle.display_sheet.specs.declared.change.Change.{Change}
use Rattle.display_sheet.specs.Changes.{ChangeParts, Edit, One, ops_of, parts_of}
use Rattle.display_map.specs.Events.{Event, Did, Line}
use Rattle.display_map.specs.Replay.{History, appended, present_of}
use Rattle.split_views.specs.declared.split.TheConstants.{VIEW_LIMIT}

-- the history of a view, which are counted from 0
abbrev pub history_of : List History → ℕ → History
history_of histories view = slice_index_or histories view (record { opening = []; events = [] })

-- the histories with further events in that of a view
abbrev pub appended_in : List History → ℕ → List Event → List History
appended_in histories view events = slice_set histories view (appended (history_of histories view) events)

-- an edit reaches every view. Another change reaches its own alone
abbrev pub is_edit : ChangeParts → Bool
is_edit (Edit splices) = true
is_edit (One (operations.Replace start end text)) = true
is_edit (One operation) = false

-- what a change of a script line adds to each history that it reaches
abbrev pub added : ℕ → Change → List Event
added number change = Line number ∷ map Did (ops_of change)

-- the histories after a change of a view
abbrev pub changed : List History → ℕ → ℕ → Change → List History
changed histories view number change =
    if is_edit (parts_of change) then map (λ h. appended h (added number change)) histories
    else appended_in histories view (added number change)

-- all histories have the same text by `text_in`
abbrev pub HaveOneText : (History → List ℕ) → List History → Type 0
HaveOneText text_in histories = (text : List ℕ) × All (λ h. text_in h ≡ text) histories

-- one to eight histories of one opening text, and of one present text
pub record AreOfOneText (histories : List History) : Type 0 where
  pub some : 1 ≤ length histories
  pub few : length histories ≤ VIEW_LIMIT
  pub opening : HaveOneText (λ h. h.opening) histories
  pub present : HaveOneText (λ h. (present_of h).text) histories
