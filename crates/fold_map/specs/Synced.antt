-- What a fold map makes of a replacement of its layer.
use Rattle.std.specs.Prelude.{ℕ, ◌≡◌, ◌+◌, ◌≤◌, List, [], Option, Some, None}
use Rattle.std.specs.List.{All}
use Rattle.cell_units.specs.BufferLines.{line_end, line_start}
use Rattle.cell_units.specs.Layers.{Source, shown_text, span_of, unfolded}
use Rattle.cell_units.specs.Operation.{moved_folds}
use Rattle.cell_units.specs.Record.{Fold}
use Rattle.cell_units.specs.Text.{IsBoundary, row_of}
use Rattle.joined_folds.specs.Windows.{moved_on}
use Rattle.edit_patch.specs.Covering.{with_pending}
use Rattle.edit_patch.specs.LayerLeads.{LayerLeads}
use Rattle.edit_patch.specs.Leads.{LeadsIfAny, Reach, unmoved}
use Rattle.fold_map.specs.Maps.{FoldState}
use Rattle.fold_map.specs.Replaced.{shown_change}
use Rattle.fold_map.specs.Snapshots.{PlacesFit, with_folds}

-- the first and the last offset of the rows of the line of a place
abbrev pub row_start_at : Source → ℕ → ℕ
row_start_at layer place = line_start layer.text (span_of layer (row_of (shown_text layer) place)).0

abbrev pub row_end_at : Source → ℕ → ℕ
row_end_at layer place = line_end layer.text (span_of layer (row_of (shown_text layer) place)).1

-- the folds after a replacement of the text, if there was one
abbrev pub folds_after : Option Reach → List Fold → List Fold
folds_after None folds = folds
folds_after (Some s) folds = moved_folds s.start s.end s.count folds

-- the new layer with the folds, moved
abbrev pub source_after : Source → Option Reach → Source → Source
source_after layer shift source = with_folds layer (folds_after shift source.folds)

-- what a replacement of the layer's text replaces of what is shown: the rows of the lines that it meets
abbrev pub layer_change : Source → Source → Reach → Reach
layer_change before after below =
    shown_change before after (row_start_at (unfolded before) below.start) (row_end_at (unfolded before) below.end)

abbrev pub change_after : Source → Option Reach → Option Reach → Source → Option Reach
change_after layer shift None source = None
change_after layer shift (Some below) source = Some (layer_change source (source_after layer shift source) below)

-- what a `sync` returns
abbrev pub answer_of : Source → Option Reach → Option Reach → FoldState → Option Reach
answer_of layer shift below s = with_pending s.pending (change_after layer shift below s.current)

-- what a `sync` leaves
abbrev pub synced : Source → Option Reach → FoldState → FoldState
synced layer shift s =
    let after = source_after layer shift s.current in
    record { current = after; shown = after; pending = None }

-- What a `sync` of a map makes: the layer with the folds, moved, and what leads to it from the last snapshot.
pub record IsSynced (layer : Source) (shift below : Option Reach) (map : FoldState) (made : Source) (answer : Option Reach) : Type 0 where
  pub made_is : made ≡ source_after layer shift map.current
  pub answered : answer ≡ answer_of layer shift below map
  pub leads : LayerLeads shift map.shown made answer

-- where the end of a row goes that the replacement of the text is not after
abbrev pub end_after : Option Reach → ℕ → ℕ
end_after None end = end
end_after (Some s) end = moved_on s.end (s.start + s.count) end

-- ---- conditions

-- each fold is at boundaries of the new text, once it is moved
abbrev pub StandAfter : List ℕ → Option Reach → List Fold → Type 0
StandAfter text None folds = Unit {0}
StandAfter text (Some s) folds = All (λ f. IsBoundary text f.start × IsBoundary text f.end) (moved_folds s.start s.end s.count folds)

-- The replacement of the layer's text meets a line of each row that the replacement of the buffer's text touches.
pub record MeetsRows (layer : Source) (s below : Reach) : Type 0 where
  pub first : row_start_at layer below.start ≤ s.start
  pub last : s.end ≤ row_end_at layer below.end

abbrev pub MeetsTouched : Source → Option Reach → Option Reach → Type 0
MeetsTouched layer None below = Unit {0}
MeetsTouched layer (Some s) None = ⊥
MeetsTouched layer (Some s) (Some below) = MeetsRows layer s below

-- A layer that came of the old one by the replacements of the buffer's text and of the layer's text, if there were any.
pub record Follows (old layer : Source) (shift below : Option Reach) : Type 0 where
  pub bare : layer.folds ≡ []
  pub text : LeadsIfAny unmoved old.text layer.text shift
  pub leads : LayerLeads shift (unfolded old) layer below
  pub meets : MeetsTouched (unfolded old) shift below
  pub stand : StandAfter layer.text shift old.folds
  pub fits : PlacesFit (source_after layer shift old)
