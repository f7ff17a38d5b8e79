-- What a fold map is seen as, and what its calls make of it.
use Rattle.std.specs.Prelude.{◌≡◌, ℕ, ◌==◌, false, if◌then◌else◌, Option, Some, None}
use Rattle.cell_units.specs.declared.fault.Fault.{Fault}
use Rattle.cell_units.specs.declared.fault.Fault.TheVariants.{NoMemory, Refused}
use Rattle.cell_units.specs.declared.fault.Refusal.{Refusal}
use Rattle.cell_units.specs.declared.place.Bias.TheVariants.{Left, Right}
use Rattle.cell_units.specs.Folded.{inside}
use Rattle.cell_units.specs.Layers.{Source, unfolded}
use Rattle.cell_units.specs.Operation.{without_fold}
use Rattle.cell_units.specs.Record.{Fold, fold_le}
use Rattle.cell_units.specs.Sorting.{insert_by}
use Rattle.cell_units.specs.Text.{IsBoundary, row_end, row_start}
use Rattle.joined_folds.specs.Windows.{AreAlike}
use Rattle.edit_patch.specs.Covering.{with_pending}
use Rattle.edit_patch.specs.LayerLeads.{LayerLeads}
use Rattle.edit_patch.specs.Leads.{Reach}
use Rattle.fold_map.specs.Amounts.{line_at}
use Rattle.fold_map.specs.Replaced.{shown_change}
use Rattle.fold_map.specs.Snapshots.{with_folds}

-- The layer with the folds as they are now, what the last snapshot showed, and the replacement that leads from that to
-- now.
pub record FoldState : Type 0 where
  pub current : Source
  pub shown : Source
  pub pending : Option Reach

-- Both are over one layer, and the replacement that is pending leads from what was shown last to what is now.
pub record IsKept (now shown : Source) (pending : Option Reach) : Type 0 where
  pub below : unfolded now ≡ unfolded shown
  pub leads : LayerLeads None shown now pending

-- the refusal that is owed, and out of memory where there is none
abbrev pub IsOwed : Option Refusal → Fault → Type 0
IsOwed (Some refusal) fault = fault ≡ Refused refusal
IsOwed None fault = fault ≡ NoMemory

-- ---- one fold more or less

abbrev pub fold_with : ℕ → ℕ → ℕ → Fold
fold_with id start end = record { start = start; end = end; id = id }

abbrev pub with_fold : Fold → Source → Source
with_fold f s = with_folds s (insert_by fold_le f s.folds)

abbrev pub without : ℕ → Source → Source
without id s = with_folds s (without_fold id s.folds)

-- What a fold that starts at an offset replaces of what is shown begins there. If its row starts on another line, it
-- begins at the start of that row
abbrev pub shown_from : Source → ℕ → ℕ
shown_from s o = let row = row_start s.text o in if line_at s row Left == line_at s o Left then o else row

-- What a fold that ends at an offset replaces ends there, or at the end of its row where that is shown on another line.
abbrev pub shown_to : Source → ℕ → ℕ
shown_to s o = let row = row_end s.text o in if line_at s row Right == line_at s o Right then o else row

-- what a fold replaces of what is shown that was added or removed
abbrev pub fold_change : Source → Source → Fold → Reach
fold_change before after f = shown_change before after (shown_from before f.start) (shown_to before f.end)

-- The folds differ within a range alone, and none is strictly around its end that wasn't.
pub record DifferWithin (before after : Source) (f : Fold) : Type 0 where
  pub below : unfolded after ≡ unfolded before
  pub start : IsBoundary before.text f.start
  pub end : IsBoundary before.text f.end
  pub alike : AreAlike before.folds after.folds f.start f.end f.end
  pub end_open : inside before.folds f.end ≡ false → inside after.folds f.end ≡ false

-- ---- what the calls make

abbrev pub state_of : Source → FoldState
state_of layer = record { current = layer; shown = layer; pending = None }

-- what is there where one fold was added or removed
abbrev pub turned_to : Source → Fold → FoldState → FoldState
turned_to after f s =
    record { current = after; shown = s.shown; pending = with_pending s.pending (Some (fold_change s.current after f)) }

abbrev pub folded_up : Fold → FoldState → FoldState
folded_up f s = turned_to (with_fold f s.current) f s

abbrev pub opened_up : Fold → FoldState → FoldState
opened_up f s = turned_to (without f.id s.current) f s
