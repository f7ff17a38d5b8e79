-- How many joined folds and splices a change makes anew, and the steps that it takes.
use Rattle.std.proofs.Common.{◌≡◌, ℕ, ◌+◌, ◌*◌, ◌^◌, ◌<◌, ◌≤◌, List, [], length, sym, subst}
use Rattle.cell_units.specs.Layers.{Source}
use Rattle.cell_units.specs.Record.{Fold}
use Rattle.joined_folds.specs.declared.joined_fold.JoinedFold.{JoinedFold}
use Rattle.joined_folds.specs.declared.window.Window.{Window}
use Rattle.joined_folds.specs.JoinedLists.{AreAllJoined, AreJoined}
use Rattle.joined_folds.specs.Sweeps.{count_met}
use Rattle.joined_folds.proofs.Fewer.{few-within}
use Rattle.mark_tree.specs.Bounds.{meeting}
use Rattle.sum_core.specs.declared.load.NoLoad.{NoLoad}
use Rattle.splice_tree.specs.Splices.{Piece}
use Rattle.sum_tree.specs.Bounds.{TakesAtMost}
use Rattle.fold_map.specs.declared.amount.Amount.{Amount}
use Rattle.fold_map.specs.declared.met.Change.{Change}
use Rattle.fold_map.specs.declared.met.Met.{Met}
use Rattle.fold_map.specs.Changes.{IsChange}
use Rattle.fold_map.specs.Met.{IsMetBy}
use Rattle.fold_map.specs.Snapshots.{IsSnapshot, with_folds}
use Rattle.fold_map.proofs.ChangedFolds.{window-is}
use Rattle.fold_map.proofs.FoldCounts.{snapshot-splices}

module _ (s : Source) (js : List JoinedFold) (alls : AreAllJoined s.folds (length s.text) js) (layer : Source) (bare : layer.folds ≡ []) (folds : List Fold) (c : Change)
    (is : IsChange s (with_folds layer folds) c) (m : Met) (met : IsMetBy js c m) where
  abbrev pub k : ℕ
  k = count_met c.start c.last folds

  -- the folds that the window asks for are those that the change meets
  pub found-met : (h old new : ℕ) → TakesAtMost (meeting (count_met m.window.start m.window.end folds)) (length folds) old new → length folds < 2 * 6 ^ (h + 1) → new ≤ old + 82 * (h + 1) * (k + 1)
  found-met h old new steps lt =
      subst (λ (w : Window). TakesAtMost (meeting (count_met w.start w.end folds)) (length folds) old new → new ≤ old + 82 * (h + 1) * (k + 1)) (sym met.window) (λ t. t h lt) steps

  pub few-fresh : (fresh : List JoinedFold) → AreJoined folds m.window.from fresh m.window.to → length fresh ≤ k + 1
  few-fresh fresh made =
      let all = few-within folds m.window (window-is s js alls layer bare folds c is m met) (λ i d l. (is.formed.folds.each i d l).some) fresh made in
      subst (λ (w : Window). length fresh ≤ count_met w.start w.end folds + 1 → length fresh ≤ k + 1) (sym met.window) (λ l. l) all

-- the splices of a source under folds are no more than these
pub few-after : (layer : Source) (folds : List Fold) (splices : List (Piece Amount NoLoad)) → IsSnapshot layer folds splices → length splices ≤ length folds
few-after layer folds splices is = snapshot-splices layer folds splices (with_folds layer folds) is (λ i. with_folds layer folds)
