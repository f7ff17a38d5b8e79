use Rattle.std.proofs.Common.{List, None, map, ap, sym, ◌∙◌, subst}
use Rattle.cell_units.specs.Layers.{Source}
use Rattle.joined_folds.specs.Sweeps.{fold_of}
use Rattle.mark_tree.specs.declared.mark.RangeMark.{RangeMark}
use Rattle.sum_core.specs.declared.load.NoLoad.{NoLoad}
use Rattle.splice_tree.specs.Splices.{Piece}
use Rattle.fold_map.specs.declared.amount.Amount.{Amount}
use Rattle.fold_map.specs.Snapshots.{IsSnapshot, with_folds}
use Rattle.fold_map.specs.Synced.{Follows}
use Rattle.fold_map.proofs.StateOver.{over-snapshot}
use Rattle.fold_map.proofs.snapshot.FoldSnapshot.over.Goals as goal

pub invariant_of-result : goal.invariant_of-result
invariant_of-result g c =
    let layer = g.L.Layer.source c.args.layer in
    let low = g.L.Layer.source c.self.inside.layer in
    subst (λ (p : List RangeMark × List (Piece Amount NoLoad)). IsSnapshot layer (map fold_of p.0) p.1) (λ i. (sym c.in_ok-share.ensures i, sym c.in_ok-share-2.ensures i))
    (over-snapshot low layer (map fold_of c.self.inside.folds) c.self.inside.splices c.self.invariant (subst (λ (v : Source). Follows v layer None None) (sym c.self.view_is) c.requires.follows))

pub returns : goal.returns
returns g c = record {
  ok =
      ap (λ (rs : List RangeMark). with_folds (g.L.Layer.source c.args.layer) (map fold_of rs)) c.in_ok-share.ensures
      ∙ ap (λ (v : Source). with_folds (g.L.Layer.source c.args.layer) v.folds) c.self.view_is;
}
