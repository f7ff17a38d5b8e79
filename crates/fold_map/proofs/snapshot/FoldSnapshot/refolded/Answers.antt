use Rattle.std.proofs.Common.{◌≡◌, map, ap, sym, ◌∙◌, subst}
use Rattle.cell_units.specs.Layers.{Source}
use Rattle.joined_folds.specs.Sweeps.{fold_of}
use Rattle.fold_map.specs.Changes.{IsChange}
use Rattle.fold_map.specs.Snapshots.{with_folds}
use Rattle.fold_map.proofs.StateFolds.{ok-as, refolded-change}
use Rattle.fold_map.proofs.snapshot.FoldSnapshot.refolded.Goals as goal
use Rattle.fold_map.proofs.snapshot.FoldSnapshot.refolded.Goals.{In_ok-layer}
use Rattle.fold_map.proofs.snapshot.FoldSnapshot.refolded.Given.{Over}

-- the folds over the shared layer are those over the text and the inlays that were there
layer-is : (g : Over) (c : In_ok-layer g) → with_folds (g.L.Layer.source c.in_ok-layer.layer) (map fold_of c.args.folds) ≡ with_folds c.args.self.now (map fold_of c.args.folds)
layer-is g c =
    ap (λ (s : Source). with_folds s (map fold_of c.args.folds)) c.in_ok-layer.ensures
    ∙ ap (λ (s : Source). with_folds s (map fold_of c.args.folds)) c.self.view_is

pub changed-requires-clause-bare : goal.changed-requires-clause-bare
changed-requires-clause-bare g c κs h = ap (λ (s : Source). s.folds) c.in_ok-layer.ensures ∙ c.self.invariant.bare

pub changed-requires-clause-change : goal.changed-requires-clause-change
changed-requires-clause-change g c κs h =
    let r = c.args.range in
    subst (λ (s : Source). IsChange c.args.self.now s (record { start = r.start; end = r.end; last = r.end })) (sym (layer-is g (goal.at.changed-requires-clause-change g c).In_ok-layer))
    (refolded-change c.args.self.now (map fold_of c.args.folds) (fold_of r) c.text_len-len.ensures.lawful.formed c.requires.lawful c.requires.fits c.requires.differ)

pub returns-clause-ok : goal.returns-clause-ok
returns-clause-ok g c = ok-as c.changed.result (layer-is g (goal.at.returns-clause-ok g c).In_ok-layer) c.changed.ensures.ok

pub returns-clause-steps : goal.returns-clause-steps
returns-clause-steps g c = c.changed.ensures.steps
