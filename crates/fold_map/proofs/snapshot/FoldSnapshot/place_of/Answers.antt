use Rattle.std.proofs.Common.{length, map, ap, sym, ◌∙◌, arith}
use Rattle.cell_units.specs.Layers.{Source, place_of}
use Rattle.cell_units.proofs.ShownPlaces.{place-le}
use Rattle.splice_tree.specs.Splices.{measured, to_upper}
use Rattle.joined_folds.specs.Sweeps.{fold_of}
use Rattle.fold_map.specs.Amounts.{bytes_of}
use Rattle.fold_map.specs.Snapshots.{with_folds}
use Rattle.fold_map.proofs.Places.{carried-by}
use Rattle.fold_map.proofs.FoldCounts.{snapshot-splices}
use Rattle.fold_map.proofs.snapshot.FoldSnapshot.place_of.Goals as goal

pub to_upper-requires : goal.to_upper-requires
to_upper-requires g c =
    let low = g.L.Layer.source c.self.inside.layer in
    let s = with_folds low (map fold_of c.self.inside.folds) in
    let within = ap (λ (v : Source). length v.text) c.self.view_is in
    let carried = carried-by low (map fold_of c.self.inside.folds) c.self.inside.splices c.args.offset c.args.bias c.self.invariant (omega (arith, c.requires.0, within)) in
    let below = ap (to_upper c.args.bias (map (measured bytes_of) c.self.inside.splices)) c.place-below.ensures in
    omega (arith, below, carried, place-le s c.args.offset c.args.bias (omega (arith, c.requires.0, within)), c.self.invariant.fits)

pub returns-clause-place : goal.returns-clause-place
returns-clause-place g c =
    let low = g.L.Layer.source c.self.inside.layer in
    let within = ap (λ (v : Source). length v.text) c.self.view_is in
    let carried = carried-by low (map fold_of c.self.inside.folds) c.self.inside.splices c.args.offset c.args.bias c.self.invariant (omega (arith, c.requires.0, within)) in
    c.to_upper.ensures.place
    ∙ ap (to_upper c.args.bias (map (measured bytes_of) c.self.inside.splices)) c.place-below.ensures
    ∙ sym carried
    ∙ ap (λ (v : Source). place_of v c.args.offset c.args.bias) c.self.view_is

pub returns-clause-steps : goal.returns-clause-steps
returns-clause-steps g c h lt =
    c.to_upper.ensures.steps h
    (omega (arith, lt, snapshot-splices (g.L.Layer.source c.self.inside.layer) (map fold_of c.self.inside.folds) c.self.inside.splices c.args.self.now c.self.invariant c.self.view_is))
