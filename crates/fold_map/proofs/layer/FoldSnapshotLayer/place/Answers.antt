use Rattle.std.proofs.Common.{map, ap, sym, ◌∙◌, arith}
use Rattle.cell_units.specs.Layers.{Source, place_of}
use Rattle.cell_units.proofs.ShownPlaces.{place-le}
use Rattle.splice_tree.specs.Splices.{measured, to_upper}
use Rattle.joined_folds.specs.Sweeps.{fold_of}
use Rattle.fold_map.specs.Amounts.{bytes_of}
use Rattle.fold_map.proofs.SpotsBack.{carried}
use Rattle.fold_map.proofs.SpotsLayer.{over}
use Rattle.fold_map.proofs.layer.FoldSnapshotLayer.place.Goals as goal

pub to_upper-requires : goal.to_upper-requires
to_upper-requires g c =
    let v = c.args.self.now in
    let ps = c.self.inside.splices in
    let o = over (g.L.Layer.source c.self.inside.layer) v (map fold_of c.self.inside.folds) ps c.self.invariant c.self.view_is in
    let below = ap (to_upper c.args.bias (map (measured bytes_of) ps)) (c.place-below.ensures ∙ ap (λ (u : Source). place_of u c.args.offset c.args.bias) o.below) in
    omega (arith, below, carried v ps o.are c.args.offset c.args.bias c.requires.0, place-le v c.args.offset c.args.bias c.requires.0, o.fits)

pub returns : goal.returns
returns g c =
    let v = c.args.self.now in
    let ps = c.self.inside.splices in
    let o = over (g.L.Layer.source c.self.inside.layer) v (map fold_of c.self.inside.folds) ps c.self.invariant c.self.view_is in
    c.to_upper.ensures.place
    ∙ ap (to_upper c.args.bias (map (measured bytes_of) ps)) (c.place-below.ensures ∙ ap (λ (u : Source). place_of u c.args.offset c.args.bias) o.below)
    ∙ sym (carried v ps o.are c.args.offset c.args.bias c.requires.0)
