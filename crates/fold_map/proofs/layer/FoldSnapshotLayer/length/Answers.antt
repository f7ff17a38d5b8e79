use Rattle.std.proofs.Common.{length, map, ap, sym, subst, ◌∙◌}
use Rattle.cell_units.specs.Layers.{Source, shown_text}
use Rattle.joined_folds.specs.Sweeps.{fold_of}
use Rattle.fold_map.specs.Spots.{CoverBytes, shown_bytes}
use Rattle.fold_map.proofs.LinesLayer.{bytes-are, bytes-covered}
use Rattle.fold_map.proofs.SpotsLayer.{over}
use Rattle.fold_map.proofs.layer.FoldSnapshotLayer.length.Goals as goal

pub bytes_shown-requires : goal.bytes_shown-requires
bytes_shown-requires g c =
    let v = c.args.self.now in
    let ps = c.self.inside.splices in
    let o = over (g.L.Layer.source c.self.inside.layer) v (map fold_of c.self.inside.folds) ps c.self.invariant c.self.view_is in
    subst (CoverBytes ps) (sym (c.length.ensures ∙ ap (λ (u : Source). length (shown_text u)) o.below)) (bytes-covered v ps o.are o.fits)

pub returns : goal.returns
returns g c =
    let v = c.args.self.now in
    let ps = c.self.inside.splices in
    let o = over (g.L.Layer.source c.self.inside.layer) v (map fold_of c.self.inside.folds) ps c.self.invariant c.self.view_is in
    c.bytes_shown.ensures ∙ ap (shown_bytes ps) (c.length.ensures ∙ ap (λ (u : Source). length (shown_text u)) o.below) ∙ bytes-are v ps o.are
