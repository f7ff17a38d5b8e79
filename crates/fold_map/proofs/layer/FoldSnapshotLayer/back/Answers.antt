use Rattle.std.proofs.Common.{length, map, ap, sym, subst, ◌∙◌, arith}
use Rattle.cell_units.specs.Layers.{IsBack, Source, shown_text, unfolded}
use Rattle.joined_folds.specs.Sweeps.{fold_of}
use Rattle.fold_map.specs.Spots.{CoverBytes, shown_bytes}
use Rattle.fold_map.proofs.LinesLayer.{bytes-are, bytes-covered}
use Rattle.fold_map.proofs.SpotsFound.{spot-fits, spot-is}
use Rattle.fold_map.proofs.SpotsLayer.{back-past, back-same, over}
use Rattle.fold_map.proofs.layer.FoldSnapshotLayer.back.Goals as goal

pub bytes_shown-requires : goal.bytes_shown-requires
bytes_shown-requires g c =
    let v = c.args.self.now in
    let ps = c.self.inside.splices in
    let o = over (g.L.Layer.source c.self.inside.layer) v (map fold_of c.self.inside.folds) ps c.self.invariant c.self.view_is in
    subst (CoverBytes ps) (sym (c.length-length.ensures ∙ ap (λ (u : Source). length (shown_text u)) o.below)) (bytes-covered v ps o.are o.fits)

pub returns-then-place-bytes_shown : goal.returns-then-place-bytes_shown
returns-then-place-bytes_shown g c =
    let v = c.args.self.now in
    let ps = c.self.inside.splices in
    let o = over (g.L.Layer.source c.self.inside.layer) v (map fold_of c.self.inside.folds) ps c.self.invariant c.self.view_is in
    let last = c.bytes_shown.ensures ∙ ap (shown_bytes ps) (c.length-length.ensures ∙ ap (λ (u : Source). length (shown_text u)) o.below) ∙ bytes-are v ps o.are in
    back-past v c.args.place c.args.bias (omega (arith, c.if-place-bytes_shown.true, last))

pub spot_at-spot-requires : goal.spot_at-spot-requires
spot_at-spot-requires g c =
    let v = c.args.self.now in
    let ps = c.self.inside.splices in
    let o = over (g.L.Layer.source c.self.inside.layer) v (map fold_of c.self.inside.folds) ps c.self.invariant c.self.view_is in
    let low = c.length-length.ensures ∙ ap (λ (u : Source). length (shown_text u)) o.below in
    let last = c.bytes_shown.ensures ∙ ap (shown_bytes ps) low ∙ bytes-are v ps o.are in
    spot-fits v ps o.are c.args.place (omega (arith, c.if-place-bytes_shown.false, last)) (omega (arith, low, c.length-length.type_inv))

pub returns-then-spot : goal.returns-then-spot
returns-then-spot g c =
    let v = c.args.self.now in
    let ps = c.self.inside.splices in
    let o = over (g.L.Layer.source c.self.inside.layer) v (map fold_of c.self.inside.folds) ps c.self.invariant c.self.view_is in
    let low = c.length-length.ensures ∙ ap (λ (u : Source). length (shown_text u)) o.below in
    let last = c.bytes_shown.ensures ∙ ap (shown_bytes ps) low ∙ bytes-are v ps o.are in
    (spot-is v ps o.are c.args.place (omega (arith, c.if-place-bytes_shown.false, last)) c.spot_at-spot.result c.spot_at-spot.ensures.spot).none c.if-spot.true

pub returns : goal.returns
returns g c =
    let v = c.args.self.now in
    let ps = c.self.inside.splices in
    let o = over (g.L.Layer.source c.self.inside.layer) v (map fold_of c.self.inside.folds) ps c.self.invariant c.self.view_is in
    let low = c.length-length.ensures ∙ ap (λ (u : Source). length (shown_text u)) o.below in
    let last = c.bytes_shown.ensures ∙ ap (shown_bytes ps) low ∙ bytes-are v ps o.are in
    let is = spot-is v ps o.are c.args.place (omega (arith, c.if-place-bytes_shown.false, last)) c.spot_at-spot.result c.spot_at-spot.ensures.spot in
    let below = c.spot_at-spot.result.below in
    let back = subst (λ (u : Source). IsBack u below c.args.bias c.back.result) o.below c.back.ensures in
    back-same v (unfolded v) c.args.place below c.args.bias c.back.result (is.same c.if-spot.false) back
