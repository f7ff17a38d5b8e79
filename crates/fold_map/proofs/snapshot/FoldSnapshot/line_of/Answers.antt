use Rattle.std.proofs.Common.{◌≤◌, ℕ, length, map, ap, sym, ◌∙◌, subst, arith}
use Rattle.cell_units.specs.declared.place.Point.{Point}
use Rattle.cell_units.specs.Layers.{Source, shown_text}
use Rattle.cell_units.specs.Text.{row_of}
use Rattle.cell_units.proofs.ShownPlaces.{place-le}
use Rattle.joined_folds.specs.Sweeps.{fold_of}
use Rattle.fold_map.proofs.FoldCounts.{snapshot-splices}
use Rattle.fold_map.proofs.Positions.{row-line}
use Rattle.fold_map.proofs.SpotsFound.{spot-fits, spot-is}
use Rattle.fold_map.proofs.SpotsLayer.{over, row-small}
use Rattle.fold_map.proofs.snapshot.FoldSnapshot.line_of.Goals as goal

pub spot_at-spot-requires : goal.spot_at-spot-requires
spot_at-spot-requires g c =
    let v = c.args.self.now in
    let ps = c.self.inside.splices in
    let o = over (g.L.Layer.source c.self.inside.layer) v (map fold_of c.self.inside.folds) ps c.self.invariant c.self.view_is in
    let within = subst (λ (p : ℕ). p ≤ length (shown_text v)) (sym c.place_of-place.ensures.place) (place-le v c.args.offset c.args.bias c.requires.0) in
    spot-fits v ps o.are c.place_of-place.result within (omega (arith, c.length.ensures, c.length.type_inv, ap (λ (u : Source). length (shown_text u)) o.below))

pub point-below-requires : goal.point-below-requires
point-below-requires g c =
    let v = c.args.self.now in
    let ps = c.self.inside.splices in
    let o = over (g.L.Layer.source c.self.inside.layer) v (map fold_of c.self.inside.folds) ps c.self.invariant c.self.view_is in
    let within = subst (λ (p : ℕ). p ≤ length (shown_text v)) (sym c.place_of-place.ensures.place) (place-le v c.args.offset c.args.bias c.requires.0) in
    let is = spot-is v ps o.are c.place_of-place.result within c.spot_at-spot.result c.spot_at-spot.ensures.spot in
    omega (arith, is.within, ap (λ (u : Source). length (shown_text u)) o.below)

pub overflow_sub-result : goal.overflow_sub-result
overflow_sub-result g c =
    let v = c.args.self.now in
    let ps = c.self.inside.splices in
    let o = over (g.L.Layer.source c.self.inside.layer) v (map fold_of c.self.inside.folds) ps c.self.invariant c.self.view_is in
    let within = subst (λ (p : ℕ). p ≤ length (shown_text v)) (sym c.place_of-place.ensures.place) (place-le v c.args.offset c.args.bias c.requires.0) in
    let spot = c.spot_at-spot.result in
    let is = spot-is v ps o.are c.place_of-place.result within spot c.spot_at-spot.ensures.spot in
    let below = ap (λ (p : Point). p.row) c.point-below.ensures ∙ ap (λ (u : Source). row_of (shown_text u) spot.below) o.below in
    omega (arith, is.order, below)

pub overflow_add-result : goal.overflow_add-result
overflow_add-result g c =
    let v = c.args.self.now in
    let ps = c.self.inside.splices in
    let o = over (g.L.Layer.source c.self.inside.layer) v (map fold_of c.self.inside.folds) ps c.self.invariant c.self.view_is in
    let within = subst (λ (p : ℕ). p ≤ length (shown_text v)) (sym c.place_of-place.ensures.place) (place-le v c.args.offset c.args.bias c.requires.0) in
    let spot = c.spot_at-spot.result in
    let is = spot-is v ps o.are c.place_of-place.result within spot c.spot_at-spot.ensures.spot in
    let below = ap (λ (p : Point). p.row) c.point-below.ensures ∙ ap (λ (u : Source). row_of (shown_text u) spot.below) o.below in
    omega (arith, is.order, is.row, below, row-small v c.place_of-place.result, o.fits)

pub returns-clause-line : goal.returns-clause-line
returns-clause-line g c =
    let v = c.args.self.now in
    let ps = c.self.inside.splices in
    let o = over (g.L.Layer.source c.self.inside.layer) v (map fold_of c.self.inside.folds) ps c.self.invariant c.self.view_is in
    let within = subst (λ (p : ℕ). p ≤ length (shown_text v)) (sym c.place_of-place.ensures.place) (place-le v c.args.offset c.args.bias c.requires.0) in
    let spot = c.spot_at-spot.result in
    let is = spot-is v ps o.are c.place_of-place.result within spot c.spot_at-spot.ensures.spot in
    let below = ap (λ (p : Point). p.row) c.point-below.ensures ∙ ap (λ (u : Source). row_of (shown_text u) spot.below) o.below in
    let row = ap (row_of (shown_text v)) c.place_of-place.ensures.place ∙ row-line v c.text_len.ensures.lawful.formed c.args.offset c.args.bias c.requires.0 in
    omega (arith, is.order, is.row, below, row)

pub returns-clause-steps : goal.returns-clause-steps
returns-clause-steps g c h lt =
    let few = snapshot-splices (g.L.Layer.source c.self.inside.layer) (map fold_of c.self.inside.folds) c.self.inside.splices c.args.self.now c.self.invariant c.self.view_is in
    omega (arith, c.place_of-place.ensures.steps h lt, c.spot_at-spot.ensures.steps h (omega (arith, lt, few)))
