use Rattle.std.proofs.Common.{◌+◌, ◌-◌, length, map, ap, sym, ◌∙◌, arith}
use Rattle.cell_units.specs.BufferLines.{line_start}
use Rattle.cell_units.specs.Layers.{Source, shown_lines, shown_text}
use Rattle.cell_units.proofs.BufferLines.{line_bounds}
use Rattle.joined_folds.specs.Sweeps.{fold_of}
use Rattle.fold_map.proofs.LinesLayer.{line-fits, line-lt, place-at, there-at}
use Rattle.fold_map.proofs.SpotsLayer.{over}
use Rattle.fold_map.proofs.layer.FoldSnapshotLayer.line_start.Goals as goal

pub start_of-start-requires : goal.start_of-start-requires
start_of-start-requires g c =
    let v = c.args.self.now in
    let ps = c.self.inside.splices in
    let o = over (g.L.Layer.source c.self.inside.layer) v (map fold_of c.self.inside.folds) ps c.self.invariant c.self.view_is in
    line-fits v ps o.are c.args.line c.requires (omega (arith, c.lines-lines.ensures, c.lines-lines.type_inv, ap (λ (u : Source). length (shown_lines u)) o.below))

pub line_start-begin-requires : goal.line_start-begin-requires
line_start-begin-requires g c =
    let v = c.args.self.now in
    let ps = c.self.inside.splices in
    let o = over (g.L.Layer.source c.self.inside.layer) v (map fold_of c.self.inside.folds) ps c.self.invariant c.self.view_is in
    omega (arith, there-at v ps o.are c.args.line c.start_of-start.result c.start_of-start.ensures.start c.requires, ap (λ (u : Source). length (shown_lines u)) o.below)

pub place-requires-clause-order : goal.place-requires-clause-order
place-requires-clause-order g c =
    let v = c.args.self.now in
    let ps = c.self.inside.splices in
    let o = over (g.L.Layer.source c.self.inside.layer) v (map fold_of c.self.inside.folds) ps c.self.invariant c.self.view_is in
    let at = c.start_of-start.result in
    let is = place-at v ps o.are c.args.line at c.start_of-start.ensures.start c.requires in
    omega (arith, is.behind, c.line_start-begin.ensures, ap (λ (u : Source). line_start (shown_text u) at.below) o.below)

pub place-requires-clause-fits : goal.place-requires-clause-fits
place-requires-clause-fits g c =
    let v = c.args.self.now in
    let ps = c.self.inside.splices in
    let o = over (g.L.Layer.source c.self.inside.layer) v (map fold_of c.self.inside.folds) ps c.self.invariant c.self.view_is in
    let at = c.start_of-start.result in
    let is = place-at v ps o.are c.args.line at c.start_of-start.ensures.start c.requires in
    let bounds = line_bounds (shown_text v) c.args.line (line-lt v ps o.are c.args.line at c.start_of-start.ensures.start c.requires) in
    omega (arith, is.place, bounds, o.fits, c.line_start-begin.ensures, ap (λ (u : Source). line_start (shown_text u) at.below) o.below)

pub returns : goal.returns
returns g c =
    let v = c.args.self.now in
    let ps = c.self.inside.splices in
    let o = over (g.L.Layer.source c.self.inside.layer) v (map fold_of c.self.inside.folds) ps c.self.invariant c.self.view_is in
    let at = c.start_of-start.result in
    let is = place-at v ps o.are c.args.line at c.start_of-start.ensures.start c.requires in
    let begin = c.line_start-begin.ensures ∙ ap (λ (u : Source). line_start (shown_text u) at.below) o.below in
    c.place.ensures ∙ ap (λ k. at.before.upper.bytes + (k - at.before.lower.bytes)) begin ∙ sym is.place
