use Rattle.std.proofs.Common.{◌≡◌, ◌+◌, ◌-◌, ◌<◌, ℕ, length, map, ap, sym, ◌∙◌, arith}
use Rattle.cell_units.specs.declared.place.Point.{Point}
use Rattle.cell_units.specs.BufferLines.{line_start}
use Rattle.cell_units.specs.Layers.{Source, point_of, shown_lines, shown_text}
use Rattle.cell_units.specs.Text.{row_of}
use Rattle.cell_units.proofs.ReplacedRows.{row_of-lt}
use Rattle.cell_units.proofs.BufferLines.{line_bounds}
use Rattle.joined_folds.specs.Sweeps.{fold_of}
use Rattle.fold_map.proofs.LinesLayer.{line-fits, line-lt, lines-above, place-at, there-at}
use Rattle.fold_map.proofs.SpotsFound.{spot-fits, spot-is}
use Rattle.fold_map.proofs.SpotsLayer.{over, point-is, row-small}
use Rattle.fold_map.proofs.SpotsLines.{begins-here}
use Rattle.fold_map.proofs.layer.FoldSnapshotLayer.point.Goals as goal

pub spot_at-spot-requires : goal.spot_at-spot-requires
spot_at-spot-requires g c =
    let v = c.args.self.now in
    let ps = c.self.inside.splices in
    let o = over (g.L.Layer.source c.self.inside.layer) v (map fold_of c.self.inside.folds) ps c.self.invariant c.self.view_is in
    spot-fits v ps o.are c.args.place c.requires (omega (arith, c.length-length.ensures, c.length-length.type_inv, ap (λ (u : Source). length (shown_text u)) o.below))

pub point-below-requires : goal.point-below-requires
point-below-requires g c =
    let v = c.args.self.now in
    let ps = c.self.inside.splices in
    let o = over (g.L.Layer.source c.self.inside.layer) v (map fold_of c.self.inside.folds) ps c.self.invariant c.self.view_is in
    let is = spot-is v ps o.are c.args.place c.requires c.spot_at-spot.result c.spot_at-spot.ensures.spot in
    omega (arith, is.within, ap (λ (u : Source). length (shown_text u)) o.below)

pub overflow_sub-rows : goal.overflow_sub-rows
overflow_sub-rows g c =
    let v = c.args.self.now in
    let ps = c.self.inside.splices in
    let o = over (g.L.Layer.source c.self.inside.layer) v (map fold_of c.self.inside.folds) ps c.self.invariant c.self.view_is in
    let spot = c.spot_at-spot.result in
    let is = spot-is v ps o.are c.args.place c.requires spot c.spot_at-spot.ensures.spot in
    let below = ap (λ (p : Point). p.row) c.point-below.ensures ∙ ap (λ (u : Source). row_of (shown_text u) spot.below) o.below in
    omega (arith, is.order, below)

pub overflow_add-row : goal.overflow_add-row
overflow_add-row g c =
    let v = c.args.self.now in
    let ps = c.self.inside.splices in
    let o = over (g.L.Layer.source c.self.inside.layer) v (map fold_of c.self.inside.folds) ps c.self.invariant c.self.view_is in
    let spot = c.spot_at-spot.result in
    let is = spot-is v ps o.are c.args.place c.requires spot c.spot_at-spot.ensures.spot in
    let below = ap (λ (p : Point). p.row) c.point-below.ensures ∙ ap (λ (u : Source). row_of (shown_text u) spot.below) o.below in
    omega (arith, is.order, is.row, below, row-small v c.args.place, o.fits)

-- ---- where the line begins in the stretch of the place

pub overflow_sub-first : goal.overflow_sub-first
overflow_sub-first g c =
    let v = c.args.self.now in
    let ps = c.self.inside.splices in
    let o = over (g.L.Layer.source c.self.inside.layer) v (map fold_of c.self.inside.folds) ps c.self.invariant c.self.view_is in
    let spot = c.spot_at-spot.result in
    let below = c.point-below.result in
    let row = spot.before.upper.feeds + (below.row - spot.before.lower.feeds) in
    let here = begins-here v ps o.are c.args.place row spot below c.requires c.spot_at-spot.ensures.spot (c.point-below.ensures ∙ ap (λ (u : Source). point_of (shown_text u) spot.below) o.below) c.if-rows-gt0.true (omega arith) in
    here.column

pub overflow_sub-begin : goal.overflow_sub-begin
overflow_sub-begin g c =
    let v = c.args.self.now in
    let ps = c.self.inside.splices in
    let o = over (g.L.Layer.source c.self.inside.layer) v (map fold_of c.self.inside.folds) ps c.self.invariant c.self.view_is in
    let spot = c.spot_at-spot.result in
    let below = c.point-below.result in
    let row = spot.before.upper.feeds + (below.row - spot.before.lower.feeds) in
    let here = begins-here v ps o.are c.args.place row spot below c.requires c.spot_at-spot.ensures.spot (c.point-below.ensures ∙ ap (λ (u : Source). point_of (shown_text u) spot.below) o.below) c.if-rows-gt0.true (omega arith) in
    here.behind

pub overflow_add-begin : goal.overflow_add-begin
overflow_add-begin g c =
    let v = c.args.self.now in
    let ps = c.self.inside.splices in
    let o = over (g.L.Layer.source c.self.inside.layer) v (map fold_of c.self.inside.folds) ps c.self.invariant c.self.view_is in
    let spot = c.spot_at-spot.result in
    let below = c.point-below.result in
    let row = spot.before.upper.feeds + (below.row - spot.before.lower.feeds) in
    let here = begins-here v ps o.are c.args.place row spot below c.requires c.spot_at-spot.ensures.spot (c.point-below.ensures ∙ ap (λ (u : Source). point_of (shown_text u) spot.below) o.below) c.if-rows-gt0.true (omega arith) in
    let at = point-is (shown_text v) c.args.place row (spot.before.upper.bytes + (spot.below - below.column - spot.before.lower.bytes)) c.requires here.row_is here.begin in
    omega (arith, at.0, c.requires, o.fits)

pub overflow_sub-result : goal.overflow_sub-result
overflow_sub-result g c =
    let v = c.args.self.now in
    let ps = c.self.inside.splices in
    let o = over (g.L.Layer.source c.self.inside.layer) v (map fold_of c.self.inside.folds) ps c.self.invariant c.self.view_is in
    let spot = c.spot_at-spot.result in
    let below = c.point-below.result in
    let row = spot.before.upper.feeds + (below.row - spot.before.lower.feeds) in
    let here = begins-here v ps o.are c.args.place row spot below c.requires c.spot_at-spot.ensures.spot (c.point-below.ensures ∙ ap (λ (u : Source). point_of (shown_text u) spot.below) o.below) c.if-rows-gt0.true (omega arith) in
    (point-is (shown_text v) c.args.place row (spot.before.upper.bytes + (spot.below - below.column - spot.before.lower.bytes)) c.requires here.row_is here.begin).0

pub returns-then-rows-gt0 : goal.returns-then-rows-gt0
returns-then-rows-gt0 g c =
    let v = c.args.self.now in
    let ps = c.self.inside.splices in
    let o = over (g.L.Layer.source c.self.inside.layer) v (map fold_of c.self.inside.folds) ps c.self.invariant c.self.view_is in
    let spot = c.spot_at-spot.result in
    let below = c.point-below.result in
    let row = spot.before.upper.feeds + (below.row - spot.before.lower.feeds) in
    let here = begins-here v ps o.are c.args.place row spot below c.requires c.spot_at-spot.ensures.spot (c.point-below.ensures ∙ ap (λ (u : Source). point_of (shown_text u) spot.below) o.below) c.if-rows-gt0.true (omega arith) in
    (point-is (shown_text v) c.args.place row (spot.before.upper.bytes + (spot.below - below.column - spot.before.lower.bytes)) c.requires here.row_is here.begin).1

-- ---- where it begins before that

pub start_of-start-requires : goal.start_of-start-requires
start_of-start-requires g c =
    let v = c.args.self.now in
    let ps = c.self.inside.splices in
    let o = over (g.L.Layer.source c.self.inside.layer) v (map fold_of c.self.inside.folds) ps c.self.invariant c.self.view_is in
    let spot = c.spot_at-spot.result in
    let is = spot-is v ps o.are c.args.place c.requires spot c.spot_at-spot.ensures.spot in
    let below = ap (λ (p : Point). p.row) c.point-below.ensures ∙ ap (λ (u : Source). row_of (shown_text u) spot.below) o.below in
    let row = spot.before.upper.feeds + (c.point-below.result.row - spot.before.lower.feeds) in
    let lt : row < length (shown_lines v) = omega (arith, is.order, is.row, below, row_of-lt (shown_text v) c.args.place, lines-above v ps o.are) in
    line-fits v ps o.are row lt (omega (arith, c.lines-lines.ensures, c.lines-lines.type_inv, ap (λ (u : Source). length (shown_lines u)) o.below))

pub line_start-requires : goal.line_start-requires
line_start-requires g c =
    let v = c.args.self.now in
    let ps = c.self.inside.splices in
    let o = over (g.L.Layer.source c.self.inside.layer) v (map fold_of c.self.inside.folds) ps c.self.invariant c.self.view_is in
    let spot = c.spot_at-spot.result in
    let is = spot-is v ps o.are c.args.place c.requires spot c.spot_at-spot.ensures.spot in
    let below = ap (λ (p : Point). p.row) c.point-below.ensures ∙ ap (λ (u : Source). row_of (shown_text u) spot.below) o.below in
    let row = spot.before.upper.feeds + (c.point-below.result.row - spot.before.lower.feeds) in
    let lt : row < length (shown_lines v) = omega (arith, is.order, is.row, below, row_of-lt (shown_text v) c.args.place, lines-above v ps o.are) in
    omega (arith, there-at v ps o.are row c.start_of-start.result c.start_of-start.ensures.start lt, ap (λ (u : Source). length (shown_lines u)) o.below)

pub place-begin-requires-clause-order : goal.place-begin-requires-clause-order
place-begin-requires-clause-order g c =
    let v = c.args.self.now in
    let ps = c.self.inside.splices in
    let o = over (g.L.Layer.source c.self.inside.layer) v (map fold_of c.self.inside.folds) ps c.self.invariant c.self.view_is in
    let spot = c.spot_at-spot.result in
    let at = c.start_of-start.result in
    let is = spot-is v ps o.are c.args.place c.requires spot c.spot_at-spot.ensures.spot in
    let below = ap (λ (p : Point). p.row) c.point-below.ensures ∙ ap (λ (u : Source). row_of (shown_text u) spot.below) o.below in
    let row = spot.before.upper.feeds + (c.point-below.result.row - spot.before.lower.feeds) in
    let lt : row < length (shown_lines v) = omega (arith, is.order, is.row, below, row_of-lt (shown_text v) c.args.place, lines-above v ps o.are) in
    let begins = place-at v ps o.are row at c.start_of-start.ensures.start lt in
    omega (arith, begins.behind, c.line_start.ensures, ap (λ (u : Source). line_start (shown_text u) at.below) o.below)

pub place-begin-requires-clause-fits : goal.place-begin-requires-clause-fits
place-begin-requires-clause-fits g c =
    let v = c.args.self.now in
    let ps = c.self.inside.splices in
    let o = over (g.L.Layer.source c.self.inside.layer) v (map fold_of c.self.inside.folds) ps c.self.invariant c.self.view_is in
    let spot = c.spot_at-spot.result in
    let at = c.start_of-start.result in
    let is = spot-is v ps o.are c.args.place c.requires spot c.spot_at-spot.ensures.spot in
    let below = ap (λ (p : Point). p.row) c.point-below.ensures ∙ ap (λ (u : Source). row_of (shown_text u) spot.below) o.below in
    let row = spot.before.upper.feeds + (c.point-below.result.row - spot.before.lower.feeds) in
    let lt : row < length (shown_lines v) = omega (arith, is.order, is.row, below, row_of-lt (shown_text v) c.args.place, lines-above v ps o.are) in
    let begins = place-at v ps o.are row at c.start_of-start.ensures.start lt in
    let bounds = line_bounds (shown_text v) row (line-lt v ps o.are row at c.start_of-start.ensures.start lt) in
    omega (arith, begins.place, bounds, o.fits, c.line_start.ensures, ap (λ (u : Source). line_start (shown_text u) at.below) o.below)

pub overflow_sub-result-2 : goal.overflow_sub-result-2
overflow_sub-result-2 g c =
    let v = c.args.self.now in
    let ps = c.self.inside.splices in
    let o = over (g.L.Layer.source c.self.inside.layer) v (map fold_of c.self.inside.folds) ps c.self.invariant c.self.view_is in
    let spot = c.spot_at-spot.result in
    let at = c.start_of-start.result in
    let is = spot-is v ps o.are c.args.place c.requires spot c.spot_at-spot.ensures.spot in
    let below = ap (λ (p : Point). p.row) c.point-below.ensures ∙ ap (λ (u : Source). row_of (shown_text u) spot.below) o.below in
    let row = spot.before.upper.feeds + (c.point-below.result.row - spot.before.lower.feeds) in
    let lt : row < length (shown_lines v) = omega (arith, is.order, is.row, below, row_of-lt (shown_text v) c.args.place, lines-above v ps o.are) in
    let begins = place-at v ps o.are row at c.start_of-start.ensures.start lt in
    let row-is : row ≡ row_of (shown_text v) c.args.place = omega (arith, is.order, is.row, below) in
    let begin : c.place-begin.result ≡ line_start (shown_text v) row =
    c.place-begin.ensures
    ∙ ap (λ (k : ℕ). at.before.upper.bytes + (k - at.before.lower.bytes)) (c.line_start.ensures ∙ ap (λ (u : Source). line_start (shown_text u) at.below) o.below)
    ∙ sym begins.place in
    (point-is (shown_text v) c.args.place row c.place-begin.result c.requires row-is begin).0

pub returns : goal.returns
returns g c =
    let v = c.args.self.now in
    let ps = c.self.inside.splices in
    let o = over (g.L.Layer.source c.self.inside.layer) v (map fold_of c.self.inside.folds) ps c.self.invariant c.self.view_is in
    let spot = c.spot_at-spot.result in
    let at = c.start_of-start.result in
    let is = spot-is v ps o.are c.args.place c.requires spot c.spot_at-spot.ensures.spot in
    let below = ap (λ (p : Point). p.row) c.point-below.ensures ∙ ap (λ (u : Source). row_of (shown_text u) spot.below) o.below in
    let row = spot.before.upper.feeds + (c.point-below.result.row - spot.before.lower.feeds) in
    let lt : row < length (shown_lines v) = omega (arith, is.order, is.row, below, row_of-lt (shown_text v) c.args.place, lines-above v ps o.are) in
    let begins = place-at v ps o.are row at c.start_of-start.ensures.start lt in
    let row-is : row ≡ row_of (shown_text v) c.args.place = omega (arith, is.order, is.row, below) in
    let begin : c.place-begin.result ≡ line_start (shown_text v) row =
    c.place-begin.ensures
    ∙ ap (λ (k : ℕ). at.before.upper.bytes + (k - at.before.lower.bytes)) (c.line_start.ensures ∙ ap (λ (u : Source). line_start (shown_text u) at.below) o.below)
    ∙ sym begins.place in
    (point-is (shown_text v) c.args.place row c.place-begin.result c.requires row-is begin).1
