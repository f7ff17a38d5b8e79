use Rattle.std.proofs.Common.{◌≡◌, ◌+◌, ◌-◌, ◌<◌, ◌≤◌, ◌^◌, ◌∙◌, Some, ap, sym, length, arith}
use Rattle.cell_units.specs.declared.place.Bias.TheVariants.{Left}
use Rattle.cell_units.specs.declared.place.Point.{Point}
use Rattle.cell_units.specs.Layers.{Source, point_of, shown_text}
use Rattle.cell_units.specs.Text.{row_of}
use Rattle.inlay_map.specs.Amounts.{bytes_of}
use Rattle.inlay_map.proofs.SoughtSpots.{AreNumbers, from-left, numbers, row-small, row-text}
use Rattle.inlay_map.proofs.SpotPoints.{point-text}
use Rattle.inlay_map.proofs.snapshot.InlaySnapshot.point_in_text.Goals as goal
use Rattle.inlay_map.proofs.snapshot.InlaySnapshot.point_in_text.Goals.{After-find-spot}

-- the numbers of the spot
spot : (c : After-find-spot) → AreNumbers c.args.self.now c.find-spot.result
spot c =
    let e = c.text_len-len.ensures.lawful in
    numbers c.args.self.now e.folds e.inlays e.short bytes_of c.args.place Left c.find-spot.result c.find-spot.ensures.spot

from : (c : After-find-spot) → c.find-spot.result.before.upper.bytes ≤ c.args.place
from c =
    let e = c.text_len-len.ensures.lawful in
    from-left c.args.self.now e.folds e.inlays e.short c.args.place c.find-spot.result c.find-spot.ensures.spot

pub overflow_sub-rest : goal.overflow_sub-rest
overflow_sub-rest c = from (goal.at.overflow_sub-rest c).After-find-spot

-- where the place is in the text there
in-text : (c : After-find-spot) → c.args.place - c.find-spot.result.before.upper.bytes ≤ c.find-spot.result.gap.bytes
    → (c.find-spot.result.before.lower.feeds ≤ row_of c.args.self.now.text (c.find-spot.result.before.lower.bytes + (c.args.place - c.find-spot.result.before.upper.bytes)))
    × (row_of (shown_text c.args.self.now) c.args.place
    ≡ c.find-spot.result.before.upper.feeds + (row_of c.args.self.now.text (c.find-spot.result.before.lower.bytes + (c.args.place - c.find-spot.result.before.upper.bytes)) - c.find-spot.result.before.lower.feeds))
in-text c le =
    let e = c.text_len-len.ensures.lawful in
    row-text c.args.self.now e.folds e.inlays e.short c.args.place c.find-spot.result (spot c) (from c) le

small : (c : After-find-spot) → row_of (shown_text c.args.self.now) c.args.place < 2 ^ 28
small c =
    let e = c.text_len-len.ensures.lawful in
    row-small c.args.self.now e.folds e.inlays e.short c.args.place

pub overflow_add-spot : goal.overflow_add-spot
overflow_add-spot c = omega (arith, (spot (goal.at.overflow_add-spot c).After-find-spot).within, c.text_len-len.ensures.lawful.short, c.if-rest-spot.false)

pub point-point-requires : goal.point-point-requires
point-point-requires c = omega (arith, (spot (goal.at.point-point-requires c).After-find-spot).within, c.if-rest-spot.false, ap (λ (s : Source). length s.text) c.self.view_is)

pub overflow_sub-rows : goal.overflow_sub-rows
overflow_sub-rows c =
    let a = (goal.at.overflow_sub-rows c).After-find-spot in
    let o = c.find-spot.result.before.lower.bytes + (c.args.place - c.find-spot.result.before.upper.bytes) in
    omega (arith, (in-text a c.if-rest-spot.false).0, ap (λ (p : Point). p.row) c.point-point.ensures.point, ap (λ (s : Source). row_of s.text o) c.self.view_is)

pub overflow_add-result : goal.overflow_add-result
overflow_add-result c =
    let a = (goal.at.overflow_add-result c).After-find-spot in
    let o = c.find-spot.result.before.lower.bytes + (c.args.place - c.find-spot.result.before.upper.bytes) in
    omega (arith, (in-text a c.if-rest-spot.false).1, small a, ap (λ (p : Point). p.row) c.point-point.ensures.point, ap (λ (s : Source). row_of s.text o) c.self.view_is)

some-same : (x y : Point) → Some x ≡ Some y → x ≡ y
some-same x y e = cc

pub returns-clause-point : goal.returns-clause-point
returns-clause-point c x is =
    let a = (goal.at.returns-clause-point c).After-find-spot in
    let e = c.text_len-len.ensures.lawful in
    let o = c.find-spot.result.before.lower.bytes + (c.args.place - c.find-spot.result.before.upper.bytes) in
    sym (some-same _ x is)
    ∙ point-text c.args.self.now e.folds e.inlays e.short c.args.place c.find-spot.result c.point-point.result (spot a) (from a) c.requires c.if-rest-spot.false
    (c.point-point.ensures.point ∙ ap (λ (s : Source). point_of s.text o) c.self.view_is) (omega (arith, c.if-rows-eq0.false))
