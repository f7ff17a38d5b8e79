use Rattle.std.proofs.Common.{◌≡◌, ◌+◌, ◌-◌, ◌<◌, ◌≤◌, ◌∙◌, ℕ, List, ap, sym, subst, length, take, drop, arith}
use Rattle.std.specs.Str.{IsCharBoundary}
use Rattle.cell_units.specs.declared.place.Bias.TheVariants.{Right}
use Rattle.cell_units.specs.Layers.{Source, shown_text}
use Rattle.cell_units.specs.Text.{IsBoundary, clean}
use Rattle.inlay_map.specs.Amounts.{bytes_of}
use Rattle.inlay_map.proofs.PiecesFound.{inlay-next, stop-boundary, text-next, to-boundary}
use Rattle.inlay_map.proofs.ShownBoundaries.{inlay-boundary, text-boundary}
use Rattle.inlay_map.proofs.SoughtSpots.{AreNumbers, IsThere, from-right, id-there, numbers, reach-right, text-there, there-bytes}
use Rattle.inlay_map.proofs.snapshot.InlaySnapshot.piece_at.Goals as goal
use Rattle.inlay_map.proofs.snapshot.InlaySnapshot.piece_at.Goals.{After-find-spot}

-- the numbers of the spot
spot : (c : After-find-spot) → AreNumbers c.args.self.now c.find-spot.result
spot c =
    let e = c.text_len-len.ensures.lawful in
    numbers c.args.self.now e.folds e.inlays e.short bytes_of c.args.place Right c.find-spot.result c.find-spot.ensures.spot

from : (c : After-find-spot) → c.find-spot.result.before.upper.bytes ≤ c.args.place
from c =
    let e = c.text_len-len.ensures.lawful in
    from-right c.args.self.now e.folds e.inlays e.short c.args.place c.find-spot.result c.find-spot.ensures.spot

abbrev rest : After-find-spot → ℕ
rest c = c.args.place - c.find-spot.result.before.upper.bytes

-- the inlay, where the place is after the text there
there : (c : After-find-spot) → c.find-spot.result.gap.bytes ≤ rest c → IsThere c.args.self.now c.find-spot.result
there c past =
    let e = c.text_len-len.ensures.lawful in
    there-bytes c.args.self.now e.folds e.inlays e.short c.find-spot.result (spot c) (omega (arith, past, from c, c.requires.order, c.requires.end.0))

reach : (c : After-find-spot) (past : c.find-spot.result.gap.bytes ≤ rest c) → rest c - c.find-spot.result.gap.bytes < length (clean (there c past).inlay.text)
reach c past =
    let e = c.text_len-len.ensures.lawful in
    omega (arith, past, from c, reach-right c.args.self.now e.folds e.inlays e.short c.args.place c.find-spot.result c.find-spot.ensures.spot (there c past))

pub overflow_add-offset : goal.overflow_add-offset
overflow_add-offset c = omega (arith, (spot (goal.at.overflow_add-offset c).After-find-spot).within, c.text_len-len.ensures.lawful.short)

pub overflow_add-start : goal.overflow_add-start
overflow_add-start c = omega (arith, (spot (goal.at.overflow_add-start c).After-find-spot).within, c.text_len-len.ensures.lawful.short, c.if-rest-spot.true)

pub overflow_add-start-then-rest-spot : goal.overflow_add-start-then-rest-spot
overflow_add-start-then-rest-spot c =
    let n = spot (goal.at.overflow_add-start-then-rest-spot c).After-find-spot in
    omega (arith, n.within, n.small, c.text_len-len.ensures.lawful.short, c.if-rest-spot.true, c.requires.end.0)

pub slice-requires-clause-start : goal.slice-requires-clause-start
slice-requires-clause-start c =
    let a = (goal.at.slice-requires-clause-start c).After-find-spot in
    let v = c.args.self.now in
    let e = c.text_len-len.ensures.lawful in
    let here : c.args.place ≡ c.find-spot.result.before.upper.bytes + rest a = omega (arith, from a) in
    subst (λ (s : Source). IsBoundary s.text (c.find-spot.result.before.lower.bytes + rest a)) (sym c.self.view_is)
    (text-boundary v e.folds e.inlays e.short e.text c.find-spot.result (spot a) (rest a) (omega (arith, c.if-rest-spot.true)) (subst (IsBoundary (shown_text v)) here c.requires.start))

pub slice-requires-clause-end : goal.slice-requires-clause-end
slice-requires-clause-end c =
    let a = (goal.at.slice-requires-clause-end c).After-find-spot in
    let v = c.args.self.now in
    let e = c.text_len-len.ensures.lawful in
    subst (λ (s : Source). IsBoundary s.text c.min-stop.result) (sym c.self.view_is)
    (stop-boundary v e.folds e.inlays e.short e.text c.args.place c.args.end c.min-stop.result c.find-spot.result (spot a) (from a) c.if-rest-spot.true c.requires.order c.requires.end (omega (arith, c.min-stop.ensures)))

pub shown_with_id-id-requires : goal.shown_with_id-id-requires
shown_with_id-id-requires c =
    let a = (goal.at.shown_with_id-id-requires c).After-find-spot in
    omega (arith, (there a c.if-rest-spot.false).inside, ap (λ (s : Source). length s.inlays) c.self.view_is)

pub range-requires-clause-start_le_end : goal.range-requires-clause-start_le_end
range-requires-clause-start_le_end c =
    let a = (goal.at.range-requires-clause-start_le_end c).After-find-spot in
    let t = there a c.if-rest-spot.false in
    let is = text-there c.args.self.now c.self.inside.inlaid c.find-spot.result t c.shown_with_id-id.result.1.now c.self.view_is c.shown_with_id-id.ensures.text in
    let long = ap (λ (l : List ℕ). length l) is in
    let r = reach a c.if-rest-spot.false in
    omega (arith, long, r)

pub range-requires-clause-start_boundary : goal.range-requires-clause-start_boundary
range-requires-clause-start_boundary c =
    let a = (goal.at.range-requires-clause-start_boundary c).After-find-spot in
    let past = c.if-rest-spot.false in
    let v = c.args.self.now in
    let e = c.text_len-len.ensures.lawful in
    let t = there a past in
    let is = text-there v c.self.inside.inlaid c.find-spot.result t c.shown_with_id-id.result.1.now c.self.view_is c.shown_with_id-id.ensures.text in
    let r = rest a - c.find-spot.result.gap.bytes in
    let reaches : r ≤ length (clean t.inlay.text) = omega (arith, reach a past) in
    let here : c.args.place ≡ c.find-spot.result.before.upper.bytes + c.find-spot.result.gap.bytes + r = omega (arith, from a, past) in
    λ some. subst (λ (l : List ℕ). IsCharBoundary l r) (sym is)
    (inlay-boundary v e.folds e.inlays e.short e.text c.find-spot.result (spot a) t r reaches (subst (IsBoundary (shown_text v)) here c.requires.start))

pub range-requires-clause-end_boundary : goal.range-requires-clause-end_boundary
range-requires-clause-end_boundary c =
    let a = (goal.at.range-requires-clause-end_boundary c).After-find-spot in
    let past = c.if-rest-spot.false in
    let v = c.args.self.now in
    let e = c.text_len-len.ensures.lawful in
    let t = there a past in
    let is = text-there v c.self.inside.inlaid c.find-spot.result t c.shown_with_id-id.result.1.now c.self.view_is c.shown_with_id-id.ensures.text in
    let long = ap (λ (l : List ℕ). length l) is in
    subst (λ (l : List ℕ). IsCharBoundary l c.min-to.result) (sym is)
    (to-boundary v e.folds e.inlays e.short e.text c.args.place c.args.end c.min-to.result c.find-spot.result t (spot a) (from a) past (reach a past) c.requires.order c.requires.end (omega (arith, long, c.min-to.ensures)))

pub returns-then-rest-spot-clause-next : goal.returns-then-rest-spot-clause-next
returns-then-rest-spot-clause-next c =
    let a = (goal.at.returns-then-rest-spot-clause-next c).After-find-spot in
    let v = c.args.self.now in
    let e = c.text_len-len.ensures.lawful in
    let start = c.find-spot.result.before.lower.bytes + rest a in
    let bytes = c.in_ok-slice.ensures.text ∙ ap (λ (s : Source). take (c.min-stop.result - start) (drop start s.text)) c.self.view_is in
    text-next v e.folds e.inlays e.short e.text c.args.place c.args.end c.min-stop.result c.find-spot.result _ (spot a) (from a) c.if-rest-spot.true c.requires.order c.requires.end (omega (arith, c.min-stop.ensures)) bytes

pub returns-clause-next : goal.returns-clause-next
returns-clause-next c =
    let a = (goal.at.returns-clause-next c).After-find-spot in
    let past = c.if-rest-spot.false in
    let v = c.args.self.now in
    let e = c.text_len-len.ensures.lawful in
    let t = there a past in
    let is = text-there v c.self.inside.inlaid c.find-spot.result t c.shown_with_id-id.result.1.now c.self.view_is c.shown_with_id-id.ensures.text in
    let long = ap (λ (l : List ℕ). length l) is in
    let r = rest a - c.find-spot.result.gap.bytes in
    let bytes = c.in_ok-from_str.ensures ∙ c.range.ensures.value ∙ ap (λ (l : List ℕ). take (c.min-to.result - r) (drop r l)) is in
    let own = id-there v c.self.inside.inlaid c.find-spot.result t c.shown_with_id-id.result.0 c.self.view_is c.shown_with_id-id.ensures.id in
    inlay-next v e.folds e.inlays e.short e.text c.args.place c.args.end c.min-to.result c.shown_with_id-id.result.0 c.find-spot.result _ t own (spot a) (from a) past (reach a past) c.requires.order c.requires.end (omega (arith, long, c.min-to.ensures)) bytes
