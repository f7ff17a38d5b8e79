use Rattle.std.proofs.Common.{◌≡◌, ◌+◌, ◌-◌, ◌<◌, ◌≤◌, ◌^◌, ◌∙◌, ℕ, List, ap, sym, length, take, count_by, arith}
use Rattle.std.proofs.lemmas.List.{length-take-le}
use Rattle.cell_units.specs.declared.place.Bias.TheVariants.{Left}
use Rattle.cell_units.specs.BufferLines.{line_start}
use Rattle.cell_units.specs.Layers.{Source, shown_text}
use Rattle.cell_units.specs.Text.{clean, is_feed, row_of}
use Rattle.cell_units.proofs.PlainLayers.{line_of_offset}
use Rattle.cell_units.proofs.Sources.{row-lt}
use Rattle.inlay_map.specs.Amounts.{bytes_of}
use Rattle.inlay_map.specs.Spots.{IsRowAt}
use Rattle.inlay_map.proofs.InlaidSources.{well-formed}
use Rattle.inlay_map.proofs.SoughtSpots.{AreNumbers, IsThere, from-left, numbers, reach-left, row-inlay, row-small, row-text, text-there, there-bytes}
use Rattle.inlay_map.proofs.snapshot.InlaySnapshot.row_at.Goals as goal
use Rattle.inlay_map.proofs.snapshot.InlaySnapshot.row_at.Goals.{After-find-spot}

-- the numbers of the spot
spot : (c : After-find-spot) → AreNumbers c.args.self.now c.find-spot.result
spot c =
    let e = c.text_len-len.ensures.lawful in
    numbers c.args.self.now e.folds e.inlays e.short bytes_of c.args.place Left c.find-spot.result c.find-spot.ensures.spot

from : (c : After-find-spot) → c.find-spot.result.before.upper.bytes ≤ c.args.place
from c =
    let e = c.text_len-len.ensures.lawful in
    from-left c.args.self.now e.folds e.inlays e.short c.args.place c.find-spot.result c.find-spot.ensures.spot

small : (c : After-find-spot) → row_of (shown_text c.args.self.now) c.args.place < 2 ^ 28
small c =
    let e = c.text_len-len.ensures.lawful in
    row-small c.args.self.now e.folds e.inlays e.short c.args.place

abbrev rest : After-find-spot → ℕ
rest c = c.args.place - c.find-spot.result.before.upper.bytes

-- where the place is in the text there
in-text : (c : After-find-spot) → rest c ≤ c.find-spot.result.gap.bytes
    → (c.find-spot.result.before.lower.feeds ≤ row_of c.args.self.now.text (c.find-spot.result.before.lower.bytes + rest c))
    × (row_of (shown_text c.args.self.now) c.args.place ≡ c.find-spot.result.before.upper.feeds + (row_of c.args.self.now.text (c.find-spot.result.before.lower.bytes + rest c) - c.find-spot.result.before.lower.feeds))
in-text c le =
    let e = c.text_len-len.ensures.lawful in
    row-text c.args.self.now e.folds e.inlays e.short c.args.place c.find-spot.result (spot c) (from c) le

-- where it is after that: the inlay, and how far the place is in it
there : (c : After-find-spot) → c.find-spot.result.gap.bytes < rest c → IsThere c.args.self.now c.find-spot.result
there c more =
    let e = c.text_len-len.ensures.lawful in
    there-bytes c.args.self.now e.folds e.inlays e.short c.find-spot.result (spot c) (omega (arith, more, c.requires))

reach : (c : After-find-spot) (more : c.find-spot.result.gap.bytes < rest c) → rest c - c.find-spot.result.gap.bytes ≤ length (clean (there c more).inlay.text)
reach c more =
    let e = c.text_len-len.ensures.lawful in
    let t = there c more in
    omega (arith, more, reach-left c.args.self.now e.folds e.inlays e.short c.args.place c.find-spot.result c.find-spot.ensures.spot t)

in-inlay : (c : After-find-spot) (more : c.find-spot.result.gap.bytes < rest c)
    → row_of (shown_text c.args.self.now) c.args.place
    ≡ c.find-spot.result.before.upper.feeds + c.find-spot.result.gap.feeds + count_by is_feed (take (rest c - c.find-spot.result.gap.bytes) (clean (there c more).inlay.text))
in-inlay c more =
    let e = c.text_len-len.ensures.lawful in
    row-inlay c.args.self.now e.folds e.inlays e.short c.args.place c.find-spot.result (spot c) (from c) more (there c more) (reach c more)

at-row : (c : After-find-spot) (line : ℕ) → line ≡ row_of (shown_text c.args.self.now) c.args.place → IsRowAt c.args.self.now c.args.place line
at-row c line is =
    let e = c.text_len-len.ensures.lawful in
    let shown = shown_text c.args.self.now in
    record {
      row = is;
      there = omega (arith, is, row-lt c.args.self.now (well-formed c.args.self.now e.text e.inlays e.folds) c.args.place);
      start = omega (arith, ap (line_start shown) is, (line_of_offset shown c.args.place c.requires).0);
    }

pub overflow_sub-rest : goal.overflow_sub-rest
overflow_sub-rest c = from (goal.at.overflow_sub-rest c).After-find-spot

pub overflow_add-offset : goal.overflow_add-offset
overflow_add-offset c = omega (arith, (spot (goal.at.overflow_add-offset c).After-find-spot).within, c.text_len-len.ensures.lawful.short, c.if-rest-spot.true)

pub row-row-requires : goal.row-row-requires
row-row-requires c = omega (arith, (spot (goal.at.row-row-requires c).After-find-spot).within, c.if-rest-spot.true, ap (λ (s : Source). length s.text) c.self.view_is)

pub overflow_sub-result : goal.overflow_sub-result
overflow_sub-result c =
    let a = (goal.at.overflow_sub-result c).After-find-spot in
    omega (arith, (in-text a c.if-rest-spot.true).0, c.row-row.ensures.row, ap (λ (s : Source). row_of s.text (c.find-spot.result.before.lower.bytes + rest a)) c.self.view_is)

pub overflow_add-result : goal.overflow_add-result
overflow_add-result c =
    let a = (goal.at.overflow_add-result c).After-find-spot in
    omega (arith, (in-text a c.if-rest-spot.true).1, small a, c.row-row.ensures.row, ap (λ (s : Source). row_of s.text (c.find-spot.result.before.lower.bytes + rest a)) c.self.view_is)

pub returns-then-rest-spot-clause-row : goal.returns-then-rest-spot-clause-row
returns-then-rest-spot-clause-row c =
    let a = (goal.at.returns-then-rest-spot-clause-row c).After-find-spot in
    at-row a _ (omega (arith, (in-text a c.if-rest-spot.true).1, c.row-row.ensures.row, ap (λ (s : Source). row_of s.text (c.find-spot.result.before.lower.bytes + rest a)) c.self.view_is))

pub shown-text-requires : goal.shown-text-requires
shown-text-requires c =
    let a = (goal.at.shown-text-requires c).After-find-spot in
    omega (arith, (there a c.if-rest-spot.false).inside, ap (λ (s : Source). length s.inlays) c.self.view_is)

pub slice_bounds-front-end : goal.slice_bounds-front-end
slice_bounds-front-end c =
    let a = (goal.at.slice_bounds-front-end c).After-find-spot in
    let t = there a c.if-rest-spot.false in
    let is = text-there c.args.self.now c.self.inside.inlaid c.find-spot.result t c.shown-text.result.now c.self.view_is c.shown-text.ensures.text in
    sym (length-take-le (rest a - c.find-spot.result.gap.bytes) c.as_bytes.result.now (omega (arith, reach a c.if-rest-spot.false, ap (λ (l : List ℕ). length l) (c.as_bytes.ensures.value ∙ is))))

pub overflow_add-result-2 : goal.overflow_add-result-2
overflow_add-result-2 c =
    let n = spot (goal.at.overflow_add-result-2 c).After-find-spot in
    omega (arith, n.feeds, n.few, n.small)

pub overflow_add-result-3 : goal.overflow_add-result-3
overflow_add-result-3 c =
    let a = (goal.at.overflow_add-result-3 c).After-find-spot in
    let more = c.if-rest-spot.false in
    let t = there a more in
    let is = text-there c.args.self.now c.self.inside.inlaid c.find-spot.result t c.shown-text.result.now c.self.view_is c.shown-text.ensures.text in
    let front = ap (λ (l : List ℕ). count_by is_feed (take (rest a - c.find-spot.result.gap.bytes) l)) (c.as_bytes.ensures.value ∙ is) in
    omega (arith, in-inlay a more, small a, c.feeds_in.ensures, front)

pub returns-clause-row : goal.returns-clause-row
returns-clause-row c =
    let a = (goal.at.returns-clause-row c).After-find-spot in
    let more = c.if-rest-spot.false in
    let t = there a more in
    let is = text-there c.args.self.now c.self.inside.inlaid c.find-spot.result t c.shown-text.result.now c.self.view_is c.shown-text.ensures.text in
    let front = ap (λ (l : List ℕ). count_by is_feed (take (rest a - c.find-spot.result.gap.bytes) l)) (c.as_bytes.ensures.value ∙ is) in
    at-row a _ (omega (arith, in-inlay a more, c.feeds_in.ensures, front))
