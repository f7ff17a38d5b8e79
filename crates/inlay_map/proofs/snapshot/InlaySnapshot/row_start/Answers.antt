use Rattle.std.proofs.Common.{◌≡◌, ◌+◌, ◌-◌, ◌<◌, ◌≤◌, ◌^◌, ℕ, List, ap, subst, length, count_by, arith}
use Rattle.std.proofs.lemmas.List.Sums.{count_by-le-length}
use Rattle.cell_units.specs.declared.place.Bias.TheVariants.{Left}
use Rattle.cell_units.specs.BufferLines.{line_start}
use Rattle.cell_units.specs.Layers.{Source, shown_text}
use Rattle.cell_units.specs.Record.{line_count}
use Rattle.cell_units.specs.Text.{clean, is_feed}
use Rattle.cell_units.proofs.BufferLines.{line_count-is}
use Rattle.cell_units.proofs.Sources.{lines-are}
use Rattle.text_rope.specs.Finds.{IsBehindFeed}
use Rattle.inlay_map.specs.Amounts.{feeds_of}
use Rattle.inlay_map.proofs.InlaidSources.{well-formed}
use Rattle.inlay_map.proofs.SoughtSpots.{AreNumbers, IsThere, from-feeds, numbers, reach-feeds, start-inlay, start-text, text-there, there-feeds}
use Rattle.inlay_map.proofs.SourceLayers.{start-within}
use Rattle.inlay_map.proofs.snapshot.InlaySnapshot.row_start.Goals as goal
use Rattle.inlay_map.proofs.snapshot.InlaySnapshot.row_start.Goals.{After-find-spot}

-- the numbers of the spot
spot : (c : After-find-spot) → AreNumbers c.args.self.now c.find-spot.result
spot c =
    let e = c.text_len-len.ensures.lawful in
    numbers c.args.self.now e.folds e.inlays e.short feeds_of c.args.line Left c.find-spot.result c.find-spot.ensures.spot

-- the line is one of those that are shown, and starts after a feed
few : (c : After-find-spot) → c.args.line ≤ count_by is_feed (shown_text c.args.self.now)
few c =
    let e = c.text_len-len.ensures.lawful in
    omega (arith, c.requires, lines-are c.args.self.now (well-formed c.args.self.now e.text e.inlays e.folds))

from : (c : After-find-spot) → 0 < c.args.line → c.find-spot.result.before.upper.feeds < c.args.line
from c some =
    let e = c.text_len-len.ensures.lawful in
    from-feeds c.args.self.now e.folds e.inlays e.short c.args.line c.find-spot.result c.find-spot.ensures.spot some

abbrev rest : After-find-spot → ℕ
rest c = c.args.line - c.find-spot.result.before.upper.feeds

small : (c : After-find-spot) → line_start (shown_text c.args.self.now) c.args.line < 2 ^ 28
small c =
    let e = c.text_len-len.ensures.lawful in
    omega (arith, start-within c.args.self.now e.folds e.inlays e.text c.args.line c.requires, (spot c).small)

-- where it starts in the text there
in-text : (c : After-find-spot) → 0 < c.args.line → rest c ≤ c.find-spot.result.gap.feeds
    → (c.find-spot.result.before.lower.feeds + rest c < line_count c.args.self.now.text)
    × (c.find-spot.result.before.lower.bytes ≤ line_start c.args.self.now.text (c.find-spot.result.before.lower.feeds + rest c))
    × (c.find-spot.result.before.upper.bytes + (line_start c.args.self.now.text (c.find-spot.result.before.lower.feeds + rest c) - c.find-spot.result.before.lower.bytes) ≡ line_start (shown_text c.args.self.now) c.args.line)
in-text c some le =
    let e = c.text_len-len.ensures.lawful in
    start-text c.args.self.now e.folds e.inlays e.short c.args.line c.find-spot.result (spot c) (from c some) le

-- where it starts after that: the inlay
there : (c : After-find-spot) → 0 < c.args.line → c.find-spot.result.gap.feeds < rest c → IsThere c.args.self.now c.find-spot.result
there c some more =
    let e = c.text_len-len.ensures.lawful in
    there-feeds c.args.self.now e.folds e.inlays e.short c.find-spot.result (spot c) (omega (arith, more, from c some, few c))

reach : (c : After-find-spot) (some : 0 < c.args.line) (more : c.find-spot.result.gap.feeds < rest c) → rest c - c.find-spot.result.gap.feeds ≤ count_by is_feed (clean (there c some more).inlay.text)
reach c some more =
    let e = c.text_len-len.ensures.lawful in
    omega (arith, more, from c some, reach-feeds c.args.self.now e.folds e.inlays e.short c.args.line c.find-spot.result c.find-spot.ensures.spot (there c some more))

in-inlay : (c : After-find-spot) (some : 0 < c.args.line) (more : c.find-spot.result.gap.feeds < rest c) (text : List ℕ) (behind : ℕ) → text ≡ clean (there c some more).inlay.text → IsBehindFeed text (rest c - c.find-spot.result.gap.feeds) behind
    → c.find-spot.result.before.upper.bytes + c.find-spot.result.gap.bytes + behind ≡ line_start (shown_text c.args.self.now) c.args.line
in-inlay c some more text behind is f =
    let e = c.text_len-len.ensures.lawful in
    start-inlay c.args.self.now e.folds e.inlays e.short c.args.line behind c.find-spot.result (spot c) (from c some) more (there c some more)
    (subst (λ (l : List ℕ). IsBehindFeed l (rest c - c.find-spot.result.gap.feeds) behind) is f)

pub overflow_sub-rest : goal.overflow_sub-rest
overflow_sub-rest c =
    let a = (goal.at.overflow_sub-rest c).After-find-spot in
    let some : 0 < c.args.line = omega (arith, c.if-line-eq0.false) in
    omega (arith, from a some)

pub overflow_add-spot : goal.overflow_add-spot
overflow_add-spot c =
    let a = (goal.at.overflow_add-spot c).After-find-spot in
    let some : 0 < c.args.line = omega (arith, c.if-line-eq0.false) in
    let text = c.args.self.now.text in
    omega (arith, (in-text a some c.if-rest-spot.true).0, line_count-is text, count_by-le-length is_feed text, c.text_len-len.ensures.lawful.short)

pub row_start-start-requires : goal.row_start-start-requires
row_start-start-requires c =
    let a = (goal.at.row_start-start-requires c).After-find-spot in
    let some : 0 < c.args.line = omega (arith, c.if-line-eq0.false) in
    omega (arith, (in-text a some c.if-rest-spot.true).0, ap (λ (s : Source). line_count s.text) c.self.view_is)

pub overflow_sub-result : goal.overflow_sub-result
overflow_sub-result c =
    let a = (goal.at.overflow_sub-result c).After-find-spot in
    let some : 0 < c.args.line = omega (arith, c.if-line-eq0.false) in
    omega (arith, (in-text a some c.if-rest-spot.true).1, c.row_start-start.ensures, ap (λ (s : Source). line_start s.text (c.find-spot.result.before.lower.feeds + rest a)) c.self.view_is)

pub overflow_add-result : goal.overflow_add-result
overflow_add-result c =
    let a = (goal.at.overflow_add-result c).After-find-spot in
    let some : 0 < c.args.line = omega (arith, c.if-line-eq0.false) in
    omega (arith, (in-text a some c.if-rest-spot.true).2, c.row_start-start.ensures, ap (λ (s : Source). line_start s.text (c.find-spot.result.before.lower.feeds + rest a)) c.self.view_is, small a)

pub returns-then-rest-spot-clause-start : goal.returns-then-rest-spot-clause-start
returns-then-rest-spot-clause-start c =
    let a = (goal.at.returns-then-rest-spot-clause-start c).After-find-spot in
    let some : 0 < c.args.line = omega (arith, c.if-line-eq0.false) in
    omega (arith, (in-text a some c.if-rest-spot.true).2, c.row_start-start.ensures, ap (λ (s : Source). line_start s.text (c.find-spot.result.before.lower.feeds + rest a)) c.self.view_is)

pub shown-text-requires : goal.shown-text-requires
shown-text-requires c =
    let a = (goal.at.shown-text-requires c).After-find-spot in
    let some : 0 < c.args.line = omega (arith, c.if-line-eq0.false) in
    omega (arith, (there a some c.if-rest-spot.false).inside, ap (λ (s : Source). length s.inlays) c.self.view_is)

pub behind_feed-behind-requires-clause-within : goal.behind_feed-behind-requires-clause-within
behind_feed-behind-requires-clause-within c =
    let a = (goal.at.behind_feed-behind-requires-clause-within c).After-find-spot in
    let some : 0 < c.args.line = omega (arith, c.if-line-eq0.false) in
    let more = c.if-rest-spot.false in
    let t = there a some more in
    let is = text-there c.args.self.now c.self.inside.inlaid c.find-spot.result t c.shown-text.result.now c.self.view_is c.shown-text.ensures.text in
    omega (arith, reach a some more, ap (λ (l : List ℕ). count_by is_feed l) is)

pub overflow_cast-behind : goal.overflow_cast-behind
overflow_cast-behind c =
    let a = (goal.at.overflow_cast-behind c).After-find-spot in
    let some : 0 < c.args.line = omega (arith, c.if-line-eq0.false) in
    let more = c.if-rest-spot.false in
    let t = there a some more in
    let is = text-there c.args.self.now c.self.inside.inlaid c.find-spot.result t c.shown-text.result.now c.self.view_is c.shown-text.ensures.text in
    omega (arith, t.brief, ap (λ (l : List ℕ). length l) is, c.behind_feed-behind.ensures.within)

pub overflow_add-result-2 : goal.overflow_add-result-2
overflow_add-result-2 c =
    let a = (goal.at.overflow_add-result-2 c).After-find-spot in
    let some : 0 < c.args.line = omega (arith, c.if-line-eq0.false) in
    omega (arith, (spot a).shown, (spot a).small)

pub overflow_add-result-3 : goal.overflow_add-result-3
overflow_add-result-3 c =
    let a = (goal.at.overflow_add-result-3 c).After-find-spot in
    let some : 0 < c.args.line = omega (arith, c.if-line-eq0.false) in
    let more = c.if-rest-spot.false in
    let t = there a some more in
    let is = text-there c.args.self.now c.self.inside.inlaid c.find-spot.result t c.shown-text.result.now c.self.view_is c.shown-text.ensures.text in
    omega (arith, small a, in-inlay a some more c.shown-text.result.now c.behind_feed-behind.result is c.behind_feed-behind.ensures)

pub returns-clause-start : goal.returns-clause-start
returns-clause-start c =
    let a = (goal.at.returns-clause-start c).After-find-spot in
    let some : 0 < c.args.line = omega (arith, c.if-line-eq0.false) in
    let more = c.if-rest-spot.false in
    let t = there a some more in
    let is = text-there c.args.self.now c.self.inside.inlaid c.find-spot.result t c.shown-text.result.now c.self.view_is c.shown-text.ensures.text in
    in-inlay a some more c.shown-text.result.now c.behind_feed-behind.result is c.behind_feed-behind.ensures
