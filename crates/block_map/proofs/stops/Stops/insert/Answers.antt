use Rattle.std.proofs.Common.{◌≡◌, ◌+◌, ◌*◌, ◌^◌, ◌<◌, ap, ◌∙◌, length, arith}
use Rattle.std.proofs.lemmas.List.{length_push}
use Rattle.std.proofs.lemmas.Result.{on_ok_weaker}
use Rattle.splice_tree.specs.Splices.{replaced}
use Rattle.block_map.specs.inside.StopLists.{AreStopPieces, stops_from}
use Rattle.block_map.proofs.KeptSplices.{either}
use Rattle.block_map.proofs.StopEdits.{are-after, count-after, fits-after, gap-asked, gap-fits, row-behind, small-after, start-is, stops-after, with-sizes, within}
use Rattle.block_map.proofs.StopPlaces.{length-stops}
use Rattle.block_map.proofs.stops.Stops.insert.Goals as goal

pub gap_behind-gap-requires : goal.gap_behind-gap-requires
gap_behind-gap-requires c =
    let ps = c.self.inside.splices in
    let le = within ps c.args.self.now c.self.view_is c.args.at c.requires.place.within in
    let start = start-is ps c.self.invariant c.args.at c.find_at-found.result.index c.find_at-found.result.before le c.find_at-found.ensures.index c.find_at-found.ensures.before in
    gap-asked ps c.args.self.now c.self.invariant c.self.view_is c.args.at c.args.row c.requires.place c.requires.fit
    c.find_at-found.result.before.lower.rows c.find_at-found.result.index c.find_at-found.result.splice start c.find_at-found.ensures.index c.find_at-found.ensures.splice

pub returns-in_err-fresh-clause-steps : goal.returns-in_err-fresh-clause-steps
returns-in_err-fresh-clause-steps c h few =
    let few' : length c.self.inside.splices < 2 * 6 ^ (h + 1) = omega (arith, few, length-stops 0 c.self.inside.splices, ap length c.self.view_is) in
    omega (arith, c.find_at-found.ensures.steps h few')

pub overflow_sub-row : goal.overflow_sub-row
overflow_sub-row c =
    let ps = c.self.inside.splices in
    let le = within ps c.args.self.now c.self.view_is c.args.at c.requires.place.within in
    let start = start-is ps c.self.invariant c.args.at c.find_at-found.result.index c.find_at-found.result.before le c.find_at-found.ensures.index c.find_at-found.ensures.before in
    omega (arith, start, row-behind ps c.args.self.now c.self.invariant c.self.view_is c.args.at c.args.row c.requires.place)

pub splice_of-requires : goal.splice_of-requires
splice_of-requires c = omega (arith, with-sizes c.args.at c.args.row c.args.lines c.args.self.now c.requires.place c.requires.fits)

pub replace-requires-clause-within : goal.replace-requires-clause-within
replace-requires-clause-within c = within c.self.inside.splices c.args.self.now c.self.view_is c.args.at c.requires.place.within

pub replace-requires-clause-gap_fits : goal.replace-requires-clause-gap_fits
replace-requires-clause-gap_fits c =
    let ps = c.self.inside.splices in
    let le = within ps c.args.self.now c.self.view_is c.args.at c.requires.place.within in
    let start = start-is ps c.self.invariant c.args.at c.find_at-found.result.index c.find_at-found.result.before le c.find_at-found.ensures.index c.find_at-found.ensures.before in
    gap-fits ps c.args.self.now c.self.invariant c.self.view_is c.args.at c.args.row c.requires.place c.requires.fit
    c.find_at-found.result.before.lower.rows c.find_at-found.result.index c.find_at-found.result.splice start c.find_at-found.ensures.index c.find_at-found.ensures.splice
    c.gap_behind-gap.result c.gap_behind-gap.ensures

pub replace-requires-clause-fits : goal.replace-requires-clause-fits
replace-requires-clause-fits c =
    let ps = c.self.inside.splices in
    let le = within ps c.args.self.now c.self.view_is c.args.at c.requires.place.within in
    let start = start-is ps c.self.invariant c.args.at c.find_at-found.result.index c.find_at-found.result.before le c.find_at-found.ensures.index c.find_at-found.ensures.before in
    fits-after ps c.args.self.now c.self.invariant c.self.view_is c.args.at c.args.row c.requires.place c.requires.fit
    c.find_at-found.result.before.lower.rows c.find_at-found.result.index c.find_at-found.result.splice start c.find_at-found.ensures.index c.find_at-found.ensures.splice
    c.gap_behind-gap.result c.gap_behind-gap.ensures c.args.lines c.push.new.self.items c.in_ok-fresh.fresh.items c.splice_of.result c.in_ok-fresh.ensures.items c.in_ok-push.ensures.items c.splice_of.ensures c.requires.fits

pub replace-requires-clause-small : goal.replace-requires-clause-small
replace-requires-clause-small c =
    let ps = c.self.inside.splices in
    let le = within ps c.args.self.now c.self.view_is c.args.at c.requires.place.within in
    let start = start-is ps c.self.invariant c.args.at c.find_at-found.result.index c.find_at-found.result.before le c.find_at-found.ensures.index c.find_at-found.ensures.before in
    small-after ps c.args.self.now c.self.invariant c.self.view_is c.args.at c.args.row c.requires.place c.requires.fit
    c.find_at-found.result.before.lower.rows c.find_at-found.result.index c.find_at-found.result.splice start c.find_at-found.ensures.index c.find_at-found.ensures.splice
    c.gap_behind-gap.result c.gap_behind-gap.ensures c.args.lines c.push.new.self.items c.in_ok-fresh.fresh.items c.splice_of.result c.in_ok-fresh.ensures.items c.in_ok-push.ensures.items c.splice_of.ensures c.requires.fits

pub invariant_of-self : goal.invariant_of-self
invariant_of-self c =
    let ps = c.self.inside.splices in
    let le = within ps c.args.self.now c.self.view_is c.args.at c.requires.place.within in
    let start = start-is ps c.self.invariant c.args.at c.find_at-found.result.index c.find_at-found.result.before le c.find_at-found.ensures.index c.find_at-found.ensures.before in
    let are : AreStopPieces (replaced c.args.at c.args.at c.push.new.self.items c.gap_behind-gap.result ps) =
    are-after ps c.args.self.now c.self.invariant c.self.view_is c.args.at c.args.row c.requires.place c.requires.fit
    c.find_at-found.result.before.lower.rows c.find_at-found.result.index c.find_at-found.result.splice start c.find_at-found.ensures.index c.find_at-found.ensures.splice
    c.gap_behind-gap.result c.gap_behind-gap.ensures c.args.lines c.push.new.self.items c.in_ok-fresh.fresh.items c.splice_of.result c.in_ok-fresh.ensures.items c.in_ok-push.ensures.items c.splice_of.ensures in
    either c.replace.result c.replace.new.self (replaced c.args.at c.args.at c.push.new.self.items c.gap_behind-gap.result ps) ps c.replace.ensures.ok c.replace.ensures.unchanged c.self.invariant are

pub returns-clause-ok : goal.returns-clause-ok
returns-clause-ok c =
    let ps = c.self.inside.splices in
    let le = within ps c.args.self.now c.self.view_is c.args.at c.requires.place.within in
    let start = start-is ps c.self.invariant c.args.at c.find_at-found.result.index c.find_at-found.result.before le c.find_at-found.ensures.index c.find_at-found.ensures.before in
    on_ok_weaker c.replace.result
    (λ (e : c.replace.new.self ≡ replaced c.args.at c.args.at c.push.new.self.items c.gap_behind-gap.result ps).
    ap (stops_from 0) e
    ∙ stops-after ps c.args.self.now c.self.invariant c.self.view_is c.args.at c.args.row c.requires.place c.requires.fit
    c.find_at-found.result.before.lower.rows c.find_at-found.result.index c.find_at-found.result.splice start c.find_at-found.ensures.index c.find_at-found.ensures.splice
    c.gap_behind-gap.result c.gap_behind-gap.ensures c.args.lines c.push.new.self.items c.in_ok-fresh.fresh.items c.splice_of.result c.in_ok-fresh.ensures.items c.in_ok-push.ensures.items c.splice_of.ensures)
    c.replace.ensures.ok

pub returns-clause-steps : goal.returns-clause-steps
returns-clause-steps c h few =
    let ps = c.self.inside.splices in
    let le = within ps c.args.self.now c.self.view_is c.args.at c.requires.place.within in
    let start = start-is ps c.self.invariant c.args.at c.find_at-found.result.index c.find_at-found.result.before le c.find_at-found.ensures.index c.find_at-found.ensures.before in
    let size = count-after ps c.args.self.now c.self.invariant c.self.view_is c.args.at c.args.row c.requires.place c.requires.fit
    c.find_at-found.result.before.lower.rows c.find_at-found.result.index c.find_at-found.result.splice start c.find_at-found.ensures.index c.find_at-found.ensures.splice
    c.gap_behind-gap.result c.gap_behind-gap.ensures c.args.lines c.push.new.self.items c.in_ok-fresh.fresh.items c.splice_of.result c.in_ok-fresh.ensures.items c.in_ok-push.ensures.items c.splice_of.ensures in
    let one : length c.push.new.self.items ≡ 1 = omega (arith, ap length c.in_ok-push.ensures.items, length_push c.in_ok-fresh.fresh.items c.splice_of.result, ap length c.in_ok-fresh.ensures.items) in
    let few' : length ps < 2 * 6 ^ (h + 1) = omega (arith, few, length-stops 0 ps, ap length c.self.view_is) in
    let more' : length (replaced c.args.at c.args.at c.push.new.self.items c.gap_behind-gap.result ps) < 2 * 6 ^ (h + 1) = omega (arith, few, size) in
    omega (arith, c.find_at-found.ensures.steps h few', c.replace.ensures.steps h few' more', one)
