use Rattle.std.proofs.Common.{◌≡◌, ◌∙◌, ◌+◌, ◌*◌, ◌^◌, ◌<◌, ◌≤◌, ap, length, arith}
use Rattle.std.proofs.lemmas.Result.{on_ok_weaker}
use Rattle.splice_tree.specs.Splices.{replaced}
use Rattle.block_map.specs.inside.StopLists.{stops_from}
use Rattle.block_map.proofs.KeptSplices.{either}
use Rattle.block_map.proofs.StopEdits.{start-is, within}
use Rattle.block_map.proofs.StopRemovals.{are-removed, removal-asked, removal-gap_fits, removed-count, removed-fits, removed-small, stops-removed}
use Rattle.block_map.proofs.StopPlaces.{length-stops}
use Rattle.block_map.proofs.stops.Stops.remove.Goals as goal

pub gap_behind-gap-requires : goal.gap_behind-gap-requires
gap_behind-gap-requires c =
    let ps = c.self.inside.splices in
    let next : c.args.at + 1 ≤ length ps = within ps c.args.self.now c.self.view_is (c.args.at + 1) (omega (arith, c.requires.within)) in
    let start = start-is ps c.self.invariant c.args.at c.find_at-row.result.index c.find_at-row.result.before (omega (arith, next)) c.find_at-row.ensures.index c.find_at-row.ensures.before in
    let before = start-is ps c.self.invariant (c.args.at + 1) c.find_at-found.result.index c.find_at-found.result.before next c.find_at-found.ensures.index c.find_at-found.ensures.before in
    removal-asked ps c.args.self.now c.self.invariant c.self.view_is c.args.at c.requires.within c.requires.fit
    c.find_at-row.result.before.lower.rows c.find_at-found.result.before.lower.rows c.find_at-found.result.index c.find_at-found.result.splice start before c.find_at-found.ensures.index c.find_at-found.ensures.splice

pub replace-requires-clause-within : goal.replace-requires-clause-within
replace-requires-clause-within c = within c.self.inside.splices c.args.self.now c.self.view_is (c.args.at + 1) (omega (arith, c.requires.within))

pub replace-requires-clause-gap_fits : goal.replace-requires-clause-gap_fits
replace-requires-clause-gap_fits c =
    let ps = c.self.inside.splices in
    let next : c.args.at + 1 ≤ length ps = within ps c.args.self.now c.self.view_is (c.args.at + 1) (omega (arith, c.requires.within)) in
    let start = start-is ps c.self.invariant c.args.at c.find_at-row.result.index c.find_at-row.result.before (omega (arith, next)) c.find_at-row.ensures.index c.find_at-row.ensures.before in
    let before = start-is ps c.self.invariant (c.args.at + 1) c.find_at-found.result.index c.find_at-found.result.before next c.find_at-found.ensures.index c.find_at-found.ensures.before in
    removal-gap_fits ps c.args.self.now c.self.invariant c.self.view_is c.args.at c.requires.within c.requires.fit
    c.find_at-row.result.before.lower.rows c.find_at-found.result.before.lower.rows c.find_at-found.result.index c.find_at-found.result.splice start before c.find_at-found.ensures.index c.find_at-found.ensures.splice
    c.gap_behind-gap.result c.gap_behind-gap.ensures

pub replace-requires-clause-fits : goal.replace-requires-clause-fits
replace-requires-clause-fits c =
    let ps = c.self.inside.splices in
    let next : c.args.at + 1 ≤ length ps = within ps c.args.self.now c.self.view_is (c.args.at + 1) (omega (arith, c.requires.within)) in
    let start = start-is ps c.self.invariant c.args.at c.find_at-row.result.index c.find_at-row.result.before (omega (arith, next)) c.find_at-row.ensures.index c.find_at-row.ensures.before in
    let before = start-is ps c.self.invariant (c.args.at + 1) c.find_at-found.result.index c.find_at-found.result.before next c.find_at-found.ensures.index c.find_at-found.ensures.before in
    removed-fits ps c.args.self.now c.self.invariant c.self.view_is c.args.at c.requires.within c.requires.fit
    c.find_at-row.result.before.lower.rows c.find_at-found.result.before.lower.rows c.find_at-found.result.index c.find_at-found.result.splice start before c.find_at-found.ensures.index c.find_at-found.ensures.splice
    c.gap_behind-gap.result c.gap_behind-gap.ensures c.new.result.items c.new.ensures.items

pub replace-requires-clause-small : goal.replace-requires-clause-small
replace-requires-clause-small c =
    let ps = c.self.inside.splices in
    let next : c.args.at + 1 ≤ length ps = within ps c.args.self.now c.self.view_is (c.args.at + 1) (omega (arith, c.requires.within)) in
    let start = start-is ps c.self.invariant c.args.at c.find_at-row.result.index c.find_at-row.result.before (omega (arith, next)) c.find_at-row.ensures.index c.find_at-row.ensures.before in
    let before = start-is ps c.self.invariant (c.args.at + 1) c.find_at-found.result.index c.find_at-found.result.before next c.find_at-found.ensures.index c.find_at-found.ensures.before in
    removed-small ps c.args.self.now c.self.invariant c.self.view_is c.args.at c.requires.within c.requires.fit
    c.find_at-row.result.before.lower.rows c.find_at-found.result.before.lower.rows c.find_at-found.result.index c.find_at-found.result.splice start before c.find_at-found.ensures.index c.find_at-found.ensures.splice
    c.gap_behind-gap.result c.gap_behind-gap.ensures c.new.result.items c.new.ensures.items

pub invariant_of-self : goal.invariant_of-self
invariant_of-self c =
    let ps = c.self.inside.splices in
    let next : c.args.at + 1 ≤ length ps = within ps c.args.self.now c.self.view_is (c.args.at + 1) (omega (arith, c.requires.within)) in
    let start = start-is ps c.self.invariant c.args.at c.find_at-row.result.index c.find_at-row.result.before (omega (arith, next)) c.find_at-row.ensures.index c.find_at-row.ensures.before in
    let before = start-is ps c.self.invariant (c.args.at + 1) c.find_at-found.result.index c.find_at-found.result.before next c.find_at-found.ensures.index c.find_at-found.ensures.before in
    either c.replace.result c.replace.new.self (replaced c.args.at (c.args.at + 1) c.new.result.items c.gap_behind-gap.result ps) ps c.replace.ensures.ok c.replace.ensures.unchanged c.self.invariant
    (are-removed ps c.args.self.now c.self.invariant c.self.view_is c.args.at c.requires.within c.requires.fit
    c.find_at-row.result.before.lower.rows c.find_at-found.result.before.lower.rows c.find_at-found.result.index c.find_at-found.result.splice start before c.find_at-found.ensures.index c.find_at-found.ensures.splice
    c.gap_behind-gap.result c.gap_behind-gap.ensures c.new.result.items c.new.ensures.items)

pub returns-clause-ok : goal.returns-clause-ok
returns-clause-ok c =
    let ps = c.self.inside.splices in
    let next : c.args.at + 1 ≤ length ps = within ps c.args.self.now c.self.view_is (c.args.at + 1) (omega (arith, c.requires.within)) in
    let start = start-is ps c.self.invariant c.args.at c.find_at-row.result.index c.find_at-row.result.before (omega (arith, next)) c.find_at-row.ensures.index c.find_at-row.ensures.before in
    let before = start-is ps c.self.invariant (c.args.at + 1) c.find_at-found.result.index c.find_at-found.result.before next c.find_at-found.ensures.index c.find_at-found.ensures.before in
    on_ok_weaker c.replace.result
    (λ (e : c.replace.new.self ≡ replaced c.args.at (c.args.at + 1) c.new.result.items c.gap_behind-gap.result ps).
    ap (stops_from 0) e
    ∙ stops-removed ps c.args.self.now c.self.invariant c.self.view_is c.args.at c.requires.within c.requires.fit
    c.find_at-row.result.before.lower.rows c.find_at-found.result.before.lower.rows c.find_at-found.result.index c.find_at-found.result.splice start before c.find_at-found.ensures.index c.find_at-found.ensures.splice
    c.gap_behind-gap.result c.gap_behind-gap.ensures c.new.result.items c.new.ensures.items)
    c.replace.ensures.ok

pub returns-clause-steps : goal.returns-clause-steps
returns-clause-steps c h few =
    let ps = c.self.inside.splices in
    let next : c.args.at + 1 ≤ length ps = within ps c.args.self.now c.self.view_is (c.args.at + 1) (omega (arith, c.requires.within)) in
    let start = start-is ps c.self.invariant c.args.at c.find_at-row.result.index c.find_at-row.result.before (omega (arith, next)) c.find_at-row.ensures.index c.find_at-row.ensures.before in
    let before = start-is ps c.self.invariant (c.args.at + 1) c.find_at-found.result.index c.find_at-found.result.before next c.find_at-found.ensures.index c.find_at-found.ensures.before in
    let size = removed-count ps c.args.self.now c.self.invariant c.self.view_is c.args.at c.requires.within c.requires.fit
    c.find_at-row.result.before.lower.rows c.find_at-found.result.before.lower.rows c.find_at-found.result.index c.find_at-found.result.splice start before c.find_at-found.ensures.index c.find_at-found.ensures.splice
    c.gap_behind-gap.result c.gap_behind-gap.ensures c.new.result.items c.new.ensures.items in
    let none : length c.new.result.items ≡ 0 = ap length c.new.ensures.items in
    let few' : length ps < 2 * 6 ^ (h + 1) = omega (arith, few, length-stops 0 ps, ap length c.self.view_is) in
    let more' : length (replaced c.args.at (c.args.at + 1) c.new.result.items c.gap_behind-gap.result ps) < 2 * 6 ^ (h + 1) = omega (arith, few, size) in
    omega (arith, c.find_at-row.ensures.steps h few', c.find_at-found.ensures.steps h few', c.replace.ensures.steps h few' more', none)
