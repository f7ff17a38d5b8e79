use Rattle.std.proofs.Common.{◌≡◌, ◌+◌, ◌*◌, ◌^◌, ◌≤◌, ◌<◌, ◌++◌, length, map, take, drop, ap, arith}
use Rattle.mark_tree.specs.Extents.{end_of}
use Rattle.mark_tree.specs.Entries.{placed_from, shifted, spliced, extent_over, end_at}
use Rattle.mark_tree.proofs.Coding.{length-placed, length-coded, items-over}
use Rattle.mark_tree.proofs.Splicing.{refill-spaced, splice-stands, kept-fits, kept-small, either, map-at_ok, all-right}
use Rattle.mark_tree.proofs.spaced.Spaced.splice.Goals as goal

pub refill-requires-clause-codable : goal.refill-requires-clause-codable
refill-requires-clause-codable g c =
    let rest = map (shifted c.args.shift.now) (drop c.args.to c.args.self.now) in
    all-right (λ p. end_at p < 2 ^ 32) c.args.fresh.items rest (all-right (λ p. end_at p < 2 ^ 32) (take c.args.from c.args.self.now) (c.args.fresh.items ++ rest) c.requires.codable.ends)

pub code_gaps-requires : goal.code_gaps-requires
code_gaps-requires g c =
    refill-spaced c.args.self.now c.args.from c.args.to c.args.fresh.items c.args.shift.now c.in_ok-refill.refill.placed.items c.in_ok-refill.refill.end c.base_of-base.result
    c.base_of-base.ensures.offset c.in_ok-refill.ensures.refill c.requires.codable.spaced

pub replace-requires-clause-order : goal.replace-requires-clause-order
replace-requires-clause-order g c = omega (arith, c.requires.order, c.in_ok-refill.ensures.refill.order)

pub replace-requires-clause-within : goal.replace-requires-clause-within
replace-requires-clause-within g c = omega (arith, c.in_ok-refill.ensures.refill.within, length-placed 0 c.self.inside.entries, ap length c.self.view_is)

pub replace-requires-clause-fits : goal.replace-requires-clause-fits
replace-requires-clause-fits g c =
    let es = c.self.inside.entries in
    let made = take c.args.from es ++ c.in_ok-entries.entries.items ++ drop c.in_ok-refill.refill.end es in
    let all = spliced c.args.from c.args.to c.args.fresh.items c.args.shift.now c.args.self.now in
    let stands : placed_from 0 made ≡ all = splice-stands es c.args.self.now c.args.from c.args.to c.args.fresh.items c.args.shift.now c.in_ok-refill.refill.placed.items c.in_ok-refill.refill.end c.base_of-base.result
    c.self.view_is c.base_of-base.ensures.offset c.args.shift.now.ordered c.in_ok-refill.ensures.refill c.requires.codable.spaced c.in_ok-entries.entries.items c.in_ok-entries.ensures in
    (omega (arith, items-over made, kept-small made all stands c.requires.codable), kept-fits made all stands c.requires.codable)

pub replace-requires-clause-small : goal.replace-requires-clause-small
replace-requires-clause-small g c =
    let es = c.self.inside.entries in
    let made = take c.args.from es ++ c.in_ok-entries.entries.items ++ drop c.in_ok-refill.refill.end es in
    let all = spliced c.args.from c.args.to c.args.fresh.items c.args.shift.now c.args.self.now in
    let stands : placed_from 0 made ≡ all = splice-stands es c.args.self.now c.args.from c.args.to c.args.fresh.items c.args.shift.now c.in_ok-refill.refill.placed.items c.in_ok-refill.refill.end c.base_of-base.result
    c.self.view_is c.base_of-base.ensures.offset c.args.shift.now.ordered c.in_ok-refill.ensures.refill c.requires.codable.spaced c.in_ok-entries.entries.items c.in_ok-entries.ensures in
    kept-small made all stands c.requires.codable

pub invariant_of-self : goal.invariant_of-self
invariant_of-self g c =
    let es = c.self.inside.entries in
    let made = take c.args.from es ++ c.in_ok-entries.entries.items ++ drop c.in_ok-refill.refill.end es in
    let all = spliced c.args.from c.args.to c.args.fresh.items c.args.shift.now c.args.self.now in
    let stands : placed_from 0 made ≡ all = splice-stands es c.args.self.now c.args.from c.args.to c.args.fresh.items c.args.shift.now c.in_ok-refill.refill.placed.items c.in_ok-refill.refill.end c.base_of-base.result
    c.self.view_is c.base_of-base.ensures.offset c.args.shift.now.ordered c.in_ok-refill.ensures.refill c.requires.codable.spaced c.in_ok-entries.entries.items c.in_ok-entries.ensures in
    either (λ l. end_of (extent_over l) < 2 ^ 32) c.replace.result c.replace.new.self made es c.replace.ensures.ok c.replace.ensures.unchanged (kept-fits made all stands c.requires.codable) c.self.invariant

pub returns-clause-ok : goal.returns-clause-ok
returns-clause-ok g c =
    let es = c.self.inside.entries in
    let made = take c.args.from es ++ c.in_ok-entries.entries.items ++ drop c.in_ok-refill.refill.end es in
    let all = spliced c.args.from c.args.to c.args.fresh.items c.args.shift.now c.args.self.now in
    let stands : placed_from 0 made ≡ all = splice-stands es c.args.self.now c.args.from c.args.to c.args.fresh.items c.args.shift.now c.in_ok-refill.refill.placed.items c.in_ok-refill.refill.end c.base_of-base.result
    c.self.view_is c.base_of-base.ensures.offset c.args.shift.now.ordered c.in_ok-refill.ensures.refill c.requires.codable.spaced c.in_ok-entries.entries.items c.in_ok-entries.ensures in
    map-at_ok (placed_from 0) c.replace.result c.replace.new.self made all c.replace.ensures.ok stands

pub returns-clause-steps : goal.returns-clause-steps
returns-clause-steps g c h few few' =
    let es = c.self.inside.entries in
    let made = take c.args.from es ++ c.in_ok-entries.entries.items ++ drop c.in_ok-refill.refill.end es in
    let all = spliced c.args.from c.args.to c.args.fresh.items c.args.shift.now c.args.self.now in
    let stands : placed_from 0 made ≡ all = splice-stands es c.args.self.now c.args.from c.args.to c.args.fresh.items c.args.shift.now c.in_ok-refill.refill.placed.items c.in_ok-refill.refill.end c.base_of-base.result
    c.self.view_is c.base_of-base.ensures.offset c.args.shift.now.ordered c.in_ok-refill.ensures.refill c.requires.codable.spaced c.in_ok-entries.entries.items c.in_ok-entries.ensures in
    let old : length es < 2 * 6 ^ (h + 1) = omega (arith, few, length-placed 0 es, ap length c.self.view_is) in
    let new : length made < 2 * 6 ^ (h + 1) = omega (arith, few', length-placed 0 made, ap length stands) in
    let coded : length c.in_ok-entries.entries.items ≤ length c.args.fresh.items + 1 = omega (arith, ap length c.in_ok-entries.ensures, length-coded c.base_of-base.result c.in_ok-refill.refill.placed.items, c.in_ok-refill.ensures.refill.few) in
    omega (arith, c.replace.ensures.steps h old new, c.in_ok-refill.ensures.steps h few, c.base_of-base.ensures.steps h few)
