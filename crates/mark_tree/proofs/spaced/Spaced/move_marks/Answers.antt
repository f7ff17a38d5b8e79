use Rattle.std.proofs.Common.{◌≡◌, ◌+◌, ◌-◌, ◌*◌, ◌<◌, ◌≤◌, ◌^◌, ◌∙◌, ap, sym, subst, take, drop, length, map, count_by, arith}
use Rattle.std.proofs.lemmas.List.{length-take}
use Rattle.cell_units.specs.Sorting.{sort_by}
use Rattle.std.specs.List.{All}
use Rattle.mark_tree.specs.Entries.{IsCodable, end_at, spliced}
use Rattle.mark_tree.specs.Order.{placed_le, has_placed_id, move_placed, moved_placed, meets_offset, IsOrdered}
use Rattle.mark_tree.proofs.Moved.{moved-spliced, run-distinct, run-fits, run-met, codable-moved, ordered-moved, length-moved, length-map, move-steps}
use Rattle.mark_tree.proofs.Sorting.{length-sort}
use Rattle.mark_tree.proofs.Splicing.{either, map-at_ok}
use Rattle.mark_tree.proofs.spaced.Spaced.move_marks.Goals as goal

pub copied-requires-clause-order : goal.copied-requires-clause-order
copied-requires-clause-order g c =
    c.places_met-met.ensures.order

pub moved_all-requires : goal.moved_all-requires
moved_all-requires g c =
    let s = c.args.shift.now in
    let old = c.args.self.now in
    let first = c.places_met-met.result.from in
    let last = c.places_met-met.result.to in
    let le : first ≤ last = c.places_met-met.ensures.order in
    record { fits = subst (λ l. All (λ p. end_at p < 2 ^ 32) (map (move_placed c.args.shift.now) l)) (sym c.in_ok-copies.ensures.copies) (run-fits s old first last le c.requires.fits) }

pub sort_placed-requires : goal.sort_placed-requires
sort_placed-requires g c id =
    let s = c.args.shift.now in
    let old = c.args.self.now in
    let first = c.places_met-met.result.from in
    let last = c.places_met-met.result.to in
    let le : first ≤ last = c.places_met-met.ensures.order in
    let made : map (move_placed s) (take (last - first) (drop first old)) ≡ c.in_ok-moved.moved.items = ap (map (move_placed s)) (sym c.in_ok-copies.ensures.copies) ∙ sym c.in_ok-moved.ensures in
    subst (λ l. count_by (has_placed_id id) l ≤ 1) made (run-distinct s old first last le c.requires.ordered id)

pub splice-requires-clause-order : goal.splice-requires-clause-order
splice-requires-clause-order g c =
    c.places_met-met.ensures.order

pub splice-requires-clause-behind : goal.splice-requires-clause-behind
splice-requires-clause-behind g c k d lt = omega (arith, c.places_met-met.ensures.behind k d lt)

pub splice-requires-clause-codable : goal.splice-requires-clause-codable
splice-requires-clause-codable g c =
    let s = c.args.shift.now in
    let old = c.args.self.now in
    let first = c.places_met-met.result.from in
    let last = c.places_met-met.result.to in
    let le : first ≤ last = c.places_met-met.ensures.order in
    let sorted : c.sort_placed.new.things.items ≡ sort_by placed_le (map (move_placed s) (take (last - first) (drop first old))) =
    c.in_ok-sort_placed.ensures.ok ∙ ap (sort_by placed_le) (c.in_ok-moved.ensures ∙ ap (map (move_placed s)) c.in_ok-copies.ensures.copies) in
    let all : spliced first last c.sort_placed.new.things.items s old ≡ moved_placed s old =
    ap (λ l. spliced first last l s old) sorted
    ∙ moved-spliced s old first last c.args.shift.now.ordered c.requires.ordered le c.places_met-met.ensures.before c.places_met-met.ensures.from c.places_met-met.ensures.upto c.places_met-met.ensures.behind in
    subst IsCodable (sym all) (codable-moved s old c.requires.fits c.len-count.ensures.codable.small)

pub returns-clause-ok : goal.returns-clause-ok
returns-clause-ok g c =
    let s = c.args.shift.now in
    let old = c.args.self.now in
    let first = c.places_met-met.result.from in
    let last = c.places_met-met.result.to in
    let le : first ≤ last = c.places_met-met.ensures.order in
    let sorted : c.sort_placed.new.things.items ≡ sort_by placed_le (map (move_placed s) (take (last - first) (drop first old))) =
    c.in_ok-sort_placed.ensures.ok ∙ ap (sort_by placed_le) (c.in_ok-moved.ensures ∙ ap (map (move_placed s)) c.in_ok-copies.ensures.copies) in
    let all : spliced first last c.sort_placed.new.things.items s old ≡ moved_placed s old =
    ap (λ l. spliced first last l s old) sorted
    ∙ moved-spliced s old first last c.args.shift.now.ordered c.requires.ordered le c.places_met-met.ensures.before c.places_met-met.ensures.from c.places_met-met.ensures.upto c.places_met-met.ensures.behind in
    map-at_ok (λ l. l) c.splice.result c.splice.new.self (spliced first last c.sort_placed.new.things.items s old) (moved_placed s old) c.splice.ensures.ok all

pub returns-clause-ordered : goal.returns-clause-ordered
returns-clause-ordered g c =
    let s = c.args.shift.now in
    let old = c.args.self.now in
    let first = c.places_met-met.result.from in
    let last = c.places_met-met.result.to in
    let le : first ≤ last = c.places_met-met.ensures.order in
    let sorted : c.sort_placed.new.things.items ≡ sort_by placed_le (map (move_placed s) (take (last - first) (drop first old))) =
    c.in_ok-sort_placed.ensures.ok ∙ ap (sort_by placed_le) (c.in_ok-moved.ensures ∙ ap (map (move_placed s)) c.in_ok-copies.ensures.copies) in
    let all : spliced first last c.sort_placed.new.things.items s old ≡ moved_placed s old =
    ap (λ l. spliced first last l s old) sorted
    ∙ moved-spliced s old first last c.args.shift.now.ordered c.requires.ordered le c.places_met-met.ensures.before c.places_met-met.ensures.from c.places_met-met.ensures.upto c.places_met-met.ensures.behind in
    either IsOrdered c.splice.result c.splice.new.self (spliced first last c.sort_placed.new.things.items s old) old c.splice.ensures.ok c.splice.ensures.unchanged
    (subst IsOrdered (sym all) (ordered-moved s old c.requires.ordered)) c.requires.ordered

pub returns-clause-steps : goal.returns-clause-steps
returns-clause-steps g c h few =
    let s = c.args.shift.now in
    let old = c.args.self.now in
    let first = c.places_met-met.result.from in
    let last = c.places_met-met.result.to in
    let le : first ≤ last = c.places_met-met.ensures.order in
    let sorted : c.sort_placed.new.things.items ≡ sort_by placed_le (map (move_placed s) (take (last - first) (drop first old))) =
    c.in_ok-sort_placed.ensures.ok ∙ ap (sort_by placed_le) (c.in_ok-moved.ensures ∙ ap (map (move_placed s)) c.in_ok-copies.ensures.copies) in
    let all : spliced first last c.sort_placed.new.things.items s old ≡ moved_placed s old =
    ap (λ l. spliced first last l s old) sorted
    ∙ moved-spliced s old first last c.args.shift.now.ordered c.requires.ordered le c.places_met-met.ensures.before c.places_met-met.ensures.from c.places_met-met.ensures.upto c.places_met-met.ensures.behind in
    let met : last - first ≤ count_by (meets_offset s) old = run-met s old first last le c.places_met-met.ensures.within c.places_met-met.ensures.from c.places_met-met.ensures.upto in
    let new : length (spliced first last c.sort_placed.new.things.items s old) < 2 * 6 ^ (h + 1) = omega (arith, few, ap length all, length-moved s old) in
    let size : length c.sort_placed.new.things.items ≤ last - first =
    omega (arith, ap length sorted, length-sort placed_le (map (move_placed s) (take (last - first) (drop first old))), length-map (move_placed s) (take (last - first) (drop first old)), length-take (last - first) (drop first old)) in
    move-steps h (last - first) (count_by (meets_offset s) old) c.args.steps.now c.places_met-met.new.steps c.copied.new.steps c.splice.new.steps met
    (c.places_met-met.ensures.steps h few) (c.in_ok-copies.ensures.steps h few) (omega (arith, c.splice.ensures.steps h few new, size))

pub returns-in_err-copies-clause-steps : goal.returns-in_err-copies-clause-steps
returns-in_err-copies-clause-steps g c h few =
    let s = c.args.shift.now in
    let old = c.args.self.now in
    let first = c.places_met-met.result.from in
    let last = c.places_met-met.result.to in
    let le : first ≤ last = c.places_met-met.ensures.order in
    let met : last - first ≤ count_by (meets_offset s) old = run-met s old first last le c.places_met-met.ensures.within c.places_met-met.ensures.from c.places_met-met.ensures.upto in
    move-steps h (last - first) (count_by (meets_offset s) old) c.args.steps.now c.places_met-met.new.steps c.copied.new.steps c.copied.new.steps met
    (c.places_met-met.ensures.steps h few) (c.copied.ensures.steps h few) (omega arith)

pub returns-in_err-moved-clause-steps : goal.returns-in_err-moved-clause-steps
returns-in_err-moved-clause-steps g c h few =
    let s = c.args.shift.now in
    let old = c.args.self.now in
    let first = c.places_met-met.result.from in
    let last = c.places_met-met.result.to in
    let le : first ≤ last = c.places_met-met.ensures.order in
    let met : last - first ≤ count_by (meets_offset s) old = run-met s old first last le c.places_met-met.ensures.within c.places_met-met.ensures.from c.places_met-met.ensures.upto in
    move-steps h (last - first) (count_by (meets_offset s) old) c.args.steps.now c.places_met-met.new.steps c.copied.new.steps c.copied.new.steps met
    (c.places_met-met.ensures.steps h few) (c.in_ok-copies.ensures.steps h few) (omega arith)

pub returns-in_err-sort_placed-clause-steps : goal.returns-in_err-sort_placed-clause-steps
returns-in_err-sort_placed-clause-steps g c h few =
    let s = c.args.shift.now in
    let old = c.args.self.now in
    let first = c.places_met-met.result.from in
    let last = c.places_met-met.result.to in
    let le : first ≤ last = c.places_met-met.ensures.order in
    let met : last - first ≤ count_by (meets_offset s) old = run-met s old first last le c.places_met-met.ensures.within c.places_met-met.ensures.from c.places_met-met.ensures.upto in
    move-steps h (last - first) (count_by (meets_offset s) old) c.args.steps.now c.places_met-met.new.steps c.copied.new.steps c.copied.new.steps met
    (c.places_met-met.ensures.steps h few) (c.in_ok-copies.ensures.steps h few) (omega arith)
