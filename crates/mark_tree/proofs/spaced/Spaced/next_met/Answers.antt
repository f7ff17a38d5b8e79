use Rattle.std.proofs.Common.{◌∙◌, ◌^◌, arith}
use Rattle.std.proofs.lemmas.Option.{slice_get_within}
use Rattle.mark_tree.specs.Entries.{placed_at}
use Rattle.mark_tree.proofs.Walking.{met-reaching, met-end, met-past, met-next, end-fits}
use Rattle.mark_tree.proofs.spaced.Spaced.next_met.Goals as goal

pub returns-in_default-clause-met : goal.returns-in_default-clause-met
returns-in_default-clause-met g c =
    met-reaching c.args.start c.args.end c.args.at c.in_ok-place.place c.args.self.now c.in_ok-place.ensures.place
    ∙ met-end c.args.start c.args.end c.in_ok-place.place c.args.self.now c.in_default.ensures.found

pub returns-then-found-end-clause-met : goal.returns-then-found-end-clause-met
returns-then-found-end-clause-met g c =
    let p = placed_at c.in-Some.found.offset c.in-Some.found.entry.now in
    met-reaching c.args.start c.args.end c.args.at c.in_ok-place.place c.args.self.now c.in_ok-place.ensures.place
    ∙ met-past c.args.start c.args.end c.in_ok-place.place c.args.self.now p c.len-count.ensures.codable.spaced c.in-Some.ensures.found (omega arith)

pub overflow_add-range : goal.overflow_add-range
overflow_add-range g c =
    let p = placed_at c.in-Some.found.offset c.in-Some.found.entry.now in
    omega (arith, end-fits (2 ^ 32) c.in_ok-place.place c.args.self.now p c.in-Some.ensures.found c.len-count.ensures.codable.ends)

pub returns-clause-met : goal.returns-clause-met
returns-clause-met g c =
    let p = placed_at c.in-Some.found.offset c.in-Some.found.entry.now in
    met-reaching c.args.start c.args.end c.args.at c.in_ok-place.place c.args.self.now c.in_ok-place.ensures.place
    ∙ met-next c.args.start c.args.end c.args.at c.in_ok-place.place c.args.self.now p c.in_ok-place.ensures.place c.in-Some.ensures.found (omega arith)

pub returns-clause-place : goal.returns-clause-place
returns-clause-place g c =
    let p = placed_at c.in-Some.found.offset c.in-Some.found.entry.now in
    (c.in_ok-place.ensures.place.from, slice_get_within c.args.self.now c.in_ok-place.place p c.in-Some.ensures.found)
