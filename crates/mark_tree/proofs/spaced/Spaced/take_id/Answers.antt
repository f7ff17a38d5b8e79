use Rattle.std.proofs.Common.{◌≡◌, ℕ, ◌==◌, true, ◌∙◌, length, sym, subst, arith}
use Rattle.mark_tree.specs.Order.{has_placed_id}
use Rattle.std.proofs.lemmas.Option.{get_or_from_slice_get}
use Rattle.std.proofs.lemmas.Bool.Decides.{nat_tests}
use Rattle.mark_tree.proofs.Finding.{position-some}
use Rattle.mark_tree.proofs.Changing.{filter-one, take-steps}
use Rattle.mark_tree.proofs.spaced.Spaced.take_id.Goals as goal

same_id : (m n : ℕ) → (m == n) ≡ true → m ≡ n
same_id m n e = grind (arith, nat_tests)

pub take_at-requires-clause-within : goal.take_at-requires-clause-within
take_at-requires-clause-within g c = (position-some (has_placed_id c.args.id) c.args.self.now c.in-Some.place (sym c.find_id.ensures.found ∙ c.in-Some.is)).0

pub returns-clause-ok : goal.returns-clause-ok
returns-clause-ok g c =
    let p = has_placed_id c.args.id in
    let found = position-some p c.args.self.now c.in-Some.place (sym c.find_id.ensures.found ∙ c.in-Some.is) in
    c.in_ok-thing.ensures.ok ∙ sym (filter-one p c.args.self.now c.in-Some.place found.0 found.1 (c.requires.ordered.distinct c.args.id))

pub returns-clause-id : goal.returns-clause-id
returns-clause-id g c =
    let found = position-some (has_placed_id c.args.id) c.args.self.now c.in-Some.place (sym c.find_id.ensures.found ∙ c.in-Some.is) in
    let taken = c.in_ok-thing.thing in
    let there = get_or_from_slice_get c.args.self.now c.in-Some.place taken taken c.in_ok-thing.ensures.thing in
    same_id taken.id c.args.id (subst (λ p. has_placed_id c.args.id p ≡ true) there (found.1 taken))

pub returns-clause-steps : goal.returns-clause-steps
returns-clause-steps g c h few =
    take-steps h (length c.args.self.now) c.args.steps.now c.find_id.new.steps c.take_at.new.steps c.find_id.ensures.steps (c.in_ok-thing.ensures.steps h few)
