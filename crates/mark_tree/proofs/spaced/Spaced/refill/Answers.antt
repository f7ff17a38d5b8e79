use Rattle.std.proofs.Common.{◌∙◌, ◌+◌, ◌≤◌, ◌++◌, ◌∷◌, [], ap, sym, subst, arith}
use Rattle.mark_tree.specs.Entries.{placed_at, IsRefill}
use Rattle.mark_tree.proofs.Splicing.{refill-behind, head-drop, shifted-fits}
use Rattle.std.proofs.lemmas.Option.{slice_get_within}
use Rattle.mark_tree.proofs.spaced.Spaced.refill.Goals as goal

pub shifted-requires-clause-behind : goal.shifted-requires-clause-behind
shifted-requires-clause-behind g c =
    head-drop (λ p. c.args.shift.now.end ≤ p.offset) c.args.self.now c.args.to (placed_at c.in-Some.behind.offset c.in-Some.behind.entry.now) c.in-Some.ensures.found c.requires.behind

pub shifted-requires-clause-fits : goal.shifted-requires-clause-fits
shifted-requires-clause-fits g c =
    omega (arith, shifted-fits c.args.self.now c.args.to c.args.shift.now (placed_at c.in-Some.behind.offset c.in-Some.behind.entry.now) c.in-Some.ensures.found c.requires.codable)

pub overflow_add-result : goal.overflow_add-result
overflow_add-result g c = omega (arith, c.len-count.ensures.codable.small, slice_get_within c.args.self.now c.args.to (placed_at c.in-Some.behind.offset c.in-Some.behind.entry.now) c.in-Some.ensures.found)

pub returns-in_ok-push-in-Some-clause-refill : goal.returns-in_ok-push-in-Some-clause-refill
returns-in_ok-push-in-Some-clause-refill g c =
    let p = placed_at c.in-Some.behind.offset c.in-Some.behind.entry.now in
    let s = c.args.shift.now in
    let behind = head-drop (λ q. s.end ≤ q.offset) c.args.self.now c.args.to p c.in-Some.ensures.found c.requires.behind in
    let within = slice_get_within c.args.self.now c.args.to p c.in-Some.ensures.found in
    subst (λ l. IsRefill c.args.self.now c.args.to c.args.fresh.items s l (c.args.to + 1))
    (ap (λ q. c.args.fresh.items ++ q ∷ []) (sym c.in_ok-shifted-in-Some.ensures) ∙ sym c.in_ok-push-in-Some.ensures.items)
    (refill-behind c.args.self.now c.args.to c.args.fresh.items s p c.in-Some.ensures.found within behind)
