use Rattle.std.proofs.Common.{◌≡◌, ◌≤◌, length, arith}
use Rattle.std.specs.List.{slice_index_or}
use Rattle.std.proofs.lemmas.Option.{MatchOption-at_some}
use Rattle.mark_tree.proofs.Moved.{below-above}
use Rattle.mark_tree.proofs.Seeking.{behind-here, match-none, none-behind}
use Rattle.mark_tree.proofs.spaced.Spaced.places_between.Goals as goal

pub returns-in_default-clause-behind : goal.returns-in_default-clause-behind
returns-in_default-clause-behind g c k d =
    let ps = c.args.self.now in
    let at = c.next_at-first.result.place in
    none-behind c.args.end ps at
    (match-none c.next_at-first.result.offset (length ps ≤ at) (λ o. (slice_index_or ps at d).offset ≡ o) c.in_default.not-Some (c.next_at-first.ensures.offset d)) k d

pub returns-then-end-offset-clause-behind : goal.returns-then-end-offset-clause-behind
returns-then-end-offset-clause-behind g c =
    let ps = c.args.self.now in
    let at = c.next_at-first.result.place in
    behind-here c.args.end ps at c.in-Some.offset c.len-count.ensures.codable.spaced
    (λ d. MatchOption-at_some (length ps ≤ at) (λ o. (slice_index_or ps at d).offset ≡ o) c.in-Some.offset c.in-Some.is (c.next_at-first.ensures.offset d))
    (omega arith)

pub returns-clause-order : goal.returns-clause-order
returns-clause-order g c =
    below-above c.args.start c.args.end c.args.self.now c.next_at-first.result.place c.first_at-to.result c.requires c.next_at-first.ensures.within c.next_at-first.ensures.before
    c.first_at-to.ensures.from
