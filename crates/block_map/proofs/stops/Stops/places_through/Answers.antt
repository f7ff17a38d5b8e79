use Rattle.std.proofs.Common.{◌≡◌, ℕ, ◌≤◌, List, length}
use Rattle.std.specs.List.{slice_index_or}
use Rattle.std.proofs.lemmas.Option.{MatchOption-at_some}
use Rattle.mark_tree.proofs.Seeking.{match-none}
use Rattle.block_map.specs.Stops.{Stop}
use Rattle.block_map.proofs.StopRuns.{no-stop, none-through}
use Rattle.block_map.proofs.stops.Stops.places_through.Goals as goal

pub returns-in_default-clause-to : goal.returns-in_default-clause-to
returns-in_default-clause-to c k s =
    let ss : List Stop = c.args.self.now in
    let at : ℕ = c.first_behind-found.result.index in
    no-stop ss c.args.first c.args.last at c.requires c.first_behind-found.ensures.place
    (match-none c.first_behind-found.result.row (length ss ≤ at) (λ r. (slice_index_or ss at s).row ≡ r) c.in_default.not-Some (c.first_behind-found.ensures.row s)) k s

pub returns-then-row-last-clause-to : goal.returns-then-row-last-clause-to
returns-then-row-last-clause-to c =
    let ss : List Stop = c.args.self.now in
    let at : ℕ = c.first_behind-found.result.index in
    none-through ss c.args.first c.args.last at c.requires c.first_behind-found.ensures.place c.len-count.ensures.rising c.in-Some.row
    (λ d. MatchOption-at_some (length ss ≤ at) (λ r. (slice_index_or ss at d).row ≡ r) c.in-Some.row c.in-Some.is (c.first_behind-found.ensures.row d)) c.if-row-last.true
