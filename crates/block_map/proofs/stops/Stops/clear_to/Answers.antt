use Rattle.std.proofs.Common.{◌≡◌, ℕ, ◌≤◌, List, [], length, arith}
use Rattle.std.specs.List.{slice_index_or}
use Rattle.std.proofs.lemmas.Option.{MatchOption-at_none, MatchOption-at_some}
use Rattle.block_map.specs.Stops.{Stop}
use Rattle.block_map.specs.inside.StopLists.{stop_with}
use Rattle.block_map.proofs.ClearRows.{clear-end, clear-next, next-behind}
use Rattle.block_map.proofs.stops.Stops.clear_to.Goals as goal

pub returns-in-None-clause-clear : goal.returns-in-None-clause-clear
returns-in-None-clause-clear c t lt few =
    let ss : List Stop = c.args.self.now in
    let at : ℕ = c.first_behind.result.index in
    let d = stop_with 0 [] in
    clear-end ss c.args.row at c.first_behind.ensures.place
    (MatchOption-at_none (length ss ≤ at) (λ r. (slice_index_or ss at d).row ≡ r) c.in-None.is (c.first_behind.ensures.row d)) t lt

pub returns-in-Some-clause-some : goal.returns-in-Some-clause-some
returns-in-Some-clause-some c =
    let ss : List Stop = c.args.self.now in
    let at : ℕ = c.first_behind.result.index in
    omega (
      arith,
      c.min.ensures,
      c.requires,
      next-behind ss c.args.row at c.first_behind.ensures.place c.in-Some.next
          (λ d. MatchOption-at_some (length ss ≤ at) (λ r. (slice_index_or ss at d).row ≡ r) c.in-Some.next c.in-Some.is (c.first_behind.ensures.row d)),
    )

pub returns-in-Some-clause-clear : goal.returns-in-Some-clause-clear
returns-in-Some-clause-clear c t lt few =
    let ss : List Stop = c.args.self.now in
    let at : ℕ = c.first_behind.result.index in
    clear-next ss c.args.row at c.first_behind.ensures.place c.in-Some.next
    (λ d. MatchOption-at_some (length ss ≤ at) (λ r. (slice_index_or ss at d).row ≡ r) c.in-Some.next c.in-Some.is (c.first_behind.ensures.row d))
    c.len-count.ensures.rising t lt (omega (arith, few, c.min.ensures))
