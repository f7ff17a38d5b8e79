use Rattle.std.proofs.Common.{◌↔◌, ◌≡◌, true, ◌+◌, ◌*◌, ◌^◌, ◌<◌, ℕ, Some, ap, length, arith}
use Rattle.std.specs.List.{slice_get}
use Rattle.block_map.specs.Stops.{Stop, stands_before}
use Rattle.block_map.proofs.StopLooks.{found-before, found-rows, upto-place}
use Rattle.block_map.proofs.StopMoves.{before-first, first-before, first-in}
use Rattle.block_map.proofs.StopPlaces.{length-stops}
use Rattle.block_map.proofs.StopRuns.{found-row}
use Rattle.block_map.proofs.stops.Stops.first_behind.Goals as goal

pub returns-clause-within : goal.returns-clause-within
returns-clause-within c = first-in c.self.inside.splices c.args.self.now c.self.invariant c.self.view_is c.args.bias c.args.row c.find_lower-found.result.index c.find_lower-found.ensures.first

pub returns-clause-place : goal.returns-clause-place
returns-clause-place c k s e = (
  before-first c.self.inside.splices c.args.self.now c.self.invariant c.self.view_is c.args.bias c.args.row c.find_lower-found.result.index c.find_lower-found.ensures.first k s e,
  first-before c.self.inside.splices c.args.self.now c.self.invariant c.self.view_is c.args.bias c.args.row c.find_lower-found.result.index c.find_lower-found.ensures.first k s e,
)

pub overflow_sub-result : goal.overflow_sub-result
overflow_sub-result c =
    omega (arith, found-rows c.self.inside.splices c.args.self.now c.self.invariant c.self.view_is c.find_lower-found.result.index c.find_lower-found.result.before c.find_lower-found.ensures.before)

pub returns-clause-rows : goal.returns-clause-rows
returns-clause-rows c =
    let at = c.find_lower-found.result.index in
    let place : (k : ℕ) (s : Stop) → slice_get c.args.self.now k ≡ Some s → (k < at) ↔ (stands_before c.args.bias c.args.row s ≡ true) = λ k s e. (
      before-first c.self.inside.splices c.args.self.now c.self.invariant c.self.view_is c.args.bias c.args.row at c.find_lower-found.ensures.first k s e,
      first-before c.self.inside.splices c.args.self.now c.self.invariant c.self.view_is c.args.bias c.args.row at c.find_lower-found.ensures.first k s e,
    ) in
    omega (
      arith,
      found-rows c.self.inside.splices c.args.self.now c.self.invariant c.self.view_is at c.find_lower-found.result.before c.find_lower-found.ensures.before,
      upto-place c.args.bias c.args.row c.args.self.now at place,
    )

pub returns-clause-before : goal.returns-clause-before
returns-clause-before c =
    found-before c.self.inside.splices c.args.self.now c.self.invariant c.self.view_is c.find_lower-found.result.index c.find_lower-found.result.before c.find_lower-found.ensures.before

pub returns-clause-steps : goal.returns-clause-steps
returns-clause-steps c h few =
    let few' : length c.self.inside.splices < 2 * 6 ^ (h + 1) = omega (arith, few, length-stops 0 c.self.inside.splices, ap length c.self.view_is) in
    c.find_lower-found.ensures.steps h few'

pub returns-clause-row : goal.returns-clause-row
returns-clause-row c d =
    found-row c.self.inside.splices c.args.self.now c.self.invariant c.self.view_is c.find_lower-found.result.index c.find_lower-found.result.before c.find_lower-found.result.splice c.row_in.result d
    c.find_lower-found.ensures.before c.find_lower-found.ensures.splice c.row_in.ensures
