use Rattle.std.proofs.Common.{◌∙◌, ap, length, arith, take, List}
use Rattle.block_map.specs.Stops.{Stop}
use Rattle.block_map.specs.inside.StopLists.{last_row}
use Rattle.block_map.proofs.StopEdits.{last-is, start-is, stops-take, within}
use Rattle.block_map.proofs.StopPlaces.{length-stops}
use Rattle.block_map.proofs.stops.Stops.row_before.Goals as goal

pub returns-clause-row : goal.returns-clause-row
returns-clause-row c =
    let ps = c.self.inside.splices in
    let at = c.args.at in
    let le = within ps c.args.self.now c.self.view_is at c.requires in
    start-is ps c.self.invariant at c.find_at.result.index c.find_at.result.before le c.find_at.ensures.index c.find_at.ensures.before
    ∙ last-is 0 (take at ps)
    ∙ ap (last_row 0) (stops-take 0 ps at)
    ∙ ap (λ (l : List Stop). last_row 0 (take at l)) c.self.view_is

pub returns-clause-steps : goal.returns-clause-steps
returns-clause-steps c h few = omega (arith, c.find_at.ensures.steps h (omega (arith, few, length-stops 0 c.self.inside.splices, ap length c.self.view_is)))
