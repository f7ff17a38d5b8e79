use Rattle.std.proofs.Common.{List, subst, sym}
use Rattle.block_map.specs.Stops.{Stop}
use Rattle.block_map.specs.inside.StopLists.{StopsFit, without_stop}
use Rattle.block_map.proofs.RisingStops.{fits-without}
use Rattle.block_map.proofs.stops.Stops.without.Goals as goal

pub remove-requires-clause-fit : goal.remove-requires-clause-fit
remove-requires-clause-fit c = subst StopsFit (sym c.in_ok-next.ensures) c.requires.fit

pub returns-clause-fits : goal.returns-clause-fits
returns-clause-fits c =
    subst StopsFit (sym c.in_ok-remove.ensures.ok)
    (subst (λ (l : List Stop). StopsFit (without_stop c.args.at l)) (sym c.in_ok-next.ensures) (fits-without c.args.self.now c.args.at c.len-count.ensures.rising c.requires.fit))
