use Rattle.std.proofs.Common.{◌≡◌, ◌∙◌, List, map, sym, ap, subst}
use Rattle.std.proofs.lemmas.Result.{IfOk-weaker}
use Rattle.block_map.specs.Stops.{Stop}
use Rattle.block_map.specs.inside.ShownStops.{AreShown, shown_stop}
use Rattle.block_map.specs.inside.Sides.{BlockMark}
use Rattle.block_map.proofs.ShownStops.{stops-shown}
use Rattle.block_map.proofs.block_side.BlockSide.shown_stops.Goals as goal

pub returns : goal.returns
returns c =
    let ms : List BlockMark = c.self.inside.marks in
    let ss : List Stop = c.self.inside.stops in
    let seen : ss ≡ map shown_stop c.args.self.now = stops-shown ms ss c.self.invariant.each (subst AreShown (sym c.self.view_is) c.requires) ∙ ap (map shown_stop) c.self.view_is in
    IfOk-weaker c.share.result (λ (l : List Stop). l ≡ ss) (λ (l : List Stop). l ≡ map shown_stop c.args.self.now) (λ l e. e ∙ seen) c.share.ensures
