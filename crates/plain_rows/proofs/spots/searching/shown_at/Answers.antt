use Rattle.std.proofs.Common.{sym, ◌∙◌}
use Rattle.plain_rows.proofs.spots.searching.shown_at.Goals as goal

pub returns-clause-spot : goal.returns-clause-spot
returns-clause-spot g c =
    c.own_spot.ensures.spot c.args.offset (sym c.if-place-aim.false ∙ c.place-place.ensures.line) c.place-place.ensures.byte
