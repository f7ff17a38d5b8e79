use Rattle.std.proofs.Common.{◌≡◌, subst}
use Rattle.std.specs.Result.{IfOk}
use Rattle.cell_units.specs.declared.place.Spot.{Spot}
use Rattle.plain_rows.specs.Spots.{clip}
use Rattle.plain_rows.proofs.spots.searching.clip_in.Goals as goal

pub returns-clause-nearest : goal.returns-clause-nearest
returns-clause-nearest g c =
    subst (λ (s : Spot). IfOk c.nearest.result (λ nearest. nearest ≡ clip (g.R.SpotRows.kept c.args.rows.now) s c.args.bias)) c.in_ok-aim.ensures.spot c.nearest.ensures.nearest
