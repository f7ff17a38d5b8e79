use Rattle.std.proofs.Common.{◌≡◌, subst, sym}
use Rattle.std.specs.Result.{IfOk}
use Rattle.cell_units.specs.Record.{Record}
use Rattle.cell_units.specs.Text.{IsBoundary}
use Rattle.plain_rows.specs.Spots.{show}
use Rattle.plain_rows.proofs.spots.show.Goals as goal

pub show_in-requires : goal.show_in-requires
show_in-requires c = subst (λ (r : Record). IsBoundary r.text c.args.offset) (sym c.rows-rows.ensures) c.requires.boundary

pub returns : goal.returns
returns c = subst (λ (r : Record). IfOk c.show_in.result (λ spot. spot ≡ show r c.args.offset c.args.bias)) c.rows-rows.ensures c.show_in.ensures.spot
