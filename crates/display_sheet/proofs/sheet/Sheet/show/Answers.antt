use Rattle.std.proofs.Common.{◌≡◌, sym, subst}
use Rattle.std.specs.Result.{IfOk}
use Rattle.cell_units.specs.Record.{Record}
use Rattle.cell_units.specs.Text.{IsBoundary}
use Rattle.plain_rows.specs.Spots.{show}
use Rattle.display_sheet.proofs.sheet.Sheet.show.Goals as goal

pub show_in-requires : goal.show_in-requires
show_in-requires c = subst (λ (r : Record). IsBoundary r.text c.args.offset) (sym c.laid_rows-rows.ensures) c.requires

pub returns : goal.returns
returns c = subst (λ (r : Record). IfOk c.show_in.result (λ found. found ≡ show r c.args.offset c.args.bias)) c.laid_rows-rows.ensures c.show_in.ensures.spot
