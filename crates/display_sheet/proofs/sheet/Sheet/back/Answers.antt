use Rattle.std.proofs.Common.{◌≡◌, subst}
use Rattle.std.specs.Result.{IfOk}
use Rattle.cell_units.specs.Record.{Record}
use Rattle.plain_rows.specs.Spots.{back}
use Rattle.display_sheet.proofs.sheet.Sheet.back.Goals as goal

pub returns : goal.returns
returns c = subst (λ (r : Record). IfOk c.back_in.result (λ found. found ≡ back r c.args.spot c.args.bias)) c.laid_rows-rows.ensures c.back_in.ensures.offset
