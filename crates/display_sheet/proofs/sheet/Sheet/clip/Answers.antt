use Rattle.std.proofs.Common.{◌≡◌, subst}
use Rattle.std.specs.Result.{IfOk}
use Rattle.cell_units.specs.Record.{Record}
use Rattle.plain_rows.specs.Spots.{clip}
use Rattle.display_sheet.proofs.sheet.Sheet.clip.Goals as goal

pub returns : goal.returns
returns c = subst (λ (r : Record). IfOk c.clip_in.result (λ found. found ≡ clip r c.args.spot c.args.bias)) c.laid_rows-rows.ensures c.clip_in.ensures.nearest
