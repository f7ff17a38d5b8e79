use Rattle.std.proofs.Common.{◌∙◌}
use Rattle.kept_sheet.proofs.PlainSheets.{settled-by}
use Rattle.kept_sheet.proofs.plain.PlainSheetSheet.is_settled.Goals as goal

pub returns : goal.returns
returns c = c.all_at.ensures ∙ settled-by c.args.self.now c.wraps.result.now c.width.result c.wraps.ensures c.width.ensures
