use Rattle.std.proofs.Common.{length, ap, ◌∙◌}
use Rattle.map_sheet.proofs.Readings.{lines-long}
use Rattle.map_sheet.proofs.Sent.{sheet_sent}
use Rattle.map_sheet.proofs.kept.MapSheetSheet.lines.Goals as goal

pub returns-clause-value : goal.returns-clause-value
returns-clause-value c = c.lines.ensures ∙ ap length c.lines-lines.ensures ∙ lines-long c.args.self.now c.lawful.ensures.lawful c.lawful.ensures.short c.wrapped.result.now c.wrapped.ensures

pub lines-lines-requires-send-L : goal.lines-lines-requires-send-L
lines-lines-requires-send-L c κs = search sheet_sent depth 12 fits 4000

pub lines-lines-requires-sync-L : goal.lines-lines-requires-sync-L
lines-lines-requires-sync-L c κs = search sheet_sent depth 12 fits 4000
