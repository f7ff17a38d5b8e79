use Rattle.std.proofs.Common.{eqb, ap, ◌∙◌}
use Rattle.std.specs.List.{list_all}
use Rattle.wrapped_lines.specs.WrappedSource.{WrappedSource}
use Rattle.map_sheet.proofs.Sent.{sheet_sent}
use Rattle.map_sheet.proofs.kept.MapSheetSheet.is_settled.Goals as goal

pub returns : goal.returns
returns c = c.is_settled.ensures ∙ ap (λ (w : WrappedSource). list_all (λ m. eqb m w.width) w.marks) c.wrapped.ensures

pub is_settled-requires-send-L : goal.is_settled-requires-send-L
is_settled-requires-send-L c κs = search sheet_sent depth 12 fits 4000

pub is_settled-requires-sync-L : goal.is_settled-requires-sync-L
is_settled-requires-sync-L c κs = search sheet_sent depth 12 fits 4000
