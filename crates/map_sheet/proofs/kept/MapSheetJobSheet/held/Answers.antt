use Rattle.std.proofs.Common.{◌≡◌, List, ap, subst, ◌∙◌}
use Rattle.std.specs.Result.{IfOk}
use Rattle.cell_line.specs.declared.element.Element.{Element}
use Rattle.wrapped_lines.specs.WrappedSource.{lines_of}
use Rattle.map_sheet.proofs.Sent.{sheet_sent}
use Rattle.map_sheet.proofs.kept.MapSheetJobSheet.held.Goals as goal

pub returns : goal.returns
returns c = subst (λ (lines : List (List Element)). IfOk c.share.result (λ held. held ≡ lines)) (c.lines.ensures ∙ ap lines_of c.wrapped.ensures) c.share.ensures

pub lines-requires-send-L : goal.lines-requires-send-L
lines-requires-send-L c κs = search sheet_sent depth 12 fits 4000

pub lines-requires-sync-L : goal.lines-requires-sync-L
lines-requires-sync-L c κs = search sheet_sent depth 12 fits 4000
