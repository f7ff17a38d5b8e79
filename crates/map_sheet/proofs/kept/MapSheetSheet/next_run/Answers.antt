use Rattle.std.proofs.Common.{subst}
use Rattle.cell_line.specs.Waiting.{IsNextIfAny}
use Rattle.wrapped_lines.specs.WrappedSource.{WrappedSource}
use Rattle.map_sheet.proofs.Sent.{sheet_sent}
use Rattle.map_sheet.proofs.kept.MapSheetSheet.next_run.Goals as goal

pub returns-clause-next : goal.returns-clause-next
returns-clause-next c = subst (λ (w : WrappedSource). IsNextIfAny w.marks w.width c.args.out.now c.next_run.result) c.wrapped.ensures c.next_run.ensures.next

pub next_run-requires-send-L : goal.next_run-requires-send-L
next_run-requires-send-L c κs = search sheet_sent depth 12 fits 4000

pub next_run-requires-sync-L : goal.next_run-requires-sync-L
next_run-requires-sync-L c κs = search sheet_sent depth 12 fits 4000
