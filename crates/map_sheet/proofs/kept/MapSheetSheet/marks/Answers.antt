use Rattle.std.proofs.Common.{◌≡◌, ap, subst, ◌∙◌}
use Rattle.std.specs.Result.{IfOk}
use Rattle.cell_line.specs.MarkRuns.{runs_from}
use Rattle.wrap_map.specs.Standing.{Standing}
use Rattle.wrapped_lines.specs.WrappedSource.{standing_lines}
use Rattle.map_sheet.proofs.Sent.{sheet_sent}
use Rattle.map_sheet.proofs.kept.MapSheetSheet.marks.Goals as goal

pub returns-clause-runs : goal.returns-clause-runs
returns-clause-runs c =
    subst (λ (s : Standing). IfOk c.marks.result (λ runs. runs.items ≡ runs_from 0 s.marks)) (c.rows.ensures ∙ ap standing_lines c.wrapped.ensures) c.marks.ensures.runs

pub rows-requires-send-L : goal.rows-requires-send-L
rows-requires-send-L c κs = search sheet_sent depth 12 fits 4000

pub rows-requires-sync-L : goal.rows-requires-sync-L
rows-requires-sync-L c κs = search sheet_sent depth 12 fits 4000

pub marks-requires-send-N : goal.marks-requires-send-N
marks-requires-send-N c κs = search sheet_sent depth 12 fits 4000

pub marks-requires-sync-N : goal.marks-requires-sync-N
marks-requires-sync-N c κs = search sheet_sent depth 12 fits 4000
