-- The width is that of the record's mark, and the lines that follow are those before one of another mark.
use Rattle.std.proofs.Common.{ap, ◌∙◌}
use Rattle.wrapped_lines.specs.WrappedSource.{standing_lines}
use Rattle.map_sheet.proofs.Readings.{line-width}
use Rattle.map_sheet.proofs.Sent.{sheet_sent}
use Rattle.view_changes.proofs.WidthRuns.{IsRun, run}
use Rattle.view_changes.proofs.landing.width_run.Goals as goal
use Rattle.view_changes.proofs.landing.width_run.Goals.{After-unwrap_or-end}

pub rows-rows-requires-send-L : goal.rows-rows-requires-send-L
rows-rows-requires-send-L c κs = search sheet_sent depth 12 fits 4000

pub rows-rows-requires-sync-L : goal.rows-rows-requires-sync-L
rows-rows-requires-sync-L c κs = search sheet_sent depth 12 fits 4000

pub mark-width-requires-send-N : goal.mark-width-requires-send-N
mark-width-requires-send-N c κs = search sheet_sent depth 12 fits 4000

pub mark-width-requires-sync-N : goal.mark-width-requires-sync-N
mark-width-requires-sync-N c κs = search sheet_sent depth 12 fits 4000

pub next_other-requires-send-N : goal.next_other-requires-send-N
next_other-requires-send-N c κs = search sheet_sent depth 12 fits 4000

pub next_other-requires-sync-N : goal.next_other-requires-sync-N
next_other-requires-sync-N c κs = search sheet_sent depth 12 fits 4000

is-run : (c : After-unwrap_or-end) → IsRun c.args.sheet.now c.args.line c.mark-width.result c.unwrap_or-end.result
is-run c =
    let r = c.args.sheet.now in
    let width = line-width r c.lawful.ensures.lawful c.lawful.ensures.short c.wrapped.result.now c.wrapped.ensures c.rows-rows.result.now c.rows-rows.ensures c.args.line c.requires c.mark-width.result c.mark-width.ensures.mark in
    run r c.lawful.ensures.lawful c.lawful.ensures.short c.args.line c.mark-width.result c.requires width c.rows-rows.result.now (c.rows-rows.ensures ∙ ap standing_lines c.wrapped.ensures)
    c.next_other.result c.next_other.ensures.other c.unwrap_or-end.result c.lines.result c.lines.ensures.value c.unwrap_or-end.ensures

pub returns-clause-some : goal.returns-clause-some
returns-clause-some c = (is-run (goal.at.returns-clause-some c).After-unwrap_or-end).some

pub returns-clause-within : goal.returns-clause-within
returns-clause-within c = (is-run (goal.at.returns-clause-within c).After-unwrap_or-end).within

pub returns-clause-width : goal.returns-clause-width
returns-clause-width c = (is-run (goal.at.returns-clause-width c).After-unwrap_or-end).at
