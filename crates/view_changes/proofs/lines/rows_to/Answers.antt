use Rattle.std.proofs.Common.{◌≤◌, length, sym, subst, ◌∙◌, arith}
use Rattle.block_map.specs.Between.{Between}
use Rattle.map_sheet.proofs.Sent.{sheet_sent}
use Rattle.row_pieces.proofs.LookCounts.{rows-to}
use Rattle.view_pieces.proofs.Lines.{begins-shown}
use Rattle.view_changes.proofs.Lengths.{length-texts}
use Rattle.view_changes.proofs.lines.rows_to.Goals as goal

pub start_of-requires-after_bounds : goal.start_of-requires-after_bounds
start_of-requires-after_bounds c κs =
    let r = c.args.sheet.now in
    subst (λ (b : Between). c.args.line ≤ length b.lines) (sym c.shown.ensures.shown)
    (omega (arith, c.requires, length-texts r c.lawful.ensures.lawful c.lawful.ensures.short))

pub returns-clause-rows : goal.returns-clause-rows
returns-clause-rows c =
    let r = c.args.sheet.now in
    begins-shown c.blocked_laws.ensures.lines r c.lawful.ensures.lawful c.shown.result.now c.shown.ensures.shown c.args.line c.start_of.result c.start_of.ensures.start
    ∙ sym (rows-to r c.args.line)

pub start_of-requires-send-R : goal.start_of-requires-send-R
start_of-requires-send-R c κs = search sheet_sent depth 12 fits 4000

pub start_of-requires-sync-R : goal.start_of-requires-sync-R
start_of-requires-sync-R c κs = search sheet_sent depth 12 fits 4000
