use Rattle.std.proofs.Common.{◌≤◌, ◌+◌, length, refl, sym, subst, arith}
use Rattle.block_map.specs.Between.{Between}
use Rattle.blocked_rows.specs.Records.{row_texts}
use Rattle.plain_rows.proofs.SpotSizes.{few-lines}
use Rattle.map_sheet.proofs.Readings.{row-lines}
use Rattle.map_sheet.proofs.Sent.{sheet_sent}
use Rattle.view_pieces.proofs.LandedRows.{holds-begun, holds-next}
use Rattle.view_pieces.proofs.Lines.{begins-shown}
use Rattle.view_pieces.proofs.landing.line_of.Goals as goal

pub overflow_add-next : goal.overflow_add-next
overflow_add-next c = omega (arith, c.line_of_row-begun.ensures.line.within, few-lines c.args.sheet.now c.lawful.ensures.lawful c.lawful.ensures.short)

pub start_of-requires-after_bounds : goal.start_of-requires-after_bounds
start_of-requires-after_bounds c κs =
    let r = c.args.sheet.now in
    let begun = c.line_of_row-begun.result in
    let within : begun + 1 ≤ length (row_texts r) =
    omega (arith, row-lines r c.lawful.ensures.lawful c.lawful.ensures.short begun c.line_of_row-begun.ensures.line.within) in
    subst (λ (b : Between). begun + 1 ≤ length b.lines) (sym c.shown.ensures.shown) within

pub returns-then-start_of-row-clause-line : goal.returns-then-start_of-row-clause-line
returns-then-start_of-row-clause-line c =
    let r = c.args.sheet.now in
    let begun = c.line_of_row-begun.result in
    let start = begins-shown c.blocked_laws.ensures.lines r c.lawful.ensures.lawful c.shown.result.now c.shown.ensures.shown (begun + 1) c.start_of.result c.start_of.ensures.start in
    holds-next r c.lawful.ensures.lawful c.lawful.ensures.short c.args.row begun (begun + 1) c.requires c.line_of_row-begun.ensures.line refl (omega (arith, start, c.if-start_of-row.true))

pub returns-else-start_of-row-clause-line : goal.returns-else-start_of-row-clause-line
returns-else-start_of-row-clause-line c =
    let r = c.args.sheet.now in
    let begun = c.line_of_row-begun.result in
    let start = begins-shown c.blocked_laws.ensures.lines r c.lawful.ensures.lawful c.shown.result.now c.shown.ensures.shown (begun + 1) c.start_of.result c.start_of.ensures.start in
    holds-begun r c.lawful.ensures.lawful c.lawful.ensures.short c.args.row begun (begun + 1) c.requires c.line_of_row-begun.ensures.line refl (omega (arith, start, c.if-start_of-row.false))

pub start_of-requires-send-R : goal.start_of-requires-send-R
start_of-requires-send-R c κs = search sheet_sent depth 12 fits 4000

pub start_of-requires-sync-R : goal.start_of-requires-sync-R
start_of-requires-sync-R c κs = search sheet_sent depth 12 fits 4000
