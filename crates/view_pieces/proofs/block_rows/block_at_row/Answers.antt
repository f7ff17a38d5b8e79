-- The row is one of the next block's, or one of those after it.
use Rattle.std.proofs.Common.{◌≤◌, ◌+◌, List, length, ap, ◌∙◌, arith}
use Rattle.std.specs.Prelude.{slice_get}
use Rattle.map_sheet.specs.Listed.{side_blocks}
use Rattle.map_sheet.proofs.Sent.{sheet_sent}
use Rattle.row_pieces.specs.declared.row_piece.RowPiece.{RowPiece}
use Rattle.view_pieces.proofs.SideBlocks.{block-there, few-blocks, no-rows, no-rows-here, row-after-block, row-in-block, rows-from-first, upper-others}
use Rattle.view_pieces.proofs.block_rows.block_at_row.Goals as goal

pub loop-number-init : goal.loop-number-init
loop-number-init c =
    let r = c.args.sheet.now in
    let first = c.blocks_before-first.result in
    let are = c.blocks_before-first.ensures.before in
    record {
      row = ap (λ (l : List (List RowPiece)). slice_get l c.args.at) (rows-from-first r c.lawful.ensures.lawful c.args.side c.args.line first are);
      off = are.others first (omega arith);
      counted = c.blocks_before-first.ensures.counted;
    }

pub returns-in_default-clause-found : goal.returns-in_default-clause-found
returns-in_default-clause-found c =
    let r = c.args.sheet.now in
    let k = c.loop-number.invariant in
    k.row ∙ ap (λ (l : List (List RowPiece)). slice_get l c.loop-number.left) (no-rows-here r c.lawful.ensures.lawful c.args.side c.args.line c.loop-number.number k.off c.in_default.ensures.there)

pub returns-in_default-clause-counted : goal.returns-in_default-clause-counted
returns-in_default-clause-counted c = let k = c.loop-number.invariant in omega (arith, k.counted, c.lines_there.ensures.counted)

pub returns-then-left-count-clause-found : goal.returns-then-left-count-clause-found
returns-then-left-count-clause-found c =
    let r = c.args.sheet.now in
    let k = c.loop-number.invariant in
    let number = c.loop-number.number in
    let there = block-there r c.lawful.ensures.lawful c.args.side c.args.line number c.in-Some.count c.in-Some.ensures.there in
    row-in-block r c.lawful.ensures.lawful c.args.side c.args.line c.args.at number c.loop-number.left c.in-Some.count there k.row c.if-left-count.true

pub returns-then-left-count-clause-counted : goal.returns-then-left-count-clause-counted
returns-then-left-count-clause-counted c = let k = c.loop-number.invariant in omega (arith, k.counted, c.lines_there.ensures.counted)

pub loop-number-preserved : goal.loop-number-preserved
loop-number-preserved c =
    let r = c.args.sheet.now in
    let k = c.loop-number.invariant in
    let number = c.loop-number.number in
    let there = block-there r c.lawful.ensures.lawful c.args.side c.args.line number c.in-Some.count c.in-Some.ensures.there in
    record {
      row = row-after-block r c.lawful.ensures.lawful c.args.side c.args.line c.args.at number c.loop-number.left c.in-Some.count there k.row c.if-left-count.false;
      off = upper-others r c.lawful.ensures.lawful c.args.side c.args.line number (number + 1) (omega arith) k.off;
      counted = omega (arith, k.counted, c.lines_there.ensures.counted);
    }

pub returns-clause-found : goal.returns-clause-found
returns-clause-found c =
    let r = c.args.sheet.now in
    let k = c.loop-number.invariant in
    let number = c.loop-number.number in
    let past : length (side_blocks r c.args.side) ≤ number = omega (arith, c.loop-number-test.false, c.len-number-end.ensures, few-blocks r c.blocked.result.now c.blocked.ensures c.args.side) in
    k.row ∙ ap (λ (l : List (List RowPiece)). slice_get l c.loop-number.left) (no-rows r c.lawful.ensures.lawful c.args.side c.args.line number past)

pub len-number-end-requires-send-R : goal.len-number-end-requires-send-R
len-number-end-requires-send-R c κs = search sheet_sent depth 12 fits 4000

pub len-number-end-requires-sync-R : goal.len-number-end-requires-sync-R
len-number-end-requires-sync-R c κs = search sheet_sent depth 12 fits 4000
