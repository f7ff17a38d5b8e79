use Rattle.std.proofs.Common.{refl, sym, ap, ◌∙◌, arith}
use Rattle.std.proofs.lemmas.Option.{none-some, same_Some}
use Rattle.cell_units.specs.Record.{Block}
use Rattle.cell_units.specs.Worked.{block}
use Rattle.map_sheet.proofs.ListedBlocks.{gone, here}
use Rattle.map_sheet.proofs.Sent.{sheet_sent}
use Rattle.view_pieces.proofs.SideBlocks.{block-lawful}
use Rattle.view_changes.proofs.FoundRows.{are-rows, rows-fit}
use Rattle.view_changes.proofs.own_rows.rows_on.Goals as goal

pub unreachable-requires : goal.unreachable-requires
unreachable-requires c =
    let r = c.args.sheet.now in
    let none = gone r c.blocked.result.now c.blocked.ensures c.args.side c.in-Some.number c.in_default-block.ensures.block in
    none-some c.in-Some.ensures.number.0 (sym none ∙ c.in-Some.ensures.number.1)

pub block_line-line-requires : goal.block_line-line-requires
block_line-line-requires c =
    let r = c.args.sheet.now in
    let b = block c.in-Some-block.offset c.in-Some-block._id c.args.side c.in-Some-block.lines.now in
    let there = here r c.blocked.result.now c.blocked.ensures c.args.side c.in-Some.number c.in-Some-block.offset c.in-Some-block._id c.in-Some-block.lines.now c.in-Some-block.ensures.block in
    let own = block-lawful r c.lawful.ensures.lawful c.args.side c.in-Some.number b there in
    own.0.boundary

pub rows_ahead-ahead-requires : goal.rows_ahead-ahead-requires
rows_ahead-ahead-requires c =
    let r = c.args.sheet.now in
    let b = block c.in-Some-block.offset c.in-Some-block._id c.args.side c.in-Some-block.lines.now in
    let there = here r c.blocked.result.now c.blocked.ensures c.args.side c.in-Some.number c.in-Some-block.offset c.in-Some-block._id c.in-Some-block.lines.now c.in-Some-block.ensures.block in
    (b, there, sym (c.block_line-line.ensures.line b refl refl))

pub overflow_cast-result : goal.overflow_cast-result
overflow_cast-result c =
    let r = c.args.sheet.now in
    let b = block c.in-Some-block.offset c.in-Some-block._id c.args.side c.in-Some-block.lines.now in
    let there = here r c.blocked.result.now c.blocked.ensures c.args.side c.in-Some.number c.in-Some-block.offset c.in-Some-block._id c.in-Some-block.lines.now c.in-Some-block.ensures.block in
    let own = block-lawful r c.lawful.ensures.lawful c.args.side c.in-Some.number b there in
    omega (arith, own.0.lines.few)

pub overflow_add-result : goal.overflow_add-result
overflow_add-result c =
    let r = c.args.sheet.now in
    let b = block c.in-Some-block.offset c.in-Some-block._id c.args.side c.in-Some-block.lines.now in
    let there = here r c.blocked.result.now c.blocked.ensures c.args.side c.in-Some.number c.in-Some-block.offset c.in-Some-block._id c.in-Some-block.lines.now c.in-Some-block.ensures.block in
    let same = same_Some c.in-Some.ensures.number.0 b (sym c.in-Some.ensures.number.1 ∙ there) in
    let id = sym (ap (λ (x : Block). x.id) same) ∙ c.in-Some.ensures.number.2 in
    let fit = rows-fit r c.lawful.ensures.lawful c.args.side c.in-Some.number c.args.id b there id c.block_line-line.result c.side_start-start.result c.rows_ahead-ahead.result
    (c.block_line-line.ensures.line b refl refl) c.side_start-start.ensures.start c.rows_ahead-ahead.ensures.rows in
    omega (arith, fit, c.row_count-rows.ensures, c.row_count-rows.type_inv)

pub returns-clause-rows : goal.returns-clause-rows
returns-clause-rows c =
    let r = c.args.sheet.now in
    let b = block c.in-Some-block.offset c.in-Some-block._id c.args.side c.in-Some-block.lines.now in
    let there = here r c.blocked.result.now c.blocked.ensures c.args.side c.in-Some.number c.in-Some-block.offset c.in-Some-block._id c.in-Some-block.lines.now c.in-Some-block.ensures.block in
    let same = same_Some c.in-Some.ensures.number.0 b (sym c.in-Some.ensures.number.1 ∙ there) in
    let id = sym (ap (λ (x : Block). x.id) same) ∙ c.in-Some.ensures.number.2 in (
      c.in-Some.number,
      are-rows r c.lawful.ensures.lawful c.args.side c.in-Some.number c.args.id b there id c.block_line-line.result c.side_start-start.result c.rows_ahead-ahead.result
          (c.block_line-line.ensures.line b refl refl) c.side_start-start.ensures.start c.rows_ahead-ahead.ensures.rows,
    )

pub returns-clause-few : goal.returns-clause-few
returns-clause-few c =
    let r = c.args.sheet.now in
    let b = block c.in-Some-block.offset c.in-Some-block._id c.args.side c.in-Some-block.lines.now in
    let there = here r c.blocked.result.now c.blocked.ensures c.args.side c.in-Some.number c.in-Some-block.offset c.in-Some-block._id c.in-Some-block.lines.now c.in-Some-block.ensures.block in
    let same = same_Some c.in-Some.ensures.number.0 b (sym c.in-Some.ensures.number.1 ∙ there) in
    let id = sym (ap (λ (x : Block). x.id) same) ∙ c.in-Some.ensures.number.2 in
    let fit = rows-fit r c.lawful.ensures.lawful c.args.side c.in-Some.number c.args.id b there id c.block_line-line.result c.side_start-start.result c.rows_ahead-ahead.result
    (c.block_line-line.ensures.line b refl refl) c.side_start-start.ensures.start c.rows_ahead-ahead.ensures.rows in
    omega (arith, fit, c.row_count-rows.ensures, c.row_count-rows.type_inv)

pub block-requires-send-R : goal.block-requires-send-R
block-requires-send-R c κs = search sheet_sent depth 12 fits 4000

pub block-requires-sync-R : goal.block-requires-sync-R
block-requires-sync-R c κs = search sheet_sent depth 12 fits 4000
