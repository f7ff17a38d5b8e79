-- How many lines the block of a number has, if it is at the line.
use Rattle.std.proofs.Common.{◌≡◌, cond, eq-eqb, ne_eqb, length, refl, sym, ap, ◌∙◌, arith}
use Rattle.std.specs.Prelude.{None, Some}
use Rattle.cell_units.specs.Worked.{block}
use Rattle.plain_rows.specs.Rows.{line_of_block}
use Rattle.map_sheet.proofs.ListedBlocks.{gone, here}
use Rattle.map_sheet.proofs.Sent.{sheet_sent}
use Rattle.view_pieces.specs.Blocks.{lines_there}
use Rattle.view_pieces.proofs.SideBlocks.{block-lawful}
use Rattle.view_pieces.proofs.block_rows.lines_there.Goals as goal

pub block_line-requires : goal.block_line-requires
block_line-requires c =
    let r = c.args.sheet.now in
    let there = here r c.blocked.result.now c.blocked.ensures c.args.side c.args.number c.in-Some.offset c.in-Some._id c.in-Some.lines.now c.in-Some.ensures.block in
    let b = block-lawful r c.lawful.ensures.lawful c.args.side c.args.number (block c.in-Some.offset c.in-Some._id c.args.side c.in-Some.lines.now) there in
    b.0.boundary

pub returns-in_default-clause-there : goal.returns-in_default-clause-there
returns-in_default-clause-there c =
    let r = c.args.sheet.now in
    sym (ap (lines_there r c.args.line) (gone r c.blocked.result.now c.blocked.ensures c.args.side c.args.number c.in_default.ensures.block))

pub returns-then-block_line-line-clause-there : goal.returns-then-block_line-line-clause-there
returns-then-block_line-line-clause-there c =
    let r = c.args.sheet.now in
    let lines = c.in-Some.lines.now in
    let b = block c.in-Some.offset c.in-Some._id c.args.side lines in
    let there = here r c.blocked.result.now c.blocked.ensures c.args.side c.args.number c.in-Some.offset c.in-Some._id lines c.in-Some.ensures.block in
    let at : line_of_block r b ≡ c.args.line = sym (c.block_line.ensures.line b refl refl) ∙ c.if-block_line-line.true in
    sym (ap (lines_there r c.args.line) there ∙ ap (λ t. cond t (Some (length lines)) None) (eq-eqb (line_of_block r b) c.args.line at))

pub returns-else-block_line-line-clause-there : goal.returns-else-block_line-line-clause-there
returns-else-block_line-line-clause-there c =
    let r = c.args.sheet.now in
    let lines = c.in-Some.lines.now in
    let b = block c.in-Some.offset c.in-Some._id c.args.side lines in
    let there = here r c.blocked.result.now c.blocked.ensures c.args.side c.args.number c.in-Some.offset c.in-Some._id lines c.in-Some.ensures.block in
    let off : (line_of_block r b ≡ c.args.line) → ⊥ = λ e. c.if-block_line-line.false (c.block_line.ensures.line b refl refl ∙ e) in
    sym (ap (lines_there r c.args.line) there ∙ ap (λ t. cond t (Some (length lines)) None) (ne_eqb (line_of_block r b) c.args.line off))

pub block-requires-send-R : goal.block-requires-send-R
block-requires-send-R c κs = search sheet_sent depth 12 fits 4000

pub block-requires-sync-R : goal.block-requires-sync-R
block-requires-sync-R c κs = search sheet_sent depth 12 fits 4000

pub overflow_cast-result : goal.overflow_cast-result
overflow_cast-result c =
    let r = c.args.sheet.now in
    let there = here r c.blocked.result.now c.blocked.ensures c.args.side c.args.number c.in-Some.offset c.in-Some._id c.in-Some.lines.now c.in-Some.ensures.block in
    let own = block-lawful r c.lawful.ensures.lawful c.args.side c.args.number (block c.in-Some.offset c.in-Some._id c.args.side c.in-Some.lines.now) there in
    omega (arith, own.0.lines.few)
