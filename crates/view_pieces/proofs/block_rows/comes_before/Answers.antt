-- The block of a number, if there is one, is that of the side.
use Rattle.std.proofs.Common.{ℕ, refl, sym, ap, ◌∙◌}
use Rattle.std.specs.Prelude.{nat_lt}
use Rattle.cell_units.specs.Worked.{block}
use Rattle.map_sheet.proofs.ListedBlocks.{gone, here}
use Rattle.map_sheet.proofs.Sent.{sheet_sent}
use Rattle.view_pieces.specs.inside.Blocks.{comes_before}
use Rattle.view_pieces.proofs.SideBlocks.{block-lawful}
use Rattle.view_pieces.proofs.block_rows.comes_before.Goals as goal

pub block_line-requires : goal.block_line-requires
block_line-requires c =
    let r = c.args.sheet.now in
    let there = here r c.blocked.result.now c.blocked.ensures c.args.side c.args.number c.in-Some.offset c.in-Some._id c.in-Some._lines.now c.in-Some.ensures.block in
    let b = block-lawful r c.lawful.ensures.lawful c.args.side c.args.number (block c.in-Some.offset c.in-Some._id c.args.side c.in-Some._lines.now) there in
    b.0.boundary

pub returns-in-None-clause-before : goal.returns-in-None-clause-before
returns-in-None-clause-before c =
    let r = c.args.sheet.now in
    sym (ap (comes_before r c.args.line) (gone r c.blocked.result.now c.blocked.ensures c.args.side c.args.number c.in-None.ensures.block))

pub returns-in-Some-clause-before : goal.returns-in-Some-clause-before
returns-in-Some-clause-before c =
    let r = c.args.sheet.now in
    let b = block c.in-Some.offset c.in-Some._id c.args.side c.in-Some._lines.now in
    let there = here r c.blocked.result.now c.blocked.ensures c.args.side c.args.number c.in-Some.offset c.in-Some._id c.in-Some._lines.now c.in-Some.ensures.block in
    ap (λ (n : ℕ). nat_lt n c.args.line) (c.block_line.ensures.line b refl refl) ∙ sym (ap (comes_before r c.args.line) there)

pub block-requires-send-R : goal.block-requires-send-R
block-requires-send-R c κs = search sheet_sent depth 12 fits 4000

pub block-requires-sync-R : goal.block-requires-sync-R
block-requires-sync-R c κs = search sheet_sent depth 12 fits 4000
