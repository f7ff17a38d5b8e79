use Rattle.std.proofs.Common.{◌≡◌, ◌==◌, ℕ, List, true, false, not, map, refl, rules, sym, ap, ◌∙◌}
use Rattle.cell_units.specs.Record.{Block, Record}
use Rattle.cell_units.specs.Operation.{RemoveBlock, without_block}
use Rattle.plain_rows.specs.Plain.{block_of}
use Rattle.display_sheet.specs.Changes.{has_block}
use Rattle.display_sheet.specs.Sheets.{IsBlockChange}
use Rattle.display_sheet.proofs.Refused.{found-used, known, unknown}
use Rattle.display_sheet.proofs.operate.remove_block.Goals as goal

pub returns-then-is_none : goal.returns-then-is_none
returns-then-is_none c =
    let r = c.args.sheet.now in
    let used : has_block c.args.id r ≡ false = found-used block_of (λ j. j.id == c.args.id) c.blocks-2.result.now r.blocks c.found.result false c.found.ensures c.blocks-2.ensures (c.is_none.ensures ∙ ap not c.if-is_none.true) in
    unknown (has_block c.args.id r) used

change : (r : Record) (id : ℕ) (blocks : List Block) → blocks ≡ without_block id r.blocks → IsBlockChange (RemoveBlock id) r blocks
change r id blocks e = record { allowed = tt; touches_none = λ P. refl; leaves = λ P. refl; blocks_are = sym e }

pub with_blocks-requires : goal.with_blocks-requires
with_blocks-requires c = (RemoveBlock c.args.id, change c.args.sheet.now c.args.id (map block_of c.in_ok-blocks.blocks.items) (c.in_ok-blocks.ensures ∙ ap (without_block c.args.id) c.blocks-3.ensures))

pub returns : goal.returns
returns c =
    let r = c.args.sheet.now in
    let used : has_block c.args.id r ≡ true = found-used block_of (λ j. j.id == c.args.id) c.blocks-2.result.now r.blocks c.found.result true c.found.ensures c.blocks-2.ensures (c.is_none.ensures ∙ ap not c.if-is_none.false) in
    (known (has_block c.args.id r) used, tt, c.in_ok-with_blocks.ensures (RemoveBlock c.args.id) (change r c.args.id (map block_of c.in_ok-blocks.blocks.items) (c.in_ok-blocks.ensures ∙ ap (without_block c.args.id) c.blocks-3.ensures)))

pub returns-in_err-blocks : goal.returns-in_err-blocks
returns-in_err-blocks c =
    let r = c.args.sheet.now in
    let used : has_block c.args.id r ≡ true =
    found-used block_of (λ j. j.id == c.args.id) c.blocks-2.result.now r.blocks c.found.result true c.found.ensures c.blocks-2.ensures (c.is_none.ensures ∙ ap not c.if-is_none.false) in
    let none = known (has_block c.args.id r) used in
    search (rules, none)

pub returns-in_err-with_blocks : goal.returns-in_err-with_blocks
returns-in_err-with_blocks c =
    let r = c.args.sheet.now in
    let used : has_block c.args.id r ≡ true =
    found-used block_of (λ j. j.id == c.args.id) c.blocks-2.result.now r.blocks c.found.result true c.found.ensures c.blocks-2.ensures (c.is_none.ensures ∙ ap not c.if-is_none.false) in
    let none = known (has_block c.args.id r) used in
    search (rules, none)
