use Rattle.std.proofs.Common.{◌≡◌, ℕ, List, None, map, refl, sym, ap, subst, ◌∙◌}
use Rattle.std.specs.List.{All}
use Rattle.std.specs.Str.{IsUtf8}
use Rattle.cell_units.specs.declared.place.Side.{Side}
use Rattle.cell_units.specs.BufferLines.{line_start}
use Rattle.cell_units.specs.Sorting.{insert_by}
use Rattle.cell_units.specs.Record.{Block, Record, block_le}
use Rattle.cell_units.specs.Operation.{AddBlock}
use Rattle.plain_rows.specs.Plain.{block_of}
use Rattle.display_sheet.specs.Changes.{block_refusal}
use Rattle.display_sheet.specs.Sheets.{IsBlockChange}
use Rattle.display_sheet.proofs.Refused.{block-allowed}
use Rattle.display_sheet.proofs.operate.add_block.Goals as goal

block-added : (r : Record) (row id : ℕ) (side : Side) (lines copy : List (List ℕ)) (start : ℕ) (kept blocks : List Block) → block_refusal r row id lines ≡ None →
    copy ≡ lines → All IsUtf8 copy → start ≡ line_start r.text row → kept ≡ r.blocks →
    blocks ≡ insert_by block_le (record { offset = start; id = id; side = side; lines = copy }) kept → IsBlockChange (AddBlock row id side lines) r blocks
block-added r row id side lines copy start kept blocks none same utf8 at blocks_are put = record {
  allowed = block-allowed r row id lines side (subst (All IsUtf8) same utf8) none;
  touches_none = λ P. refl;
  leaves = λ P. refl;
  blocks_are = sym (put ∙ (λ i. insert_by block_le (record { offset = at i; id = id; side = side; lines = same i }) (blocks_are i)));
}

pub with_blocks-requires : goal.with_blocks-requires
with_blocks-requires c =
    let r = c.args.sheet.now in
    let start = c.line_start.ensures ∙ ap (λ (t : List ℕ). line_start t c.args.row) c.text.ensures in
    let is =
    block-added r c.args.row c.args.id c.args.side c.args.lines.now c.in_ok-copied.field-0.items c.line_start.result (map block_of c.blocks-2.result.now) (map block_of c.in_ok-blocks.blocks.items)
    (sym c.in_default.ensures) c.in_ok-copied.ensures.same c.in_ok-copied.ensures.utf8 start c.blocks-2.ensures c.in_ok-blocks.ensures in
    (AddBlock c.args.row c.args.id c.args.side c.args.lines.now, is)

pub returns : goal.returns
returns c =
    let r = c.args.sheet.now in
    let start = c.line_start.ensures ∙ ap (λ (t : List ℕ). line_start t c.args.row) c.text.ensures in
    let is =
    block-added r c.args.row c.args.id c.args.side c.args.lines.now c.in_ok-copied.field-0.items c.line_start.result (map block_of c.blocks-2.result.now) (map block_of c.in_ok-blocks.blocks.items)
    (sym c.in_default.ensures) c.in_ok-copied.ensures.same c.in_ok-copied.ensures.utf8 start c.blocks-2.ensures c.in_ok-blocks.ensures in
    (sym c.in_default.ensures, is.allowed, c.in_ok-with_blocks.ensures (AddBlock c.args.row c.args.id c.args.side c.args.lines.now) is)
