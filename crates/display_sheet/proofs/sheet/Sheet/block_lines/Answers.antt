use Rattle.std.proofs.Common.{◌≤◌, ℕ, List, length, map, ap, sym, subst, ◌∙◌}
use Rattle.std.specs.List.{All}
use Rattle.std.specs.Arc.{arc_value}
use Rattle.cell_units.specs.Record.{Record}
use Rattle.cell_units.specs.Lawful.{source_of}
use Rattle.plain_rows.specs.declared.plain.PlainBlock.{PlainBlock}
use Rattle.plain_rows.specs.FoldedLines.{AreInOrder, AreLinesOf}
use Rattle.plain_rows.specs.Plain.{block_of}
use Rattle.plain_rows.specs.Rows.{line_of_block}
use Rattle.display_sheet.specs.Sheets.{record_in}
use Rattle.display_sheet.proofs.KeptSheets.{blocks_rise, blocks_within, lines-of-blocks}
use Rattle.display_sheet.proofs.sheet.Sheet.block_lines.Goals as goal

pub block_lines-requires-clause-in_order : goal.block_lines-requires-clause-in_order
block_lines-requires-clause-in_order c =
    let v = c.self.inside in
    let blocks = c.as_slice-blocks.ensures.value ∙ ap (λ w. w.items) c.deref.ensures in
    subst (AreInOrder (λ (b : PlainBlock). b.offset)) (sym blocks) (blocks_rise (arc_value v.text) (arc_value v.blocks).items c.self.invariant.lawful.entries.blocks)

pub block_lines-requires-clause-within : goal.block_lines-requires-clause-within
block_lines-requires-clause-within c =
    let v = c.self.inside in
    let blocks = c.as_slice-blocks.ensures.value ∙ ap (λ w. w.items) c.deref.ensures in
    let text = c.as_str.ensures.text ∙ c.deref-3.ensures in
    let within = subst (All (λ (b : PlainBlock). b.offset ≤ length (arc_value v.text))) (sym blocks) (blocks_within (arc_value v.text) (arc_value v.blocks).items c.self.invariant.lawful.entries.blocks) in
    subst (λ (t : List ℕ). All (λ (b : PlainBlock). b.offset ≤ length t) c.as_slice-blocks.result.now) (sym text) within

pub returns : goal.returns
returns c =
    let v = c.self.inside in
    let r = record_in v in
    let blocks = c.as_slice-blocks.ensures.value ∙ ap (λ w. w.items) c.deref.ensures in
    let text = c.as_str.ensures.text ∙ c.deref-3.ensures in
    c.in_ok-lines.ensures r (subst (AreLinesOf (source_of r)) (sym c.deref-2.ensures) c.self.invariant.laid_out) (sym text)
    ∙ ap (map (λ (b : PlainBlock). line_of_block r (block_of b))) blocks
    ∙ lines-of-blocks r (arc_value v.blocks).items
    ∙ ap (λ (r : Record). map (line_of_block r) r.blocks) c.self.view_is
