use Rattle.std.proofs.Common.{ap, ◌∙◌}
use Rattle.std.specs.Arc.{arc_value}
use Rattle.cell_units.specs.Lawful.{source_of}
use Rattle.cell_units.specs.Record.{Record}
use Rattle.blocked_rows.specs.Records.{kept_blocks, row_texts}
use Rattle.map_sheet.proofs.Keeping.{alike, keeps, made}
use Rattle.map_sheet.proofs.sheet.MapSheet.relined.Goals as goal

pub invariant_of-result : goal.invariant_of-result
invariant_of-result c =
    let r = c.args.self.now in
    keeps c.requires.0 (arc_value c.in_ok-text.text) (arc_value c.in_ok-lines.lines) (arc_value c.in_ok-blocks.blocks)
    (alike c.requires.0 (source_of r) (arc_value c.in_ok-text.text) c.args.lines (arc_value c.in_ok-lines.lines) (kept_blocks r (row_texts r)) (arc_value c.in_ok-blocks.blocks)
    c.in_ok-text.ensures c.in_ok-lines.ensures.ok
    (c.in_ok-blocks.ensures ∙ c.self.invariant.blocks_are ∙ ap (λ (q : Record). kept_blocks q (row_texts q)) c.self.view_is) c.requires.1)

pub returns : goal.returns
returns c = λ q k.
    let r = c.args.self.now in
    made q (arc_value c.in_ok-text.text) (arc_value c.in_ok-lines.lines) (arc_value c.in_ok-blocks.blocks)
    (alike q (source_of r) (arc_value c.in_ok-text.text) c.args.lines (arc_value c.in_ok-lines.lines) (kept_blocks r (row_texts r)) (arc_value c.in_ok-blocks.blocks)
    c.in_ok-text.ensures c.in_ok-lines.ensures.ok
    (c.in_ok-blocks.ensures ∙ c.self.invariant.blocks_are ∙ ap (λ (q : Record). kept_blocks q (row_texts q)) c.self.view_is) k)
