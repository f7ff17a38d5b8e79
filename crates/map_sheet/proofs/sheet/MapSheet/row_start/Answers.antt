use Rattle.std.proofs.Common.{◌≡◌, ap, sym, ◌∙◌, arith}
use Rattle.cell_units.specs.BufferLines.{line_start}
use Rattle.cell_units.specs.Layers.{Source}
use Rattle.cell_units.specs.Record.{line_count}
use Rattle.map_sheet.proofs.sheet.MapSheet.row_start.Goals as goal

pub row_range-requires : goal.row_range-requires
row_range-requires c =
    let same : line_count c.layer.result.now.text ≡ line_count c.rope-rope.result.now =
    ap (λ (s : Source). line_count s.text) c.layer.ensures ∙ ap line_count (sym c.rope-rope.ensures) in
    omega (arith, same, c.line_count-rows.ensures, c.if-row-rows.false)

pub returns-clause-start : goal.returns-clause-start
returns-clause-start c there =
    ap (λ p. p.0) c.row_range.ensures ∙ ap (λ (s : Source). line_start s.text c.args.row) (c.layer.ensures ∙ c.text-source.ensures)

pub returns-clause-past : goal.returns-clause-past
returns-clause-past c past =
    let same : line_count c.rope-rope.result.now ≡ line_count c.args.self.now.text =
    ap line_count c.rope-rope.ensures ∙ ap (λ (s : Source). line_count s.text) c.text-source.ensures in
    absurd (omega (arith, same, past, c.line_count-rows.ensures, c.if-row-rows.false))

pub returns-then-row-rows-clause-start : goal.returns-then-row-rows-clause-start
returns-then-row-rows-clause-start c there =
    let same : line_count c.rope-rope.result.now ≡ line_count c.args.self.now.text =
    ap line_count c.rope-rope.ensures ∙ ap (λ (s : Source). line_count s.text) c.text-source.ensures in
    absurd (omega (arith, same, there, c.line_count-rows.ensures, c.if-row-rows.true))
