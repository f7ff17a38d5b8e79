use Rattle.std.proofs.Common.{◌≡◌, ℕ, ap, ◌∙◌, arith}
use Rattle.cell_units.specs.BufferLines.{line_end, line_start}
use Rattle.cell_units.specs.Layers.{line_tokens}
use Rattle.fold_map.proofs.MapRows.{end-row, start-row}
use Rattle.fold_map.proofs.moving.rows_of.Goals as goal

pub row_range-first-requires : goal.row_range-first-requires
row_range-first-requires g c =
    let v = g.L.Layer.source c.args.layer.now in
    omega (arith, ap (λ (p : ℕ × ℕ). p.0) c.span-span.ensures, start-row v.text (line_tokens v c.args.line))

pub row_range-last-requires : goal.row_range-last-requires
row_range-last-requires g c =
    let v = g.L.Layer.source c.args.layer.now in
    omega (arith, ap (λ (p : ℕ × ℕ). p.1) c.span-span.ensures, end-row v.text (line_tokens v c.args.line))

pub returns-then-span-clause-start : goal.returns-then-span-clause-start
returns-then-span-clause-start g c =
    let text = (g.L.Layer.source c.args.layer.now).text in
    ap (λ (p : ℕ × ℕ). p.0) c.row_range-first.ensures ∙ ap (λ (p : ℕ × ℕ). line_start text p.0) c.span-span.ensures

pub returns-else-span-clause-start : goal.returns-else-span-clause-start
returns-else-span-clause-start g c =
    let text = (g.L.Layer.source c.args.layer.now).text in
    ap (λ (p : ℕ × ℕ). p.0) c.row_range-first.ensures ∙ ap (λ (p : ℕ × ℕ). line_start text p.0) c.span-span.ensures

pub returns-then-span-clause-end : goal.returns-then-span-clause-end
returns-then-span-clause-end g c =
    let text = (g.L.Layer.source c.args.layer.now).text in
    let one : c.span-span.result.0 ≡ c.span-span.result.1 = omega (arith, c.if-span.true) in
    ap (λ (p : ℕ × ℕ). p.1) c.row_range-first.ensures ∙ ap (line_end text) one ∙ ap (λ (p : ℕ × ℕ). line_end text p.1) c.span-span.ensures

pub returns-else-span-clause-end : goal.returns-else-span-clause-end
returns-else-span-clause-end g c =
    let text = (g.L.Layer.source c.args.layer.now).text in
    ap (λ (p : ℕ × ℕ). p.1) c.row_range-last.ensures ∙ ap (λ (p : ℕ × ℕ). line_end text p.1) c.span-span.ensures
