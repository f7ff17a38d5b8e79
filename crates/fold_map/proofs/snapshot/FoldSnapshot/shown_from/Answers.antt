use Rattle.std.proofs.Common.{ℕ, ap, sym, subst, ◌∙◌}
use Rattle.cell_units.specs.Layers.{Source}
use Rattle.cell_units.specs.Text.{IsBoundary, row_start}
use Rattle.fold_map.proofs.StateFolds.{from-fold, from-row, row-first}
use Rattle.fold_map.proofs.snapshot.FoldSnapshot.shown_from.Goals as goal

pub line_of-first-requires-after_bounds : goal.line_of-first-requires-after_bounds
line_of-first-requires-after_bounds g c κs h =
    let s = c.args.self.now in
    let row = ap (λ (p : ℕ × ℕ). p.0) c.row_ends-row.ensures ∙ ap (λ (v : Source). row_start v.text c.args.start) c.self.view_is in
    subst (IsBoundary s.text) (sym row) (row-first s.text c.args.start c.text_len-len.ensures.lawful.formed.text.0 c.requires.0).0

pub returns-then-first-line-clause-from : goal.returns-then-first-line-clause-from
returns-then-first-line-clause-from g c =
    let row = ap (λ (p : ℕ × ℕ). p.0) c.row_ends-row.ensures ∙ ap (λ (v : Source). row_start v.text c.args.start) c.self.view_is in
    from-fold c.args.self.now c.args.start c.row_ends-row.result.0 c.line_of-first.result c.line_of-line.result row c.line_of-first.ensures.line c.line_of-line.ensures.line c.if-first-line.true

pub returns-else-first-line-clause-from : goal.returns-else-first-line-clause-from
returns-else-first-line-clause-from g c =
    let row = ap (λ (p : ℕ × ℕ). p.0) c.row_ends-row.ensures ∙ ap (λ (v : Source). row_start v.text c.args.start) c.self.view_is in
    from-row c.args.self.now c.args.start c.row_ends-row.result.0 c.line_of-first.result c.line_of-line.result row c.line_of-first.ensures.line c.line_of-line.ensures.line c.if-first-line.false
