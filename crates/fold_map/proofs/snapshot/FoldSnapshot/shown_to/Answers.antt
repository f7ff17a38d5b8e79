use Rattle.std.proofs.Common.{ℕ, ap, sym, subst, ◌∙◌}
use Rattle.cell_units.specs.Layers.{Source}
use Rattle.cell_units.specs.Text.{IsBoundary, row_end}
use Rattle.fold_map.proofs.StateFolds.{to-fold, to-row, row-last}
use Rattle.fold_map.proofs.snapshot.FoldSnapshot.shown_to.Goals as goal

pub line_of-last-requires-after_bounds : goal.line_of-last-requires-after_bounds
line_of-last-requires-after_bounds g c κs h =
    let s = c.args.self.now in
    let row = ap (λ (p : ℕ × ℕ). p.1) c.row_ends-row.ensures ∙ ap (λ (v : Source). row_end v.text c.args.end) c.self.view_is in
    subst (IsBoundary s.text) (sym row) (row-last s.text c.args.end c.text_len-len.ensures.lawful.formed.text.0 c.requires.0).0

pub returns-then-last-line-clause-to : goal.returns-then-last-line-clause-to
returns-then-last-line-clause-to g c =
    let row = ap (λ (p : ℕ × ℕ). p.1) c.row_ends-row.ensures ∙ ap (λ (v : Source). row_end v.text c.args.end) c.self.view_is in
    to-fold c.args.self.now c.args.end c.row_ends-row.result.1 c.line_of-last.result c.line_of-line.result row c.line_of-last.ensures.line c.line_of-line.ensures.line c.if-last-line.true

pub returns-else-last-line-clause-to : goal.returns-else-last-line-clause-to
returns-else-last-line-clause-to g c =
    let row = ap (λ (p : ℕ × ℕ). p.1) c.row_ends-row.ensures ∙ ap (λ (v : Source). row_end v.text c.args.end) c.self.view_is in
    to-row c.args.self.now c.args.end c.row_ends-row.result.1 c.line_of-last.result c.line_of-line.result row c.line_of-last.ensures.line c.line_of-line.ensures.line c.if-last-line.false
