use Rattle.std.proofs.Common.{◌≡◌, List, ℕ, ap, sym, subst, ◌∙◌, arith}
use Rattle.std.specs.Str.{IsUtf8}
use Rattle.cell_units.specs.Text.{IsBoundary}
use Rattle.cell_units.specs.BufferLines.{line_end, line_start}
use Rattle.cell_units.proofs.BufferLines.{line_bounds}
use Rattle.text_rope.proofs.Parts.{chunks_utf8}
use Rattle.text_rope.proofs.RowStarts.{end_boundary, start_boundary}
use Rattle.text_rope.proofs.rope.Rope.row_range.Goals as goal
use Rattle.text_rope.proofs.rope.Rope.row_range.Goals.{After-range_of_row}

start_is : (c : After-range_of_row) → c.range_of_row.result.0 ≡ line_start c.args.self.now c.args.row
start_is c = c.range_of_row.ensures.start ∙ ap (λ (t : List ℕ). line_start t c.args.row) c.self.view_is

end_is : (c : After-range_of_row) → c.range_of_row.result.1 ≡ line_end c.args.self.now c.args.row
end_is c = c.range_of_row.ensures.end ∙ ap (λ (t : List ℕ). line_end t c.args.row) c.self.view_is

utf8 : (c : After-range_of_row) → IsUtf8 c.args.self.now
utf8 c = subst IsUtf8 c.self.view_is (chunks_utf8 c.self.inside.chunks c.self.invariant.cut)

pub returns-clause-start : goal.returns-clause-start
returns-clause-start c =
    let here = (goal.at.returns-clause-start c).After-range_of_row in
    subst (IsBoundary c.args.self.now) (sym (start_is here)) (start_boundary c.args.self.now c.args.row (utf8 here) c.requires)

pub returns-clause-end : goal.returns-clause-end
returns-clause-end c =
    let here = (goal.at.returns-clause-end c).After-range_of_row in
    subst (IsBoundary c.args.self.now) (sym (end_is here)) (end_boundary c.args.self.now c.args.row (utf8 here) c.requires)

pub returns-clause-order : goal.returns-clause-order
returns-clause-order c =
    let here = (goal.at.returns-clause-order c).After-range_of_row in
    omega (arith, start_is here, end_is here, (line_bounds c.args.self.now c.args.row c.requires).0)
