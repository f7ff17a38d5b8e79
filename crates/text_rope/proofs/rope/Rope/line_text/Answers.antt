use Rattle.std.proofs.Common.{◌≡◌, ◌-◌, ◌<◌, List, ℕ, Some, get_or, [], take, drop, ap, sym, subst, ◌∙◌, arith}
use Rattle.std.specs.Prelude.{slice_get}
use Rattle.std.specs.Str.{IsUtf8}
use Rattle.std.proofs.lemmas.Option.{slice_get-get_or}
use Rattle.std.proofs.lemmas.Result.{IfOk-weaker}
use Rattle.cell_units.specs.Record.{line_count}
use Rattle.cell_units.specs.Text.{IsBoundary}
use Rattle.cell_units.specs.BufferLines.{buffer_lines, line_end, line_start}
use Rattle.cell_units.proofs.BufferLines.{get_or-buffer_lines, length-buffer_lines, line_bounds}
use Rattle.text_rope.proofs.Parts.{chunks_utf8}
use Rattle.text_rope.proofs.RowStarts.{end_boundary, start_boundary}
use Rattle.text_rope.proofs.rope.Rope.line_text.Goals as goal
use Rattle.text_rope.proofs.rope.Rope.line_text.Goals.{After-range_of_row-start}

start_is : (c : After-range_of_row-start) → c.range_of_row-start.result.0 ≡ line_start c.args.self.now c.args.row
start_is c = c.range_of_row-start.ensures.start ∙ ap (λ (t : List ℕ). line_start t c.args.row) c.self.view_is

end_is : (c : After-range_of_row-start) → c.range_of_row-start.result.1 ≡ line_end c.args.self.now c.args.row
end_is c = c.range_of_row-start.ensures.end ∙ ap (λ (t : List ℕ). line_end t c.args.row) c.self.view_is

within : (c : After-range_of_row-start) → c.args.row < line_count c.args.self.now
within c = c.requires

utf8 : (c : After-range_of_row-start) → IsUtf8 c.args.self.now
utf8 c = subst IsUtf8 c.self.view_is (chunks_utf8 c.self.inside.chunks c.self.invariant.cut)

pub slice-requires-clause-start : goal.slice-requires-clause-start
slice-requires-clause-start c =
    let here = (goal.at.slice-requires-clause-start c).After-range_of_row-start in
    subst (IsBoundary c.args.self.now) (sym (start_is here)) (start_boundary c.args.self.now c.args.row (utf8 here) (within here))

pub slice-requires-clause-end : goal.slice-requires-clause-end
slice-requires-clause-end c =
    let here = (goal.at.slice-requires-clause-end c).After-range_of_row-start in
    subst (IsBoundary c.args.self.now) (sym (end_is here)) (end_boundary c.args.self.now c.args.row (utf8 here) (within here))

pub slice-requires-clause-order : goal.slice-requires-clause-order
slice-requires-clause-order c =
    let here = (goal.at.slice-requires-clause-order c).After-range_of_row-start in
    omega (arith, start_is here, end_is here, (line_bounds c.args.self.now c.args.row (within here)).0)

pub returns-clause-text : goal.returns-clause-text
returns-clause-text c =
    let here = (goal.at.returns-clause-text c).After-range_of_row-start in
    let text = c.args.self.now in
    let row = c.args.row in
    let line : take (c.range_of_row-start.result.1 - c.range_of_row-start.result.0) (drop c.range_of_row-start.result.0 text) ≡ get_or (buffer_lines text) row [] =
    ap (λ (n : ℕ). take (n - c.range_of_row-start.result.0) (drop c.range_of_row-start.result.0 text)) (end_is here)
    ∙ ap (λ (n : ℕ). take (line_end text row - n) (drop n text)) (start_is here) ∙ sym (get_or-buffer_lines text row (within here)) in
    let some : slice_get (buffer_lines text) row ≡ Some (get_or (buffer_lines text) row []) = slice_get-get_or (buffer_lines text) row [] (omega (arith, length-buffer_lines text, within here)) in
    IfOk-weaker c.slice.result _ _ (λ t e. some ∙ ap Some (sym (e ∙ line))) c.slice.ensures.text
