use Rattle.std.proofs.Common.{◌≡◌, ◌+◌, ◌<◌, ◌≤◌, List, ℕ, length, ap, sym, subst, ◌∙◌, arith}
use Rattle.cell_units.specs.BufferLines.{line_end, line_start}
use Rattle.cell_units.specs.Record.{line_count}
use Rattle.cell_units.proofs.BufferLines.{line_bounds}
use Rattle.cell_units.specs.Text.{IsBoundary}
use Rattle.cell_units.specs.declared.place.Bias.{Bias}
use Rattle.cell_units.specs.declared.place.Bias.TheVariants.{Left, Right}
use Rattle.cell_units.specs.Points.{IsNearBoundary}
use Rattle.cell_units.proofs.Points.{offset_is}
use Rattle.text_rope.specs.declared.chunk.TextSize.{TextSize}
use Rattle.text_rope.proofs.Chunks.{total_bytes, total_feeds}
use Rattle.std.specs.Str.{IsUtf8}
use Rattle.std.proofs.Math.Seq.{take-length}
use Rattle.text_rope.proofs.Parts.{chunks_utf8}
use Rattle.text_rope.proofs.RowStarts.{end_boundary, line_count_sum}
use Rattle.text_rope.proofs.rope.Rope.offset_of.Goals as goal
use Rattle.text_rope.proofs.rope.Rope.offset_of.Goals.{After-range_of_row-start}

pub returns-then-point-sum-clause-offset : goal.returns-then-point-sum-clause-offset
returns-then-point-sum-clause-offset c =
    let lines = line_count_sum c.self.inside.chunks c.args.self.now c.sum-sum.result c.sum-sum.ensures c.self.view_is in
    let utf8 : IsUtf8 c.args.self.now = subst IsUtf8 c.self.view_is (chunks_utf8 c.self.inside.chunks c.self.invariant.cut) in
    offset_is c.args.self.now utf8 c.args.point c.args.bias c.sum-sum.result.bytes (record {
      past_rows = λ _. ap (λ (s : TextSize). s.bytes) c.sum-sum.ensures ∙ total_bytes c.self.inside.chunks ∙ ap (λ (t : List ℕ). length t) c.self.view_is;
      past_end = λ le _. absurd (omega (arith, le, lines, c.if-point-sum.true));
      in_row = λ le _. absurd (omega (arith, le, lines, c.if-point-sum.true));
    })

pub range_of_row-start-requires-clause-within : goal.range_of_row-start-requires-clause-within
range_of_row-start-requires-clause-within c = omega (arith, ap (λ (s : TextSize). s.feeds) c.sum-sum.ensures ∙ total_feeds c.self.inside.chunks, c.if-point-sum.false)

-- where the row starts and ends
start_is : (c : After-range_of_row-start) → c.range_of_row-start.result.0 ≡ line_start c.args.self.now c.args.point.row
start_is c = c.range_of_row-start.ensures.start ∙ ap (λ (t : List ℕ). line_start t c.args.point.row) c.self.view_is

end_is : (c : After-range_of_row-start) → c.range_of_row-start.result.1 ≡ line_end c.args.self.now c.args.point.row
end_is c = c.range_of_row-start.ensures.end ∙ ap (λ (t : List ℕ). line_end t c.args.point.row) c.self.view_is

row_within : (c : After-range_of_row-start) → c.args.point.row < line_count c.args.self.now
row_within c = omega (arith, line_count_sum c.self.inside.chunks c.args.self.now c.sum-sum.result c.sum-sum.ensures c.self.view_is, c.if-point-sum.false)

bounds : (c : After-range_of_row-start) → (c.range_of_row-start.result.0 ≤ c.range_of_row-start.result.1) × (c.range_of_row-start.result.1 ≤ length c.args.self.now)
bounds c =
    let text = c.args.self.now in
    let both = line_bounds text c.args.point.row (row_within c) in
    (omega (arith, start_is c, end_is c, both.0), omega (arith, end_is c, both.1))

pub overflow_sub-end : goal.overflow_sub-end
overflow_sub-end c = (bounds (goal.at.overflow_sub-end c).After-range_of_row-start).0

pub returns-then-point-end-clause-offset : goal.returns-then-point-end-clause-offset
returns-then-point-end-clause-offset c =
    let here = (goal.at.returns-then-point-end-clause-offset c).After-range_of_row-start in
    let utf8 : IsUtf8 c.args.self.now = subst IsUtf8 c.self.view_is (chunks_utf8 c.self.inside.chunks c.self.invariant.cut) in
    offset_is c.args.self.now utf8 c.args.point c.args.bias c.range_of_row-start.result.1 (record {
      past_rows = λ past. absurd (omega (arith, past, row_within here));
      past_end = λ _ _. end_is here;
      in_row = λ _ le. absurd (omega (arith, le, start_is here, end_is here, c.if-point-end.true));
    })

pub near_boundary-requires-clause-within : goal.near_boundary-requires-clause-within
near_boundary-requires-clause-within c = omega (arith, (bounds (goal.at.near_boundary-requires-clause-within c).After-range_of_row-start), c.if-point-end.false, ap (λ (t : List ℕ). length t) c.self.view_is)

pub returns-clause-offset : goal.returns-clause-offset
returns-clause-offset c =
    let here = (goal.at.returns-clause-offset c).After-range_of_row-start in
    let text = c.args.self.now in
    let place : c.range_of_row-start.result.0 + c.args.point.column ≡ line_start text c.args.point.row + c.args.point.column = ap (λ (n : ℕ). n + c.args.point.column) (start_is here) in
    let utf8 : IsUtf8 text = subst IsUtf8 c.self.view_is (chunks_utf8 c.self.inside.chunks c.self.invariant.cut) in
    offset_is text utf8 c.args.point c.args.bias c.near_boundary.result (record {
      past_rows = λ past. absurd (omega (arith, past, row_within here));
      past_end = λ _ lt. absurd (omega (arith, lt, start_is here, end_is here, bounds here, c.if-point-end.false));
      in_row = λ _ _. subst (λ (o : ℕ). IsNearBoundary text o c.args.bias c.near_boundary.result) place
          (subst (λ (t : List ℕ). IsNearBoundary t (c.range_of_row-start.result.0 + c.args.point.column) c.args.bias c.near_boundary.result) c.self.view_is c.near_boundary.ensures.near);
    })

pub returns-then-point-sum-clause-boundary : goal.returns-then-point-sum-clause-boundary
returns-then-point-sum-clause-boundary c =
    let text = c.args.self.now in
    let end : c.sum-sum.result.bytes ≡ length text =
    ap (λ (s : TextSize). s.bytes) c.sum-sum.ensures ∙ total_bytes c.self.inside.chunks ∙ ap (λ (t : List ℕ). length t) c.self.view_is in
    let utf8 : IsUtf8 text = subst IsUtf8 c.self.view_is (chunks_utf8 c.self.inside.chunks c.self.invariant.cut) in
    subst (IsBoundary text) (sym end) (omega arith, subst IsUtf8 (sym (take-length text)) utf8)

pub returns-then-point-end-clause-boundary : goal.returns-then-point-end-clause-boundary
returns-then-point-end-clause-boundary c =
    let here = (goal.at.returns-then-point-end-clause-boundary c).After-range_of_row-start in
    let text = c.args.self.now in
    let utf8 : IsUtf8 text = subst IsUtf8 c.self.view_is (chunks_utf8 c.self.inside.chunks c.self.invariant.cut) in
    subst (IsBoundary text) (sym (end_is here)) (end_boundary text c.args.point.row utf8 (row_within here))

near_is_boundary : (text : List ℕ) (o : ℕ) (bias : Bias) (r : ℕ) → IsNearBoundary text o bias r → IsBoundary text r
near_is_boundary text o Left r near = near.boundary
near_is_boundary text o Right r near = near.boundary

pub returns-clause-boundary : goal.returns-clause-boundary
returns-clause-boundary c = subst (λ (t : List ℕ). IsBoundary t c.near_boundary.result) c.self.view_is (near_is_boundary _ _ _ _ c.near_boundary.ensures.near)
