use Rattle.std.proofs.Common.{◌≡◌, ◌+◌, count_by, ap, sym, ◌∙◌, arith}
use Rattle.std.specs.List.{concat}
use Rattle.cell_units.specs.Record.{line_count}
use Rattle.cell_units.specs.Text.{is_feed}
use Rattle.cell_units.proofs.BufferLines.{line_count-is, line_end_last, line_end_next}
use Rattle.text_rope.specs.declared.chunk.TextSize.{TextSize}
use Rattle.text_rope.proofs.Chunks.{total_bytes, total_feeds}
use Rattle.text_rope.proofs.rows.end_of_row.Goals as goal
use Rattle.text_rope.proofs.rows.end_of_row.Goals.{After-sum-sum}

feeds : (c : After-sum-sum) → c.sum-sum.result.feeds ≡ count_by is_feed (concat c.args.chunks.now)
feeds c = ap (λ (s : TextSize). s.feeds) c.sum-sum.ensures ∙ total_feeds c.args.chunks.now

pub start_of_row-requires-clause-within : goal.start_of_row-requires-clause-within
start_of_row-requires-clause-within c = omega (arith, feeds (goal.at.start_of_row-requires-clause-within c).After-sum-sum, c.if-row-sum.false, c.requires.within)

pub overflow_sub-result : goal.overflow_sub-result
overflow_sub-result c =
    let text = concat c.args.chunks.now in
    omega (arith, c.start_of_row.ensures.start, line_end_next text c.args.row (omega (arith, line_count-is text, feeds (goal.at.overflow_sub-result c).After-sum-sum, c.if-row-sum.false, c.requires.within)))

pub returns-then-row-sum-clause-end : goal.returns-then-row-sum-clause-end
returns-then-row-sum-clause-end c =
    let text = concat c.args.chunks.now in
    let last : c.args.row + 1 ≡ line_count text = omega (arith, line_count-is text, feeds (goal.at.returns-then-row-sum-clause-end c).After-sum-sum, c.if-row-sum.true) in
    ap (λ (s : TextSize). s.bytes) c.sum-sum.ensures ∙ total_bytes c.args.chunks.now ∙ sym (line_end_last text c.args.row last)

pub returns-else-row-sum-clause-end : goal.returns-else-row-sum-clause-end
returns-else-row-sum-clause-end c =
    let text = concat c.args.chunks.now in
    omega (arith, c.start_of_row.ensures.start, line_end_next text c.args.row (omega (arith, line_count-is text, feeds (goal.at.returns-else-row-sum-clause-end c).After-sum-sum, c.if-row-sum.false, c.requires.within)))
