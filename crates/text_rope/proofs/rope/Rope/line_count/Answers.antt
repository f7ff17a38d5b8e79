use Rattle.std.proofs.Common.{◌≡◌, count_by, ap, ◌∙◌, arith}
use Rattle.std.specs.List.{concat}
use Rattle.cell_units.specs.Text.{is_feed}
use Rattle.text_rope.proofs.Chunks.{feeds_within, total_feeds}
use Rattle.text_rope.proofs.RowStarts.{line_count_sum}
use Rattle.text_rope.specs.declared.chunk.TextSize.{TextSize}
use Rattle.text_rope.proofs.rope.Rope.line_count.Goals as goal

pub overflow_add-result : goal.overflow_add-result
overflow_add-result c =
    let feeds : c.sum.result.feeds ≡ count_by is_feed (concat c.self.inside.chunks) = ap (λ (s : TextSize). s.feeds) c.sum.ensures ∙ total_feeds c.self.inside.chunks in
    omega (arith, feeds, feeds_within (concat c.self.inside.chunks), c.self.invariant.small)

pub returns : goal.returns
returns c = line_count_sum c.self.inside.chunks c.args.self.now c.sum.result c.sum.ensures c.self.view_is
