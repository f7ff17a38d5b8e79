use Rattle.std.proofs.Common.{◌∙◌, ◌++◌, List, ap, sym}
use Rattle.display_map.specs.Replay.{present_of}
use Rattle.view_moves.specs.declared.caret.RowSpan.{RowSpan}
use Rattle.view_moves.proofs.SpansByClips.{none-by, nothing-more, span-by}
use Rattle.view_moves.proofs.selecting.push_span.Goals as goal

pub returns-then-first-row-clause-pushed : goal.returns-then-first-row-clause-pushed
returns-then-first-row-clause-pushed g c =
    nothing-more c.args.spans.now.items
    ∙ ap (λ (l : List RowSpan). c.args.spans.now.items ++ l)
    (sym (none-by (present_of c.args.view.now) c.args.ends.first c.args.ends.last c.args.row c.in_ok-first.first c.in_ok-first.ensures.nearest c.if-first-row.true))

pub returns-clause-pushed : goal.returns-clause-pushed
returns-clause-pushed g c =
    c.in_ok-push.ensures.items
    ∙ ap (λ (l : List RowSpan). c.args.spans.now.items ++ l)
    (sym (span-by (present_of c.args.view.now) c.args.ends.first c.args.ends.last c.args.row c.in_ok-first.first c.in_ok-first.ensures.nearest
    c.in_ok-last.last c.col_at-from.result c.col_at-to.result c.requires c.if-first-row.false c.in_ok-last.ensures.nearest c.col_at-from.ensures c.col_at-to.ensures))
