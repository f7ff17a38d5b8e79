use Rattle.std.proofs.Common.{◌∙◌, ◌++◌, List, ap, sym, arith}
use Rattle.plain_rows.specs.Spots.{valid_spots}
use Rattle.display_map.specs.Replay.{present_of}
use Rattle.view_moves.specs.declared.caret.RowSpan.{RowSpan}
use Rattle.view_moves.specs.Moves.{spans_of_row}
use Rattle.view_moves.proofs.SpansByClips.{spans-more}
use Rattle.view_moves.proofs.selecting.spans_between.Goals as goal

pub push_span-requires : goal.push_span-requires
push_span-requires g c = c.requires.narrow

pub loop-row-preserved : goal.loop-row-preserved
loop-row-preserved g c = record {
  spans =
      c.in_ok-push_span.ensures.pushed
      ∙ ap (λ (l : List RowSpan). l ++ spans_of_row (valid_spots (present_of c.args.view.now)) c.args.ends.first c.args.ends.last c.loop-row.row) c.loop-row.invariant.spans
      ∙ sym (spans-more (valid_spots (present_of c.args.view.now)) c.args.ends.first c.args.ends.last c.loop-row.row c.loop-row.auto.row);
  counted = omega (arith, c.loop-row.invariant.counted, c.in_ok-push_span.ensures.counted);
}
