use Rattle.std.proofs.Common.{◌≡◌, ◌≤◌, ◌-◌}
use Rattle.plain_rows.specs.Spots.{valid_spots}
use Rattle.display_map.specs.Replay.{present_of}
use Rattle.view_moves.proofs.SpansByClips.{spans_upto}
use Rattle.view_moves.proofs.selecting.spans_between.Given as goal

abbrev pub invariant-loop-row : goal.invariant-loop-row
invariant-loop-row g l = record {
  spans : l.spans.items ≡ spans_upto (valid_spots (present_of l.view)) l.ends.first l.ends.last (l.row - l.ends.first.row);
  counted : l.initial.steps ≤ l.steps;
}
