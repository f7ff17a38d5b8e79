use Rattle.std.proofs.Common.{◌≡◌, false}
use Rattle.std.specs.Str.{IsCharBoundary}
use Rattle.plain_rows.specs.FoldedLines.{is_buffer, seen}
use Rattle.plain_rows.specs.inside.Laying.{IsLaid, last_of}
use Rattle.plain_rows.proofs.JoinedFolds.{end_before}
use Rattle.plain_rows.proofs.laying.lay_out.Given as goal

abbrev pub invariant-loop-fold : goal.invariant-loop-fold
invariant-loop-fold l = record {
  laid : IsLaid (seen l.source) l.next l.at l.parts.items;
  apart : is_buffer (last_of l.parts.items) ≡ false;
  at_end : l.at ≡ end_before 0 l.joined l.fold-index;
  boundary : IsCharBoundary l.source.text.now l.at;
}
