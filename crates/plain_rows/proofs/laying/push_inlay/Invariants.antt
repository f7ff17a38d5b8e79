use Rattle.std.proofs.Common.{◌≡◌, ◌<◌, ◌≤◌, ◌-◌, ◌+◌, ◌++◌, false}
use Rattle.std.specs.Str.{IsCharBoundary}
use Rattle.plain_rows.specs.FoldedLines.{inlay_at, is_buffer, next_inlay, seen}
use Rattle.plain_rows.specs.inside.Laying.{Reaches, inlay_rest, last_of, tokens_of}
use Rattle.plain_rows.proofs.laying.push_inlay.Given as goal

abbrev pub invariant-loop-at : goal.invariant-loop-at
invariant-loop-at l = record {
  reaches : Reaches (seen l.source) l.parts.items (inlay_at (seen l.source) l.number).offset;
  shows : tokens_of (seen l.source) l.parts.items ++ inlay_rest (seen l.source) l.number l.at
      ≡ tokens_of (seen l.source) l.initial.parts.items ++ inlay_rest (seen l.source) l.number 0;
  boundary : IsCharBoundary (inlay_at (seen l.source) l.number).text l.at;
  apart : l.at < l.size → next_inlay (last_of l.parts.items) ≤ l.number;
  buffer : 0 < l.at → is_buffer (last_of l.parts.items) ≡ false;
  inlays : next_inlay (last_of l.parts.items) ≤ l.number + 1;
}

abbrev pub decreases-loop-at : goal.decreases-loop-at
decreases-loop-at l = l.size - l.at
