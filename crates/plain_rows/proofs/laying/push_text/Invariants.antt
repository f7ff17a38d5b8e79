use Rattle.std.proofs.Common.{◌≡◌, ◌<◌, ◌≤◌, ◌-◌, false}
use Rattle.plain_rows.specs.FoldedLines.{is_buffer, seen}
use Rattle.plain_rows.specs.inside.Laying.{IsSpan, Lays, last_of}
use Rattle.plain_rows.proofs.laying.push_text.Given as goal

abbrev pub invariant-loop-at : goal.invariant-loop-at
invariant-loop-at l = record {
  order : l.from ≤ l.at;
  lays : Lays (seen l.source) l.initial.parts.items l.parts.items l.from l.at;
  span : IsSpan l.source.text.now l.at l.to;
  apart : l.at < l.to → is_buffer (last_of l.parts.items) ≡ false;
}

abbrev pub decreases-loop-at : goal.decreases-loop-at
decreases-loop-at l = l.to - l.at
