use Rattle.std.proofs.Common.{◌≡◌, ◌-◌, false, length}
use Rattle.plain_rows.specs.FoldedLines.{is_buffer, seen}
use Rattle.plain_rows.specs.inside.Laying.{IsFree, IsLaid, last_of}
use Rattle.plain_rows.proofs.laying.push_stretch.Given as goal

abbrev pub invariant-inlays : goal.invariant-inlays
invariant-inlays l = record {
  laid : IsLaid (seen l.source) l.next l.at l.parts.items;
  apart : is_buffer (last_of l.parts.items) ≡ false;
  free : IsFree (seen l.source) l.at l.to;
}

abbrev pub decreases-inlays : goal.decreases-inlays
decreases-inlays l = length l.source.inlays.now - l.next
