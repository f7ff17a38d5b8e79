use Rattle.std.proofs.Common.{◌-◌, length}
use Rattle.plain_rows.specs.FoldedLines.{seen}
use Rattle.plain_rows.specs.inside.Laying.{IsHidden}
use Rattle.plain_rows.proofs.laying.push_placeholder.Given as goal

abbrev pub invariant-hidden : goal.invariant-hidden
invariant-hidden l = IsHidden (seen l.source) l.next l.joined.start l.joined.end l.parts.items

abbrev pub decreases-hidden : goal.decreases-hidden
decreases-hidden l = length l.source.inlays.now - l.next
