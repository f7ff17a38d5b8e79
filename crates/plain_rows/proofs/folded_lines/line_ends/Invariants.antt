use Rattle.std.proofs.Common.{◌≡◌, take}
use Rattle.plain_rows.specs.inside.PartPieces.{ends_from}
use Rattle.plain_rows.proofs.folded_lines.line_ends.Given as goal

abbrev pub invariant-loop-i : goal.invariant-loop-i
invariant-loop-i l = l.ends.items ≡ ends_from 0 (take l.i l.parts)
