use Rattle.std.proofs.Common.{◌≡◌, ◌++◌, drop}
use Rattle.kept_sheet.specs.Kept.{standing}
use Rattle.display_map.proofs.outs.push_lines.Given as goal

abbrev pub invariant-loop-i : goal.invariant-loop-i
invariant-loop-i l = l.lines.items ++ standing (drop l.i l.places) ≡ l.initial.lines.items ++ standing l.places
