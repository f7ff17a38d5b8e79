use Rattle.std.proofs.Common.{◌≡◌, map, take}
use Rattle.display_sheet.proofs.reading.widths.Given as goal

abbrev pub invariant-loop-line : goal.invariant-loop-line
invariant-loop-line l = l.widths.items ≡ map (λ w. w.mark) (take l.line l.wraps)
