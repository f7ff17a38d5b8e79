use Rattle.std.proofs.Common.{◌≡◌, replicate}
use Rattle.display_sheet.specs.Wraps.{fresh}
use Rattle.display_sheet.proofs.wraps.Wraps.fresh.Given as goal

abbrev pub invariant-loop : goal.invariant-loop
invariant-loop l = l.lines.items ≡ replicate l.counter fresh
