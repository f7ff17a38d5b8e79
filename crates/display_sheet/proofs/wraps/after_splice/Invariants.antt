use Rattle.std.proofs.Common.{◌≡◌, ◌++◌, take, replicate}
use Rattle.display_sheet.specs.Wraps.{fresh}
use Rattle.display_sheet.proofs.wraps.after_splice.Given as goal

abbrev pub invariant-loop : goal.invariant-loop
invariant-loop l = l.list.items ≡ take l.splice.first l.lines ++ replicate l.counter fresh
