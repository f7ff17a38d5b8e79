use Rattle.std.proofs.Common.{map, take}
use Rattle.display_sheet.specs.Windows.{HasPassed}
use Rattle.display_sheet.proofs.window.Window.pass_block.Given as goal

abbrev pub invariant-loop-line : goal.invariant-loop-line
invariant-loop-line l = HasPassed (map (λ line. (98, line)) (take l.line-index l.block.lines.items)) l.initial.self l.self
