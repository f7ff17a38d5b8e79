use Rattle.std.proofs.Common.{◌≡◌, take}
use Rattle.cell_units.specs.BufferLines.{line_starts}
use Rattle.display_sheet.proofs.buffer.line_starts.Given as goal

abbrev pub invariant-loop-i : goal.invariant-loop-i
invariant-loop-i l = l.starts.items ≡ line_starts (take l.i l.text)
