use Rattle.std.proofs.Common.{◌≡◌, ℕ, ◌<◌, false}
use Rattle.display_sheet.specs.Sheets.{marks_in}
use Rattle.cell_line.specs.Waiting.{waits}
use Rattle.kept_sheet.proofs.plain.next_run.Given as goal

abbrev pub invariant-loop-line : goal.invariant-loop-line
invariant-loop-line l = (k : ℕ) → k < l.line → waits (marks_in l.wraps) l.width l.out k ≡ false
