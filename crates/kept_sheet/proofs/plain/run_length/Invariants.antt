use Rattle.std.proofs.Common.{◌≡◌, ℕ, ◌+◌, ◌<◌, ◌≤◌, true, length}
use Rattle.display_sheet.specs.Sheets.{marks_in}
use Rattle.cell_line.specs.Waiting.{waits}
use Rattle.kept_sheet.proofs.plain.run_length.Given as goal

abbrev pub invariant-loop-count : goal.invariant-loop-count
invariant-loop-count l = record {
  each : (k : ℕ) → k < l.count → waits (marks_in l.wraps) l.width l.out (l.first + k) ≡ true;
  within : l.first + l.count ≤ length l.wraps;
}
