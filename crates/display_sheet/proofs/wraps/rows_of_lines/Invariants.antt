use Rattle.std.proofs.Common.{◌≡◌, ◌<◌, take}
use Rattle.std.specs.List.{All}
use Rattle.display_sheet.specs.Wraps.{rows_of_lines}
use Rattle.display_sheet.proofs.wraps.rows_of_lines.Given as goal

abbrev pub invariant-loop-line : goal.invariant-loop-line
invariant-loop-line l = record {
  sum : l.rows ≡ rows_of_lines (take l.line-index l.lines);
  small : All (λ w. w.rows < 4294967296) (take l.line-index l.lines);
}
