use Rattle.std.proofs.Common.{◌≡◌, ◌+◌, ◌++◌, map, drop}
use Rattle.cell_line.specs.MarkRuns.{runs_from}
use Rattle.display_sheet.proofs.MarkedRuns.{joined}
use Rattle.display_sheet.proofs.marking.mark_runs.Given as goal

abbrev pub invariant-loop-line : goal.invariant-loop-line
invariant-loop-line l = record {
  runs : l.runs.items ++ joined l.run (runs_from l.line (drop l.line (map (λ w. w.mark) l.wraps))) ≡ runs_from 0 (map (λ w. w.mark) l.wraps);
  next : (l.run.width ≡ 0 → ⊥) → l.run.last + 1 ≡ l.line;
}
