use Rattle.std.proofs.Common.{◌≡◌, ◌-◌, ◌*◌, ◌≤◌, ◌++◌, length}
use Rattle.sum_tree.specs.Bounds.{TakesAtMost, way}
use Rattle.cell_line.specs.MarkRuns.{runs_from}
use Rattle.wrap_map.specs.Stood.{marks_in}
use Rattle.wrap_map.proofs.Runs.{rest_of}
use Rattle.wrap_map.proofs.stretches.Stretches.marks.Given as goal

abbrev pub invariant-loop-first : goal.invariant-loop-first
invariant-loop-first l =
    record {
      within : l.line ≤ length l.self;
      runs : l.runs.items ++ rest_of (marks_in l.self) l.line ≡ runs_from 0 (marks_in l.self);
      counted : l.initial.steps ≤ l.steps;
      ticks : TakesAtMost (λ h. 5 * length l.runs.items * way h) (length l.self) l.initial.steps l.steps;
    }

abbrev pub decreases-loop-first : goal.decreases-loop-first
decreases-loop-first l = length l.self - l.line
