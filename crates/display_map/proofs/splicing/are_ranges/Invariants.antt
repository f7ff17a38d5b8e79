use Rattle.std.proofs.Common.{◌≡◌, ◌*◌, ◌≤◌, drop}
use Rattle.display_sheet.specs.Changes.{are_ranges}
use Rattle.kept_sheet.specs.Bounds.{LooksAtMost}
use Rattle.display_map.proofs.splicing.are_ranges.Given as goal

abbrev pub invariant-loop-splice : goal.invariant-loop-splice
invariant-loop-splice g l =
    let text = (g.S.Sheet.kept l.sheet).text in
    record {
      test : are_ranges text l.from (drop l.splice-index l.splices) ≡ are_ranges text 0 l.splices;
      counted : l.initial.steps ≤ l.steps;
      took : LooksAtMost (2 * l.splice-index) (g.S.Sheet.kept l.sheet) l.initial.steps l.steps;
    }
