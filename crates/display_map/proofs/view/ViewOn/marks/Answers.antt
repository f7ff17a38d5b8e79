use Rattle.std.proofs.Common.{◌≡◌, List, subst}
use Rattle.std.specs.Result.{IfOk}
use Rattle.cell_line.specs.declared.lines.MarkRun.{MarkRun}
use Rattle.display_sheet.specs.Shown.{mark_runs}
use Rattle.display_sheet.proofs.Unstamped.{mark_runs-unstamped}
use Rattle.display_map.proofs.Views.{read}
use Rattle.display_map.proofs.view.ViewOn.marks.Goals as goal

pub returns-clause-runs : goal.returns-clause-runs
returns-clause-runs g c =
    let same = read c.self.invariant c.self.view_is mark_runs mark_runs-unstamped in
    subst (λ (own : List MarkRun). IfOk c.marks.result (λ runs. runs.items ≡ own)) same c.marks.ensures.runs
