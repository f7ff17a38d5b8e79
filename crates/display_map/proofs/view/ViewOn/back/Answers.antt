use Rattle.std.proofs.Common.{◌≡◌, ℕ, subst}
use Rattle.std.specs.Result.{IfOk}
use Rattle.cell_units.specs.Record.{Record}
use Rattle.plain_rows.specs.Spots.{back}
use Rattle.display_sheet.proofs.Unstamped.{back-unstamped}
use Rattle.display_map.proofs.Views.{read}
use Rattle.display_map.proofs.view.ViewOn.back.Goals as goal

pub returns-clause-offset : goal.returns-clause-offset
returns-clause-offset g c =
    let spot = c.args.spot in
    let bias = c.args.bias in
    let same = read c.self.invariant c.self.view_is (λ (r : Record). back r spot bias) (λ r. back-unstamped r spot bias) in
    subst (λ (own : ℕ). IfOk c.back.result (λ offset. offset ≡ own)) same c.back.ensures.offset
