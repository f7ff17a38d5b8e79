use Rattle.std.proofs.Common.{◌≡◌, subst}
use Rattle.std.specs.Result.{IfOk}
use Rattle.cell_units.specs.declared.place.Spot.{Spot}
use Rattle.cell_units.specs.Record.{Record}
use Rattle.plain_rows.specs.Spots.{clip}
use Rattle.display_sheet.proofs.Unstamped.{clip-unstamped}
use Rattle.display_map.proofs.Views.{read}
use Rattle.display_map.proofs.view.ViewOn.clip.Goals as goal

pub returns-clause-nearest : goal.returns-clause-nearest
returns-clause-nearest g c =
    let spot = c.args.spot in
    let bias = c.args.bias in
    let same = read c.self.invariant c.self.view_is (λ (r : Record). clip r spot bias) (λ r. clip-unstamped r spot bias) in
    subst (λ (own : Spot). IfOk c.clip.result (λ nearest. nearest ≡ own)) same c.clip.ensures.nearest
