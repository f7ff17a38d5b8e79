use Rattle.std.proofs.Common.{rules, ◌≡◌, true, ℕ, ◌∙◌}
use Rattle.cell_units.specs.Record.{Record}
use Rattle.cell_units.specs.Text.{is_boundary}
use Rattle.cell_units.proofs.TextLaws.{tells_boundaries}
use Rattle.plain_rows.specs.Spots.{show}
use Rattle.display_sheet.proofs.Unstamped.{show-unstamped}
use Rattle.display_map.proofs.Views.{read}
use Rattle.display_map.proofs.view.ViewOn.show.Goals as goal

pub show-requires : goal.show-requires
show-requires g c =
    let o : ℕ = c.args.offset in
    let text = (g.S.Sheet.kept c.self.inside.sheet).text in
    let test : is_boundary text o ≡ true = search rules in
    (tells_boundaries text c.is_boundary.ensures.lawful.entries.source.text.0 o).0 test

pub returns-clause-shown : goal.returns-clause-shown
returns-clause-shown g c =
    let o : ℕ = c.args.offset in
    let bias = c.args.bias in
    c.in_ok-show.ensures.shown ∙ read c.self.invariant c.self.view_is (λ (r : Record). show r o bias) (λ r. show-unstamped r o bias)
