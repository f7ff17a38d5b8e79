use Rattle.std.proofs.Common.{◌≡◌, ℕ, List, length, sym, ap, subst, ◌∙◌, arith}
use Rattle.cell_units.specs.Record.{Record, opened}
use Rattle.cell_units.specs.Text.{IsText, clean}
use Rattle.cell_units.proofs.Characters.{clean-utf8}
use Rattle.cell_units.proofs.Returns.{clean-not_longer}
use Rattle.cell_units.proofs.TextLaws.{clean-no_return}
use Rattle.display_sheet.specs.Shown.{unstamped}
use Rattle.display_map.proofs.display.DisplayOn.start.Goals as goal

pub begun-requires-clause-text : goal.begun-requires-clause-text
begun-requires-clause-text g c =
    let bytes = c.args.bytes.now in
    let text : (g.S.Sheet.kept c.in_ok-opening.opening).text ≡ clean bytes = ap (λ (r : Record). r.text) c.in_ok-opening.ensures.cases in
    subst IsText (sym text) (clean-utf8 bytes c.in_ok-opening.ensures.accepted.1, clean-no_return bytes)

pub begun-requires-clause-short : goal.begun-requires-clause-short
begun-requires-clause-short g c =
    let bytes = c.args.bytes.now in
    let text : (g.S.Sheet.kept c.in_ok-opening.opening).text ≡ clean bytes = ap (λ (r : Record). r.text) c.in_ok-opening.ensures.cases in
    omega (arith, ap length text, clean-not_longer bytes, c.in_ok-opening.ensures.accepted.0)

pub begun-requires-clause-opened : goal.begun-requires-clause-opened
begun-requires-clause-opened g c =
    let bytes = c.args.bytes.now in
    let text : (g.S.Sheet.kept c.in_ok-opening.opening).text ≡ clean bytes = ap (λ (r : Record). r.text) c.in_ok-opening.ensures.cases in
    c.in_ok-opening.ensures.cases ∙ ap (λ (t : List ℕ). unstamped (opened t)) (sym text)
