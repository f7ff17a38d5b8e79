use Rattle.std.proofs.Common.{◌≡◌, List, ℕ, length, ap, subst, ◌∙◌, arith}
use Rattle.std.specs.Prelude.{◌↔◌, IsTrue}
use Rattle.cell_units.specs.Layers.{Source}
use Rattle.cell_units.specs.Text.{IsBoundary, is_boundary}
use Rattle.map_sheet.proofs.Readings.{same-test}
use Rattle.map_sheet.proofs.kept.MapSheetSheet.is_boundary.Goals as goal

pub returns-clause-test : goal.returns-clause-test
returns-clause-test c =
    let text : c.rope.result.now ≡ c.args.self.now.text = c.rope.ensures ∙ ap (λ (s : Source). s.text) c.text.ensures in
    same-test c.is_boundary.result (is_boundary c.args.self.now.text c.args.offset)
    (subst (λ (t : List ℕ). IsTrue c.is_boundary.result ↔ IsBoundary t c.args.offset) text c.is_boundary.ensures.test)
    (c.text_laws.ensures.boundaries c.args.self.now.text c.lawful.ensures.lawful.entries.source.text.0 c.args.offset)

pub returns-clause-steps : goal.returns-clause-steps
returns-clause-steps c h high =
    let text : c.rope.result.now ≡ c.args.self.now.text = c.rope.ensures ∙ ap (λ (s : Source). s.text) c.text.ensures in
    omega (arith, c.is_boundary.ensures.steps h (omega (arith, ap length text, high.text)))
