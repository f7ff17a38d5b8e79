-- A boundary of the text is one of the bytes that are lent.
use Rattle.std.proofs.Common.{◌≡◌, ℕ, List, ap, sym, subst, ◌∙◌}
use Rattle.std.specs.Str.{IsCharBoundary, IsUtf8}
use Rattle.cell_units.specs.Record.{Record}
use Rattle.cell_units.specs.Text.{IsBoundary}
use Rattle.cell_units.proofs.Boundaries.{boundary_from_test}
use Rattle.cell_units.proofs.TextLaws.{tells_boundaries}
use Rattle.display_sheet.proofs.sheet.Sheet.slice.Goals as goal

lent : (text own : List ℕ) (o : ℕ) → IsUtf8 own → text ≡ own → IsBoundary text o → IsCharBoundary own o
lent text own o utf8 same at = boundary_from_test own o ((tells_boundaries own utf8 o).1 (subst (λ (t : List ℕ). IsBoundary t o) same at))

pub range-requires-clause-start_boundary : goal.range-requires-clause-start_boundary
range-requires-clause-start_boundary c some =
    let text = sym (ap (λ (r : Record). r.text) c.self.view_is) ∙ sym c.deref.ensures ∙ sym c.as_str.ensures.text in
    lent c.args.self.now.text c.as_str.result.now c.args.start c.as_str.utf8 text c.requires.start

pub range-requires-clause-end_boundary : goal.range-requires-clause-end_boundary
range-requires-clause-end_boundary c =
    let text = sym (ap (λ (r : Record). r.text) c.self.view_is) ∙ sym c.deref.ensures ∙ sym c.as_str.ensures.text in
    lent c.args.self.now.text c.as_str.result.now c.args.end c.as_str.utf8 text c.requires.end
