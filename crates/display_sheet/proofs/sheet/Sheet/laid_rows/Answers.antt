use Rattle.std.proofs.Common.{ap, sym, ◌∙◌, subst}
use Rattle.cell_units.specs.Record.{Record}
use Rattle.plain_rows.specs.FoldedLines.{LaidOut}
use Rattle.plain_rows.specs.inside.SpotRows.{HasFirstRows, IsLaid}
use Rattle.display_sheet.proofs.SpotCounts.{laid-is, laid-same}
use Rattle.display_sheet.proofs.sheet.Sheet.laid_rows.Goals as goal

pub invariant_of-result : goal.invariant_of-result
invariant_of-result c =
    let v = c.self.inside in
    let r = c.args.self.now in
    let rows = c.as_slice-3.result.now in
    let is =
    laid-same v r c.self.view_is c.self.invariant c.source.result c.as_slice.result.now c.as_slice-2.result.now c.source.ensures (c.as_slice.ensures.value ∙ ap (λ v. v.items) c.deref.ensures)
    (c.as_slice-2.ensures.value ∙ c.requires.widths) in
    let has = subst (HasFirstRows r) (sym c.as_slice-3.ensures.value) c.requires.first_rows in
    subst (λ (r : Record). IsLaid r c.deref-2.result.now rows) (sym is)
    (subst (λ (lines : LaidOut). IsLaid r lines rows) (sym c.deref-2.ensures) (laid-is v r c.self.view_is c.self.invariant rows has))

pub returns : goal.returns
returns c =
    laid-same c.self.inside c.args.self.now c.self.view_is c.self.invariant c.source.result c.as_slice.result.now c.as_slice-2.result.now c.source.ensures
    (c.as_slice.ensures.value ∙ ap (λ v. v.items) c.deref.ensures)
    (c.as_slice-2.ensures.value ∙ c.requires.widths)
