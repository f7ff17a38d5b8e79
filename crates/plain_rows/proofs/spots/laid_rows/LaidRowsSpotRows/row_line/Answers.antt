use Rattle.std.proofs.Common.{◌≡◌, Some, length, arith, ap, sym, ◌∙◌, subst}
use Rattle.std.proofs.lemmas.List.{length-map}
use Rattle.std.proofs.lemmas.Result.{IfOk-weaker}
use Rattle.cell_units.specs.Lawful.{IsWidth}
use Rattle.cell_units.specs.Record.{Mark}
use Rattle.cell_line.specs.Elements.{total_cells}
use Rattle.plain_rows.specs.Spots.{elements_at, mark_at}
use Rattle.plain_rows.proofs.SpotShown.{elements-found, rows-are, width-found}
use Rattle.plain_rows.proofs.SpotSizes.{cells-few, elements-count, width-lawful}
use Rattle.plain_rows.proofs.spots.laid_rows.LaidRowsSpotRows.row_line.Goals as goal

pub elements-requires-clause-fits : goal.elements-requires-clause-fits
elements-requires-clause-fits c =
    let rows = c.self.inside in
    let r = c.args.self.now in
    let are = rows-are rows r c.self.view_is c.self.invariant in
    omega (arith, ap total_cells (elements-found rows r are c.args.line c.deref.result.now c.requires (c.in_ok-pieces.ensures ∙ ap Some (sym c.deref.ensures.value))), cells-few r are.lawful are.size c.args.line c.requires)

pub bounds-self-inside-line : goal.bounds-self-inside-line
bounds-self-inside-line c =
    let rows = c.self.inside in
    let r = c.args.self.now in
    let are = rows-are rows r c.self.view_is c.self.invariant in
    omega (arith, c.requires, ap length are.widths, length-map r.marks (λ (m : Mark). m.width))

pub new-requires-clause-few : goal.new-requires-clause-few
new-requires-clause-few c =
    let rows = c.self.inside in
    let r = c.args.self.now in
    let are = rows-are rows r c.self.view_is c.self.invariant in
    omega (
      arith,
      ap total_cells c.in_ok-elements.ensures,
      ap total_cells (elements-found rows r are c.args.line c.deref.result.now c.requires (c.in_ok-pieces.ensures ∙ ap Some (sym c.deref.ensures.value))),
      cells-few r are.lawful are.size c.args.line c.requires,
    )

pub new-requires-clause-count : goal.new-requires-clause-count
new-requires-clause-count c =
    let rows = c.self.inside in
    let r = c.args.self.now in
    let are = rows-are rows r c.self.view_is c.self.invariant in
    omega (
      arith,
      ap length c.in_ok-elements.ensures,
      ap length (elements-found rows r are c.args.line c.deref.result.now c.requires (c.in_ok-pieces.ensures ∙ ap Some (sym c.deref.ensures.value))),
      elements-count r are.lawful are.size c.args.line c.requires,
    )

pub new-requires-clause-width : goal.new-requires-clause-width
new-requires-clause-width c =
    let rows = c.self.inside in
    let r = c.args.self.now in
    let are = rows-are rows r c.self.view_is c.self.invariant in
    subst IsWidth (sym (width-found rows r are c.args.line c.requires)) (width-lawful r are.lawful are.size c.args.line c.requires)

pub returns-clause-elements : goal.returns-clause-elements
returns-clause-elements c =
    let rows = c.self.inside in
    let r = c.args.self.now in
    let are = rows-are rows r c.self.view_is c.self.invariant in
    IfOk-weaker c.new.result _ (λ found. found.elements.items ≡ elements_at r c.args.line)
    (λ found e. e ∙ c.in_ok-elements.ensures ∙ elements-found rows r are c.args.line c.deref.result.now c.requires (c.in_ok-pieces.ensures ∙ ap Some (sym c.deref.ensures.value)))
    c.new.ensures.elements

pub returns-clause-width : goal.returns-clause-width
returns-clause-width c =
    let rows = c.self.inside in
    let r = c.args.self.now in
    let are = rows-are rows r c.self.view_is c.self.invariant in
    IfOk-weaker c.new.result _ (λ found. found.width ≡ (mark_at r c.args.line).width) (λ found e. e ∙ width-found rows r are c.args.line c.requires) c.new.ensures.width
