use Rattle.std.proofs.Common.{◌≡◌, ◌≤◌, ◌<◌, ℕ, List, length, ap, sym, subst, arith}
use Rattle.std.specs.Result.{IfOk}
use Rattle.cell_units.specs.Lawful.{IsWidth}
use Rattle.cell_line.specs.declared.element.Element.{Element}
use Rattle.cell_line.specs.Elements.{total_cells}
use Rattle.plain_rows.specs.inside.SpotRows.{cells_limit}
use Rattle.plain_rows.proofs.SpotSizes.{cells-few, elements-count}
use Rattle.map_sheet.proofs.Readings.{line-elements, line-there, line-width, width-is}
use Rattle.map_sheet.proofs.Sent.{sheet_sent}
use Rattle.map_sheet.proofs.spots.MapSheetSpotRows.row_line.Goals as goal

pub elements-requires : goal.elements-requires
elements-requires c =
    subst (λ (ls : List (List Element)). c.args.line < length ls) (sym c.lines.ensures)
    (line-there c.args.self.now c.lawful.ensures.lawful c.lawful.ensures.short c.wrapped.result.now c.wrapped.ensures c.args.line c.requires)

pub mark-width-requires-after_bounds : goal.mark-width-requires-after_bounds
mark-width-requires-after_bounds c κs =
    subst (λ s. c.args.line < length s.lines) (sym c.rows.ensures)
    (line-there c.args.self.now c.lawful.ensures.lawful c.lawful.ensures.short c.wrapped-2.result.now c.wrapped-2.ensures c.args.line c.requires)

pub new-requires-clause-few : goal.new-requires-clause-few
new-requires-clause-few c =
    let is = line-elements c.args.self.now c.wrapped.result.now c.wrapped.ensures c.lines.result.now c.lines.ensures c.args.line c.in_ok-elements.elements.items c.in_ok-elements.ensures in
    subst (λ (es : List Element). total_cells es ≤ cells_limit) (sym is) (cells-few c.args.self.now c.lawful.ensures.lawful c.lawful.ensures.short c.args.line c.requires)

pub new-requires-clause-count : goal.new-requires-clause-count
new-requires-clause-count c =
    let is = line-elements c.args.self.now c.wrapped.result.now c.wrapped.ensures c.lines.result.now c.lines.ensures c.args.line c.in_ok-elements.elements.items c.in_ok-elements.ensures in
    omega (arith, ap length is, elements-count c.args.self.now c.lawful.ensures.lawful c.lawful.ensures.short c.args.line c.requires)

pub new-requires-clause-width : goal.new-requires-clause-width
new-requires-clause-width c =
    let is = line-width c.args.self.now c.lawful.ensures.lawful c.lawful.ensures.short c.wrapped-2.result.now c.wrapped-2.ensures c.rows.result.now c.rows.ensures c.args.line c.requires c.mark-width.result c.mark-width.ensures.mark in
    subst IsWidth (sym is) (width-is c.args.self.now c.lawful.ensures.lawful c.lawful.ensures.short c.args.line c.requires)

pub returns-clause-elements : goal.returns-clause-elements
returns-clause-elements c =
    let is = line-elements c.args.self.now c.wrapped.result.now c.wrapped.ensures c.lines.result.now c.lines.ensures c.args.line c.in_ok-elements.elements.items c.in_ok-elements.ensures in
    subst (λ (es : List Element). IfOk c.new.result (λ found. found.elements.items ≡ es)) is c.new.ensures.elements

pub returns-clause-width : goal.returns-clause-width
returns-clause-width c =
    let is = line-width c.args.self.now c.lawful.ensures.lawful c.lawful.ensures.short c.wrapped-2.result.now c.wrapped-2.ensures c.rows.result.now c.rows.ensures c.args.line c.requires c.mark-width.result c.mark-width.ensures.mark in
    subst (λ (w : ℕ). IfOk c.new.result (λ found. found.width ≡ w)) is c.new.ensures.width

pub lines-requires-send-L : goal.lines-requires-send-L
lines-requires-send-L c κs = search sheet_sent depth 12 fits 4000

pub lines-requires-sync-L : goal.lines-requires-sync-L
lines-requires-sync-L c κs = search sheet_sent depth 12 fits 4000

pub rows-requires-send-L : goal.rows-requires-send-L
rows-requires-send-L c κs = search sheet_sent depth 12 fits 4000

pub rows-requires-sync-L : goal.rows-requires-sync-L
rows-requires-sync-L c κs = search sheet_sent depth 12 fits 4000

pub mark-width-requires-send-N : goal.mark-width-requires-send-N
mark-width-requires-send-N c κs = search sheet_sent depth 12 fits 4000

pub mark-width-requires-sync-N : goal.mark-width-requires-sync-N
mark-width-requires-sync-N c κs = search sheet_sent depth 12 fits 4000
