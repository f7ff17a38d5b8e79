use Rattle.std.proofs.Common.{ℕ, ◌<◌, length, List, arith, ap}
use Rattle.cell_line.specs.declared.element.Element.{Element}
use Rattle.cell_line.specs.Wrapping.{cuts_of}
use Rattle.plain_rows.specs.Spots.{elements_at, elements_before}
use Rattle.plain_rows.proofs.LineSpots.{spot_in_line-row}
use Rattle.plain_rows.proofs.SpotFronts.{line_of-within}
use Rattle.plain_rows.proofs.SpotShown.{spot-is}
use Rattle.plain_rows.proofs.SpotSizes.{first-few}
use Rattle.plain_rows.proofs.spots.showing.show_in.Goals as goal

pub row_line-requires : goal.row_line-requires
row_line-requires g c =
    omega (arith, c.place-place.ensures.line, line_of-within (g.R.SpotRows.kept c.args.rows.now) c.text_len.ensures.lawful c.args.offset c.args.bias c.requires.0)

pub first_row-first-requires : goal.first_row-first-requires
first_row-first-requires g c =
    omega (arith, c.place-place.ensures.line, line_of-within (g.R.SpotRows.kept c.args.rows.now) c.text_len.ensures.lawful c.args.offset c.args.bias c.requires.0)

pub overflow_add-result : goal.overflow_add-result
overflow_add-result g c =
    let r = g.R.SpotRows.kept c.args.rows.now in
    let lawful = c.text_len.ensures.lawful in
    let line = c.place-place.result.0 in
    let lt : line < length r.marks = omega (arith, c.place-place.ensures.line, line_of-within r lawful c.args.offset c.args.bias c.requires.0) in
    let found = c.in_ok-line.line in
    omega (
      arith,
      c.first_row-first.ensures.rows,
      first-few r lawful c.text_len.ensures.short line lt,
      ap (λ s. s.row) c.spot-within.ensures,
      spot_in_line-row found.elements.items found.width (elements_before found.elements.items c.place-place.result.1 c.args.bias),
      ap length (ap (λ (es : List Element). cuts_of es found.width) c.in_ok-line.ensures.elements),
      ap (λ (w : ℕ). length (cuts_of (elements_at r line) w)) c.in_ok-line.ensures.width,
    )

pub returns-clause-spot : goal.returns-clause-spot
returns-clause-spot g c =
    let r = g.R.SpotRows.kept c.args.rows.now in
    let found = c.in_ok-line.line in
    spot-is r c.args.offset c.args.bias c.place-place.result.0 c.place-place.result.1 c.first_row-first.result found.elements.items found.width c.spot-within.result
    c.place-place.ensures.line c.place-place.ensures.byte c.first_row-first.ensures.rows c.in_ok-line.ensures.elements c.in_ok-line.ensures.width c.spot-within.ensures
