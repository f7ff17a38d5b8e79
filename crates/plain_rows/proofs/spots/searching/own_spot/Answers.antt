use Rattle.std.proofs.Common.{ℕ, length, List, arith, ap}
use Rattle.cell_units.specs.declared.place.Spot.{Spot}
use Rattle.cell_line.specs.declared.element.Element.{Element}
use Rattle.cell_line.specs.Wrapping.{cuts_of}
use Rattle.plain_rows.specs.Spots.{elements_at, elements_before}
use Rattle.plain_rows.proofs.LineSpots.{spot_in_line-row}
use Rattle.plain_rows.proofs.SpotShown.{spot-is}
use Rattle.plain_rows.proofs.SpotSizes.{first-few}
use Rattle.plain_rows.proofs.spots.searching.own_spot.Goals as goal

pub first_row-first-requires : goal.first_row-first-requires
first_row-first-requires g c = c.requires.within

pub overflow_add-result : goal.overflow_add-result
overflow_add-result g c =
    let r = g.R.SpotRows.kept c.args.rows.now in
    let is = c.requires in
    let aim = c.args.aim.now in
    omega (
      arith,
      c.first_row-first.ensures.rows,
      first-few r is.lawful is.short aim.number is.within,
      ap (λ (s : Spot). s.row) c.spot-within.ensures,
      spot_in_line-row aim.line.elements.items aim.line.width (elements_before aim.line.elements.items c.args.byte c.args.bias),
      ap length (ap (λ (es : List Element). cuts_of es aim.line.width) is.elements),
      ap (λ (w : ℕ). length (cuts_of (elements_at r aim.number) w)) is.width,
    )

pub returns-clause-spot : goal.returns-clause-spot
returns-clause-spot g c = λ o line byte.
    let r = g.R.SpotRows.kept c.args.rows.now in
    let is = c.requires in
    let aim = c.args.aim.now in
    spot-is r o c.args.bias aim.number c.args.byte c.first_row-first.result aim.line.elements.items aim.line.width c.spot-within.result
    line byte c.first_row-first.ensures.rows is.elements is.width c.spot-within.ensures
