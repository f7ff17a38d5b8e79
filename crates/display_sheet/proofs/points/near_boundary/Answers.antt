use Rattle.std.proofs.Common.{sym, subst}
use Rattle.cell_units.specs.declared.place.Bias.{Bias}
use Rattle.cell_units.specs.Points.{IsNearBoundary}
use Rattle.display_sheet.proofs.NearBoundaries.{first-found, last-found}
use Rattle.display_sheet.proofs.points.near_boundary.Goals as goal

pub returns-in-Left : goal.returns-in-Left
returns-in-Left c =
    let text = c.args.text.now in
    let o = c.args.offset in
    let r = c.floor_char_boundary.result in
    let found = c.floor_char_boundary.ensures in
    subst (λ (bias : Bias). IsNearBoundary text o bias r) (sym c.in-Left.is)
    (last-found text c.utf8.text o r found.bound found.boundary found.nearest)

pub returns-in-Right : goal.returns-in-Right
returns-in-Right c =
    let text = c.args.text.now in
    let o = c.args.offset in
    let r = c.ceil_char_boundary.result in
    let found = c.ceil_char_boundary.ensures in
    subst (λ (bias : Bias). IsNearBoundary text o bias r) (sym c.in-Right.is)
    (first-found text c.utf8.text o r (found.bound c.requires) found.boundary found.nearest)
