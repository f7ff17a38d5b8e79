use Rattle.cell_units.proofs.Folding.{folded-inlaid}
use Rattle.cell_units.proofs.InlaidPlaces.{inlaid-unfolded, left-is, right-is}
use Rattle.cell_units.proofs.OneRow.{lines-in_one_row}
use Rattle.cell_units.proofs.laws.inlay_laws.Goals as goal

pub returns-clause-tokens : goal.returns-clause-tokens
returns-clause-tokens c = λ text inlays. folded-inlaid inlays text

pub returns-clause-left : goal.returns-clause-left
returns-clause-left c = left-is

pub returns-clause-right : goal.returns-clause-right
returns-clause-right c = right-is

pub returns-clause-one_row : goal.returns-clause-one_row
returns-clause-one_row c = lines-in_one_row

pub returns-clause-place : goal.returns-clause-place
returns-clause-place c = inlaid-unfolded
