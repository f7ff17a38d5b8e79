use Rattle.cell_units.specs.Text.{clean}
use Rattle.cell_units.proofs.TextLaws.{clean-no_return, clean-same, tells_boundaries}
use Rattle.cell_units.proofs.Characters.{clean-utf8}
use Rattle.cell_units.proofs.Points.{is_at_point}
use Rattle.cell_units.proofs.laws.text_laws.Goals as goal

pub returns-clause-no_return : goal.returns-clause-no_return
returns-clause-no_return c = clean-no_return

pub returns-clause-same : goal.returns-clause-same
returns-clause-same c = clean-same

pub returns-clause-again : goal.returns-clause-again
returns-clause-again c = λ bytes. clean-same (clean bytes) (clean-no_return bytes)

pub returns-clause-boundaries : goal.returns-clause-boundaries
returns-clause-boundaries c = tells_boundaries

pub returns-clause-clean_utf8 : goal.returns-clause-clean_utf8
returns-clause-clean_utf8 c = clean-utf8

pub returns-clause-points : goal.returns-clause-points
returns-clause-points c = λ text point bias utf8. is_at_point text utf8 point bias
