use Rattle.cell_units.proofs.FoldedPlaces.{place-behind, places-apart, places-within}
use Rattle.cell_units.proofs.Folding.{folded-folded}
use Rattle.cell_units.proofs.laws.folding_laws.Goals as goal

pub returns-clause-tokens : goal.returns-clause-tokens
returns-clause-tokens c = λ text inlays folds. folded-folded folds inlays text

pub returns-clause-apart : goal.returns-clause-apart
returns-clause-apart c = λ source o p h. places-apart source.text source.inlays source.folds o p h.order h.within h.start_open h.end_open h.none

pub returns-clause-behind : goal.returns-clause-behind
returns-clause-behind c = λ source start end j. place-behind source.text source.inlays source.folds start end j

pub returns-clause-inside : goal.returns-clause-inside
returns-clause-inside c = λ source start end o j. places-within source.text source.inlays source.folds start end o j
