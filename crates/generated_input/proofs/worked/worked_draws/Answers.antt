-- By computation.
use Rattle.std.proofs.Common.{refl}
use Rattle.generated_input.specs.Drawing.{times, draw}
use Rattle.generated_input.proofs.worked.worked_draws.Goals as goal

pub returns-clause-zero : goal.returns-clause-zero
unfolding times draw
returns-clause-zero c = refl

pub returns-clause-seven : goal.returns-clause-seven
unfolding times draw
returns-clause-seven c = refl

pub returns-clause-greatest : goal.returns-clause-greatest
unfolding times draw
returns-clause-greatest c = refl

pub returns-clause-state : goal.returns-clause-state
unfolding times draw
returns-clause-state c = refl
