use Rattle.std.proofs.Common.{refl}
use Rattle.undo_line.proofs.worked.worked_inverses.Goals as goal

pub returns-clause-of_touching : goal.returns-clause-of_touching
returns-clause-of_touching c = refl

pub returns-clause-without_nothing_by_nothing : goal.returns-clause-without_nothing_by_nothing
returns-clause-without_nothing_by_nothing c = refl

pub returns-clause-of_returns : goal.returns-clause-of_returns
returns-clause-of_returns c = refl
