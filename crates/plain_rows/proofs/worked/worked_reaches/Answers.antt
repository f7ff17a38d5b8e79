use Rattle.std.proofs.Common.{refl}
use Rattle.plain_rows.proofs.Computing.{plain_rows}
use Rattle.plain_rows.proofs.worked.worked_reaches.Goals as goal

pub returns-clause-letter : goal.returns-clause-letter
unfolding plain_rows
returns-clause-letter c = refl

pub returns-clause-two_lines : goal.returns-clause-two_lines
unfolding plain_rows
returns-clause-two_lines c = refl

pub returns-clause-removed_pieces : goal.returns-clause-removed_pieces
unfolding plain_rows
returns-clause-removed_pieces c = refl

pub returns-clause-entries : goal.returns-clause-entries
unfolding plain_rows
returns-clause-entries c = refl

pub returns-clause-inlay : goal.returns-clause-inlay
unfolding plain_rows
returns-clause-inlay c = refl

pub returns-clause-tab : goal.returns-clause-tab
unfolding plain_rows
returns-clause-tab c = refl

pub returns-clause-width : goal.returns-clause-width
unfolding plain_rows
returns-clause-width c = refl
