use Rattle.std.proofs.Common.{refl}
use Rattle.plain_rows.proofs.Computing.{plain_rows}
use Rattle.plain_rows.proofs.worked.worked_elements.Goals as goal

pub returns-clause-tab_elements : goal.returns-clause-tab_elements
unfolding plain_rows
returns-clause-tab_elements c = refl

pub returns-clause-hello_cuts : goal.returns-clause-hello_cuts
unfolding plain_rows
returns-clause-hello_cuts c = (refl, refl)

pub returns-clause-function_fold : goal.returns-clause-function_fold
unfolding plain_rows
returns-clause-function_fold c = refl

pub returns-clause-combining_mark : goal.returns-clause-combining_mark
unfolding plain_rows
returns-clause-combining_mark c = refl

pub returns-clause-zero_width_space : goal.returns-clause-zero_width_space
unfolding plain_rows
returns-clause-zero_width_space c = refl

pub returns-clause-emoji : goal.returns-clause-emoji
unfolding plain_rows
returns-clause-emoji c = refl
