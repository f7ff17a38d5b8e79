use Rattle.std.proofs.Common.{refl}
use Rattle.plain_rows.proofs.Computing.{plain_rows}
use Rattle.plain_rows.proofs.worked.worked_backs.Goals as goal

pub returns-clause-type_inlay_left : goal.returns-clause-type_inlay_left
unfolding plain_rows
returns-clause-type_inlay_left c = refl

pub returns-clause-type_inlay_right : goal.returns-clause-type_inlay_right
unfolding plain_rows
returns-clause-type_inlay_right c = refl

pub returns-clause-function_fold_before_left : goal.returns-clause-function_fold_before_left
unfolding plain_rows
returns-clause-function_fold_before_left c = refl

pub returns-clause-function_fold_before_right : goal.returns-clause-function_fold_before_right
unfolding plain_rows
returns-clause-function_fold_before_right c = refl

pub returns-clause-function_fold_behind_left : goal.returns-clause-function_fold_behind_left
unfolding plain_rows
returns-clause-function_fold_behind_left c = refl

pub returns-clause-function_fold_behind_right : goal.returns-clause-function_fold_behind_right
unfolding plain_rows
returns-clause-function_fold_behind_right c = refl

pub returns-clause-zero_width_space : goal.returns-clause-zero_width_space
unfolding plain_rows
returns-clause-zero_width_space c = (refl, refl)

pub returns-clause-combining_mark : goal.returns-clause-combining_mark
unfolding plain_rows
returns-clause-combining_mark c = (refl, refl)

pub returns-clause-block_above : goal.returns-clause-block_above
unfolding plain_rows
returns-clause-block_above c = refl

pub returns-clause-inlay_with_break : goal.returns-clause-inlay_with_break
unfolding plain_rows
returns-clause-inlay_with_break c = refl

pub returns-clause-ordinary_source_folded : goal.returns-clause-ordinary_source_folded
unfolding plain_rows
returns-clause-ordinary_source_folded c = refl

pub returns-clause-view_answers : goal.returns-clause-view_answers
unfolding plain_rows
returns-clause-view_answers c = refl
