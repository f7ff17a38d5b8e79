use Rattle.std.proofs.Common.{refl}
use Rattle.view_moves.proofs.Computing.{view_moves}
use Rattle.view_moves.proofs.worked.worked_selections.Goals as goal

pub returns-clause-select_two_rows : goal.returns-clause-select_two_rows
unfolding view_moves
returns-clause-select_two_rows c = (refl, refl)

pub returns-clause-over_a_fold : goal.returns-clause-over_a_fold
unfolding view_moves
returns-clause-over_a_fold c = refl

pub returns-clause-over_blocks : goal.returns-clause-over_blocks
unfolding view_moves
returns-clause-over_blocks c = refl

pub returns-clause-of_blocks_alone : goal.returns-clause-of_blocks_alone
unfolding view_moves
returns-clause-of_blocks_alone c = refl

pub returns-clause-over_indents : goal.returns-clause-over_indents
unfolding view_moves
returns-clause-over_indents c = refl

pub returns-clause-inside_wide : goal.returns-clause-inside_wide
unfolding view_moves
returns-clause-inside_wide c = refl

pub returns-clause-at_zero_width : goal.returns-clause-at_zero_width
unfolding view_moves
returns-clause-at_zero_width c = refl

pub returns-clause-over_a_row_of_an_inlay : goal.returns-clause-over_a_row_of_an_inlay
unfolding view_moves
returns-clause-over_a_row_of_an_inlay c = refl
