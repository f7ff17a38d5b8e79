use Rattle.std.proofs.Common.{refl}
use Rattle.view_moves.proofs.Computing.{view_moves}
use Rattle.view_moves.proofs.worked.worked_carets.Goals as goal

pub returns-clause-motions : goal.returns-clause-motions
unfolding view_moves
returns-clause-motions c = (refl, refl, refl, refl)

pub returns-clause-motion_over_inlay : goal.returns-clause-motion_over_inlay
unfolding view_moves
returns-clause-motion_over_inlay c = (refl, refl)

pub returns-clause-over_a_fold : goal.returns-clause-over_a_fold
unfolding view_moves
returns-clause-over_a_fold c = (refl, refl, refl)

pub returns-clause-over_blocks : goal.returns-clause-over_blocks
unfolding view_moves
returns-clause-over_blocks c = (refl, refl, refl)

pub returns-clause-below_a_block : goal.returns-clause-below_a_block
unfolding view_moves
returns-clause-below_a_block c = (refl, refl)

pub returns-clause-over_wide : goal.returns-clause-over_wide
unfolding view_moves
returns-clause-over_wide c = (refl, refl, refl, refl, refl)

pub returns-clause-below_an_indent : goal.returns-clause-below_an_indent
unfolding view_moves
returns-clause-below_an_indent c = (refl, refl, refl)

pub returns-clause-over_a_row_of_an_inlay : goal.returns-clause-over_a_row_of_an_inlay
unfolding view_moves
returns-clause-over_a_row_of_an_inlay c = (refl, refl, refl)
