-- By computation.
use Rattle.std.proofs.Common.{refl}
use Rattle.std.specs.Fmt.{digits}
use Rattle.generated_input.specs.Drawing.{draw, times}
use Rattle.generated_input.specs.Made.{letter, word, edit_line, inlay_line, fold_line, block_line, width_line, rows_line, display_line, script_line, script_lines}
use Rattle.generated_input.proofs.worked.worked_scripts.Goals as goal

pub returns-clause-edit : goal.returns-clause-edit
unfolding draw times letter word edit_line inlay_line fold_line block_line width_line rows_line display_line script_line script_lines digits
returns-clause-edit c = refl

pub returns-clause-shorter : goal.returns-clause-shorter
unfolding draw times letter word edit_line inlay_line fold_line block_line width_line rows_line display_line script_line script_lines digits
returns-clause-shorter c = refl

pub returns-clause-inlay : goal.returns-clause-inlay
unfolding draw times letter word edit_line inlay_line fold_line block_line width_line rows_line display_line script_line script_lines digits
returns-clause-inlay c = refl

pub returns-clause-fold : goal.returns-clause-fold
unfolding draw times letter word edit_line inlay_line fold_line block_line width_line rows_line display_line script_line script_lines digits
returns-clause-fold c = refl

pub returns-clause-block : goal.returns-clause-block
unfolding draw times letter word edit_line inlay_line fold_line block_line width_line rows_line display_line script_line script_lines digits
returns-clause-block c = refl

pub returns-clause-width : goal.returns-clause-width
unfolding draw times letter word edit_line inlay_line fold_line block_line width_line rows_line display_line script_line script_lines digits
returns-clause-width c = refl

pub returns-clause-rows : goal.returns-clause-rows
unfolding draw times letter word edit_line inlay_line fold_line block_line width_line rows_line display_line script_line script_lines digits
returns-clause-rows c = refl

pub returns-clause-display : goal.returns-clause-display
unfolding draw times letter word edit_line inlay_line fold_line block_line width_line rows_line display_line script_line script_lines digits
returns-clause-display c = refl

pub returns-clause-last_edit : goal.returns-clause-last_edit
unfolding draw times letter word edit_line inlay_line fold_line block_line width_line rows_line display_line script_line script_lines digits
returns-clause-last_edit c = refl

pub returns-clause-cut_at_the_end : goal.returns-clause-cut_at_the_end
unfolding draw times letter word edit_line inlay_line fold_line block_line width_line rows_line display_line script_line script_lines digits
returns-clause-cut_at_the_end c = refl

pub returns-clause-growing : goal.returns-clause-growing
unfolding draw times letter word edit_line inlay_line fold_line block_line width_line rows_line display_line script_line script_lines digits
returns-clause-growing c = refl
