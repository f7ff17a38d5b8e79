use Rattle.std.proofs.Common.{refl}
use Rattle.row_pieces.proofs.Computing.{row_pieces}
use Rattle.row_pieces.proofs.worked.worked_pieces.Goals as goal

pub returns-clause-empty_text : goal.returns-clause-empty_text
unfolding row_pieces
returns-clause-empty_text c = refl

pub returns-clause-tab_indent : goal.returns-clause-tab_indent
unfolding row_pieces
returns-clause-tab_indent c = refl

pub returns-clause-two_tabs : goal.returns-clause-two_tabs
unfolding row_pieces
returns-clause-two_tabs c = refl

pub returns-clause-type_inlay : goal.returns-clause-type_inlay
unfolding row_pieces
returns-clause-type_inlay c = refl

pub returns-clause-two_inlays : goal.returns-clause-two_inlays
unfolding row_pieces
returns-clause-two_inlays c = refl

pub returns-clause-tab_in_inlay : goal.returns-clause-tab_in_inlay
unfolding row_pieces
returns-clause-tab_in_inlay c = refl

pub returns-clause-inlay_over_rows : goal.returns-clause-inlay_over_rows
unfolding row_pieces
returns-clause-inlay_over_rows c = refl

pub returns-clause-inlay_with_break : goal.returns-clause-inlay_with_break
unfolding row_pieces
returns-clause-inlay_with_break c = refl

pub returns-clause-function_fold : goal.returns-clause-function_fold
unfolding row_pieces
returns-clause-function_fold c = refl

pub returns-clause-joined_folds : goal.returns-clause-joined_folds
unfolding row_pieces
returns-clause-joined_folds c = refl

pub returns-clause-touching_folds : goal.returns-clause-touching_folds
unfolding row_pieces
returns-clause-touching_folds c = refl

pub returns-clause-fold_at_the_end : goal.returns-clause-fold_at_the_end
unfolding row_pieces
returns-clause-fold_at_the_end c = refl

pub returns-clause-emoji_rows : goal.returns-clause-emoji_rows
unfolding row_pieces
returns-clause-emoji_rows c = refl

pub returns-clause-wide_cells : goal.returns-clause-wide_cells
unfolding row_pieces
returns-clause-wide_cells c = refl

pub returns-clause-blocks_between : goal.returns-clause-blocks_between
unfolding row_pieces
returns-clause-blocks_between c = refl

pub returns-clause-ordinary_source : goal.returns-clause-ordinary_source
unfolding row_pieces
returns-clause-ordinary_source c = refl
