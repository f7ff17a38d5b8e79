use Rattle.std.proofs.Common.{refl}
use Rattle.plain_rows.proofs.Computing.{plain_rows}
use Rattle.plain_rows.proofs.worked.worked_rows.Goals as goal

pub returns-clause-empty_text : goal.returns-clause-empty_text
unfolding plain_rows
returns-clause-empty_text c = refl

pub returns-clause-crlf : goal.returns-clause-crlf
unfolding plain_rows
returns-clause-crlf c = refl

pub returns-clause-hundred_letters : goal.returns-clause-hundred_letters
unfolding plain_rows
returns-clause-hundred_letters c = refl

pub returns-clause-hanging_blank : goal.returns-clause-hanging_blank
unfolding plain_rows
returns-clause-hanging_blank c = refl

pub returns-clause-tab_indent : goal.returns-clause-tab_indent
unfolding plain_rows
returns-clause-tab_indent c = refl

pub returns-clause-long_word : goal.returns-clause-long_word
unfolding plain_rows
returns-clause-long_word c = refl

pub returns-clause-wide_cells : goal.returns-clause-wide_cells
unfolding plain_rows
returns-clause-wide_cells c = refl

pub returns-clause-indent_half : goal.returns-clause-indent_half
unfolding plain_rows
returns-clause-indent_half c = refl

pub returns-clause-type_inlay : goal.returns-clause-type_inlay
unfolding plain_rows
returns-clause-type_inlay c = refl

pub returns-clause-function_fold : goal.returns-clause-function_fold
unfolding plain_rows
returns-clause-function_fold c = refl

pub returns-clause-emoji_rows : goal.returns-clause-emoji_rows
unfolding plain_rows
returns-clause-emoji_rows c = refl

pub returns-clause-block_above : goal.returns-clause-block_above
unfolding plain_rows
returns-clause-block_above c = refl

pub returns-clause-blocks_between : goal.returns-clause-blocks_between
unfolding plain_rows
returns-clause-blocks_between c = refl

pub returns-clause-touching_insertions : goal.returns-clause-touching_insertions
unfolding plain_rows
returns-clause-touching_insertions c = refl

pub returns-clause-inlay_between_replacements : goal.returns-clause-inlay_between_replacements
unfolding plain_rows
returns-clause-inlay_between_replacements c = refl

pub returns-clause-edit_replaces : goal.returns-clause-edit_replaces
unfolding plain_rows
returns-clause-edit_replaces c = refl

pub returns-clause-joined_folds : goal.returns-clause-joined_folds
unfolding plain_rows
returns-clause-joined_folds c = refl

pub returns-clause-touching_folds : goal.returns-clause-touching_folds
unfolding plain_rows
returns-clause-touching_folds c = refl

pub returns-clause-fold_dropped : goal.returns-clause-fold_dropped
unfolding plain_rows
returns-clause-fold_dropped c = refl

pub returns-clause-inlay_with_break : goal.returns-clause-inlay_with_break
unfolding plain_rows
returns-clause-inlay_with_break c = refl

pub returns-clause-inlay_only_break : goal.returns-clause-inlay_only_break
unfolding plain_rows
returns-clause-inlay_only_break c = refl

pub returns-clause-block_at_placeholder : goal.returns-clause-block_at_placeholder
unfolding plain_rows
returns-clause-block_at_placeholder c = refl

pub returns-clause-blocks_around_inlay_break : goal.returns-clause-blocks_around_inlay_break
unfolding plain_rows
returns-clause-blocks_around_inlay_break c = refl

pub returns-clause-ordinary_source : goal.returns-clause-ordinary_source
unfolding plain_rows
returns-clause-ordinary_source c = refl

pub returns-clause-ordinary_source_folded : goal.returns-clause-ordinary_source_folded
unfolding plain_rows
returns-clause-ordinary_source_folded c = refl

pub returns-clause-point_edit : goal.returns-clause-point_edit
unfolding plain_rows
returns-clause-point_edit c = refl

pub returns-clause-two_views : goal.returns-clause-two_views
unfolding plain_rows
returns-clause-two_views c = refl

pub returns-clause-undo_and_redo : goal.returns-clause-undo_and_redo
unfolding plain_rows
returns-clause-undo_and_redo c = refl

pub returns-clause-ten_lines : goal.returns-clause-ten_lines
unfolding plain_rows
returns-clause-ten_lines c = refl

pub returns-clause-changed_back : goal.returns-clause-changed_back
unfolding plain_rows
returns-clause-changed_back c = refl

pub returns-clause-block_above_inlay_break : goal.returns-clause-block_above_inlay_break
unfolding plain_rows
returns-clause-block_above_inlay_break c = refl

pub returns-clause-tab_of_eight : goal.returns-clause-tab_of_eight
unfolding plain_rows
returns-clause-tab_of_eight c = refl
