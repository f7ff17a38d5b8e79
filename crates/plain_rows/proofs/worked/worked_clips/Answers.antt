use Rattle.std.proofs.Common.{refl}
use Rattle.plain_rows.proofs.Computing.{plain_rows}
use Rattle.plain_rows.proofs.worked.worked_clips.Goals as goal

pub returns-clause-hanging_blank : goal.returns-clause-hanging_blank
unfolding plain_rows
returns-clause-hanging_blank c = refl

pub returns-clause-tab_indent_left : goal.returns-clause-tab_indent_left
unfolding plain_rows
returns-clause-tab_indent_left c = refl

pub returns-clause-tab_indent_right : goal.returns-clause-tab_indent_right
unfolding plain_rows
returns-clause-tab_indent_right c = refl

pub returns-clause-type_inlay : goal.returns-clause-type_inlay
unfolding plain_rows
returns-clause-type_inlay c = refl

pub returns-clause-block_above : goal.returns-clause-block_above
unfolding plain_rows
returns-clause-block_above c = (refl, refl)

pub returns-clause-blocks_between : goal.returns-clause-blocks_between
unfolding plain_rows
returns-clause-blocks_between c = (refl, refl)

pub returns-clause-inlay_with_break : goal.returns-clause-inlay_with_break
unfolding plain_rows
returns-clause-inlay_with_break c = (refl, refl)

pub returns-clause-view_answers : goal.returns-clause-view_answers
unfolding plain_rows
returns-clause-view_answers c = refl
