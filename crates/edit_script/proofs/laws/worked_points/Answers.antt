-- By computation.
use Rattle.std.proofs.Common.{refl}
use Rattle.std.specs.Str.{is_utf8, chars}
use Rattle.serde_json.proofs.OnLiterals.{serde_json_on_literals}
use Rattle.edit_script.proofs.laws.worked_points.Goals as goal

pub returns-clause-edit : goal.returns-clause-edit
unfolding is_utf8 chars serde_json_on_literals
returns-clause-edit c = refl

pub returns-clause-display : goal.returns-clause-display
unfolding is_utf8 chars serde_json_on_literals
returns-clause-display c = refl

pub returns-clause-fold : goal.returns-clause-fold
unfolding is_utf8 chars serde_json_on_literals
returns-clause-fold c = refl

pub returns-clause-inlay : goal.returns-clause-inlay
unfolding is_utf8 chars serde_json_on_literals
returns-clause-inlay c = refl

pub returns-clause-either : goal.returns-clause-either
unfolding is_utf8 chars serde_json_on_literals
returns-clause-either c = refl

pub returns-clause-row_over : goal.returns-clause-row_over
unfolding is_utf8 chars serde_json_on_literals
returns-clause-row_over c = refl

pub returns-clause-column_over : goal.returns-clause-column_over
unfolding is_utf8 chars serde_json_on_literals
returns-clause-column_over c = refl

pub returns-clause-first_form : goal.returns-clause-first_form
unfolding is_utf8 chars serde_json_on_literals
returns-clause-first_form c = (refl, refl)

pub returns-clause-fourth_item : goal.returns-clause-fourth_item
unfolding is_utf8 chars serde_json_on_literals
returns-clause-fourth_item c = refl

pub returns-clause-two_items : goal.returns-clause-two_items
unfolding is_utf8 chars serde_json_on_literals
returns-clause-two_items c = refl

pub returns-clause-no_bias : goal.returns-clause-no_bias
unfolding is_utf8 chars serde_json_on_literals
returns-clause-no_bias c = refl

pub returns-clause-below_zero : goal.returns-clause-below_zero
unfolding is_utf8 chars serde_json_on_literals
returns-clause-below_zero c = refl

pub returns-clause-fraction : goal.returns-clause-fraction
unfolding is_utf8 chars serde_json_on_literals
returns-clause-fraction c = refl

pub returns-clause-in_rows : goal.returns-clause-in_rows
unfolding is_utf8 chars serde_json_on_literals
returns-clause-in_rows c = refl

pub returns-clause-in_buffer : goal.returns-clause-in_buffer
unfolding is_utf8 chars serde_json_on_literals
returns-clause-in_buffer c = refl

pub returns-clause-as_row : goal.returns-clause-as_row
unfolding is_utf8 chars serde_json_on_literals
returns-clause-as_row c = refl

pub returns-clause-as_id : goal.returns-clause-as_id
unfolding is_utf8 chars serde_json_on_literals
returns-clause-as_id c = refl

pub returns-clause-point_of_points : goal.returns-clause-point_of_points
unfolding is_utf8 chars serde_json_on_literals
returns-clause-point_of_points c = refl
