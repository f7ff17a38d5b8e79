-- By computation.
use Rattle.std.proofs.Common.{refl}
use Rattle.std.specs.Str.{is_utf8, chars}
use Rattle.serde_json.proofs.OnLiterals.{serde_json_on_literals}
use Rattle.edit_script.proofs.laws.worked_carets.Goals as goal

pub returns-clause-left : goal.returns-clause-left
unfolding is_utf8 chars serde_json_on_literals
returns-clause-left c = refl

pub returns-clause-right : goal.returns-clause-right
unfolding is_utf8 chars serde_json_on_literals
returns-clause-right c = refl

pub returns-clause-up : goal.returns-clause-up
unfolding is_utf8 chars serde_json_on_literals
returns-clause-up c = refl

pub returns-clause-down : goal.returns-clause-down
unfolding is_utf8 chars serde_json_on_literals
returns-clause-down c = refl

pub returns-clause-start : goal.returns-clause-start
unfolding is_utf8 chars serde_json_on_literals
returns-clause-start c = refl

pub returns-clause-end : goal.returns-clause-end
unfolding is_utf8 chars serde_json_on_literals
returns-clause-end c = refl

pub returns-clause-select : goal.returns-clause-select
unfolding is_utf8 chars serde_json_on_literals
returns-clause-select c = refl

pub returns-clause-backwards : goal.returns-clause-backwards
unfolding is_utf8 chars serde_json_on_literals
returns-clause-backwards c = refl

pub returns-clause-greatest : goal.returns-clause-greatest
unfolding is_utf8 chars serde_json_on_literals
returns-clause-greatest c = refl

pub returns-clause-second_form : goal.returns-clause-second_form
unfolding is_utf8 chars serde_json_on_literals
returns-clause-second_form c = refl

pub returns-clause-another_motion : goal.returns-clause-another_motion
unfolding is_utf8 chars serde_json_on_literals
returns-clause-another_motion c = refl

pub returns-clause-motion_missing : goal.returns-clause-motion_missing
unfolding is_utf8 chars serde_json_on_literals
returns-clause-motion_missing c = refl

pub returns-clause-fifth_item : goal.returns-clause-fifth_item
unfolding is_utf8 chars serde_json_on_literals
returns-clause-fifth_item c = refl

pub returns-clause-bias : goal.returns-clause-bias
unfolding is_utf8 chars serde_json_on_literals
returns-clause-bias c = refl

pub returns-clause-below_zero : goal.returns-clause-below_zero
unfolding is_utf8 chars serde_json_on_literals
returns-clause-below_zero c = refl

pub returns-clause-point : goal.returns-clause-point
unfolding is_utf8 chars serde_json_on_literals
returns-clause-point c = refl

pub returns-clause-lists : goal.returns-clause-lists
unfolding is_utf8 chars serde_json_on_literals
returns-clause-lists c = refl
