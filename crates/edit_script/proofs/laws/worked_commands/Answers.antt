-- By computation.
use Rattle.std.proofs.Common.{refl}
use Rattle.std.specs.Str.{is_utf8, chars}
use Rattle.serde_json.proofs.OnLiterals.{serde_json_on_literals}
use Rattle.edit_script.proofs.laws.worked_commands.Goals as goal

pub returns-clause-rows : goal.returns-clause-rows
unfolding is_utf8 chars serde_json_on_literals
returns-clause-rows c = refl

pub returns-clause-spaced : goal.returns-clause-spaced
unfolding is_utf8 chars serde_json_on_literals
returns-clause-spaced c = refl

pub returns-clause-edit : goal.returns-clause-edit
unfolding is_utf8 chars serde_json_on_literals
returns-clause-edit c = refl

pub returns-clause-batch : goal.returns-clause-batch
unfolding is_utf8 chars serde_json_on_literals
returns-clause-batch c = refl

pub returns-clause-no_operation : goal.returns-clause-no_operation
unfolding is_utf8 chars serde_json_on_literals
returns-clause-no_operation c = refl

pub returns-clause-greatest : goal.returns-clause-greatest
unfolding is_utf8 chars serde_json_on_literals
returns-clause-greatest c = refl

pub returns-clause-last_stands : goal.returns-clause-last_stands
unfolding is_utf8 chars serde_json_on_literals
returns-clause-last_stands c = refl

pub returns-clause-no_key : goal.returns-clause-no_key
unfolding is_utf8 chars serde_json_on_literals
returns-clause-no_key c = refl

pub returns-clause-two_keys : goal.returns-clause-two_keys
unfolding is_utf8 chars serde_json_on_literals
returns-clause-two_keys c = refl

pub returns-clause-another_key : goal.returns-clause-another_key
unfolding is_utf8 chars serde_json_on_literals
returns-clause-another_key c = refl

pub returns-clause-no_object : goal.returns-clause-no_object
unfolding is_utf8 chars serde_json_on_literals
returns-clause-no_object c = refl

pub returns-clause-one_item : goal.returns-clause-one_item
unfolding is_utf8 chars serde_json_on_literals
returns-clause-one_item c = refl

pub returns-clause-three_items : goal.returns-clause-three_items
unfolding is_utf8 chars serde_json_on_literals
returns-clause-three_items c = refl

pub returns-clause-below_zero : goal.returns-clause-below_zero
unfolding is_utf8 chars serde_json_on_literals
returns-clause-below_zero c = refl

pub returns-clause-fraction : goal.returns-clause-fraction
unfolding is_utf8 chars serde_json_on_literals
returns-clause-fraction c = refl

pub returns-clause-exponent : goal.returns-clause-exponent
unfolding is_utf8 chars serde_json_on_literals
returns-clause-exponent c = refl

pub returns-clause-minus_zero : goal.returns-clause-minus_zero
unfolding is_utf8 chars serde_json_on_literals
returns-clause-minus_zero c = refl

pub returns-clause-over_64_bits : goal.returns-clause-over_64_bits
unfolding is_utf8 chars serde_json_on_literals
returns-clause-over_64_bits c = refl

pub returns-clause-all_64_bits : goal.returns-clause-all_64_bits
unfolding is_utf8 chars serde_json_on_literals
returns-clause-all_64_bits c = refl

pub returns-clause-brackets : goal.returns-clause-brackets
unfolding is_utf8 chars serde_json_on_literals
returns-clause-brackets c = refl

pub returns-clause-cut_off : goal.returns-clause-cut_off
unfolding is_utf8 chars serde_json_on_literals
returns-clause-cut_off c = refl

pub returns-clause-text_missing : goal.returns-clause-text_missing
unfolding is_utf8 chars serde_json_on_literals
returns-clause-text_missing c = refl

pub returns-clause-flat_edit : goal.returns-clause-flat_edit
unfolding is_utf8 chars serde_json_on_literals
returns-clause-flat_edit c = refl

pub returns-clause-not_utf8 : goal.returns-clause-not_utf8
unfolding is_utf8 chars serde_json_on_literals
returns-clause-not_utf8 c = refl
