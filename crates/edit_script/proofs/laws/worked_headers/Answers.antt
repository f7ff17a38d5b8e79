-- By computation.
use Rattle.std.proofs.Common.{refl}
use Rattle.std.specs.Str.{is_utf8, chars}
use Rattle.serde_json.proofs.OnLiterals.{serde_json_on_literals}
use Rattle.edit_script.proofs.laws.worked_headers.Goals as goal

pub returns-clause-header : goal.returns-clause-header
unfolding is_utf8 chars serde_json_on_literals
returns-clause-header c = (refl, refl)

pub returns-clause-last_stands : goal.returns-clause-last_stands
unfolding is_utf8 chars serde_json_on_literals
returns-clause-last_stands c = (refl, refl)

pub returns-clause-first_falls : goal.returns-clause-first_falls
unfolding is_utf8 chars serde_json_on_literals
returns-clause-first_falls c = refl

pub returns-clause-spelled : goal.returns-clause-spelled
unfolding is_utf8 chars serde_json_on_literals
returns-clause-spelled c = refl

pub returns-clause-another_number : goal.returns-clause-another_number
unfolding is_utf8 chars serde_json_on_literals
returns-clause-another_number c = (refl, refl)

pub returns-clause-fraction : goal.returns-clause-fraction
unfolding is_utf8 chars serde_json_on_literals
returns-clause-fraction c = refl

pub returns-clause-text : goal.returns-clause-text
unfolding is_utf8 chars serde_json_on_literals
returns-clause-text c = (refl, refl)

pub returns-clause-second_key : goal.returns-clause-second_key
unfolding is_utf8 chars serde_json_on_literals
returns-clause-second_key c = refl

pub returns-clause-another_key : goal.returns-clause-another_key
unfolding is_utf8 chars serde_json_on_literals
returns-clause-another_key c = refl

pub returns-clause-no_key : goal.returns-clause-no_key
unfolding is_utf8 chars serde_json_on_literals
returns-clause-no_key c = refl

pub returns-clause-no_object : goal.returns-clause-no_object
unfolding is_utf8 chars serde_json_on_literals
returns-clause-no_object c = (refl, refl, refl)

pub returns-clause-two_values : goal.returns-clause-two_values
unfolding is_utf8 chars serde_json_on_literals
returns-clause-two_values c = refl

pub returns-clause-blank : goal.returns-clause-blank
unfolding is_utf8 chars serde_json_on_literals
returns-clause-blank c = (refl, refl)

pub returns-clause-cut_off : goal.returns-clause-cut_off
unfolding is_utf8 chars serde_json_on_literals
returns-clause-cut_off c = refl

pub returns-clause-not_utf8 : goal.returns-clause-not_utf8
unfolding is_utf8 chars serde_json_on_literals
returns-clause-not_utf8 c = refl

pub returns-clause-behind_blanks : goal.returns-clause-behind_blanks
unfolding is_utf8 chars serde_json_on_literals
returns-clause-behind_blanks c = (refl, refl)

pub returns-clause-again : goal.returns-clause-again
unfolding is_utf8 chars serde_json_on_literals
returns-clause-again c = (refl, refl)

pub returns-clause-late : goal.returns-clause-late
unfolding is_utf8 chars serde_json_on_literals
returns-clause-late c = (refl, refl)

pub returns-clause-blanks_alone : goal.returns-clause-blanks_alone
unfolding is_utf8 chars serde_json_on_literals
returns-clause-blanks_alone c = (refl, refl)
