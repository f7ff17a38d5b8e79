-- By computation.
use Rattle.std.proofs.Common.{refl}
use Rattle.std.specs.Str.{is_utf8, chars}
use Rattle.serde_json.proofs.OnLiterals.{serde_json_on_literals}
use Rattle.edit_script.proofs.laws.worked_verdicts.Goals as goal

pub returns-clause-blank : goal.returns-clause-blank
unfolding is_utf8 chars serde_json_on_literals
returns-clause-blank c = (refl, refl, refl)

pub returns-clause-accepted : goal.returns-clause-accepted
unfolding is_utf8 chars serde_json_on_literals
returns-clause-accepted c = refl

pub returns-clause-past_the_end : goal.returns-clause-past_the_end
unfolding is_utf8 chars serde_json_on_literals
returns-clause-past_the_end c = refl

pub returns-clause-backwards : goal.returns-clause-backwards
unfolding is_utf8 chars serde_json_on_literals
returns-clause-backwards c = refl

pub returns-clause-out_of_order : goal.returns-clause-out_of_order
unfolding is_utf8 chars serde_json_on_literals
returns-clause-out_of_order c = refl

pub returns-clause-rows : goal.returns-clause-rows
unfolding is_utf8 chars serde_json_on_literals
returns-clause-rows c = refl

pub returns-clause-no_command : goal.returns-clause-no_command
unfolding is_utf8 chars serde_json_on_literals
returns-clause-no_command c = refl
