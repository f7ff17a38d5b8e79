-- By computation.
use Rattle.std.proofs.Common.{refl}
use Rattle.std.specs.Str.{is_utf8, chars}
use Rattle.serde_json.proofs.OnLiterals.{serde_json_on_literals}
use Rattle.edit_script.proofs.laws.worked_point_verdicts.Goals as goal

pub returns-clause-batch : goal.returns-clause-batch
unfolding is_utf8 chars serde_json_on_literals
returns-clause-batch c = refl

pub returns-clause-backwards : goal.returns-clause-backwards
unfolding is_utf8 chars serde_json_on_literals
returns-clause-backwards c = refl

pub returns-clause-no_range : goal.returns-clause-no_range
unfolding is_utf8 chars serde_json_on_literals
returns-clause-no_range c = refl

pub returns-clause-off_a_boundary : goal.returns-clause-off_a_boundary
unfolding is_utf8 chars serde_json_on_literals
returns-clause-off_a_boundary c = refl

pub returns-clause-late_header : goal.returns-clause-late_header
unfolding is_utf8 chars serde_json_on_literals
returns-clause-late_header c = refl
