-- By computation.
use Rattle.std.proofs.Common.{refl}
use Rattle.std.specs.Fmt.{digits}
use Rattle.edit_script.proofs.laws.worked_lines.Goals as goal

pub returns-clause-rows : goal.returns-clause-rows
unfolding digits
returns-clause-rows c = refl

pub returns-clause-refusal : goal.returns-clause-refusal
unfolding digits
returns-clause-refusal c = refl
