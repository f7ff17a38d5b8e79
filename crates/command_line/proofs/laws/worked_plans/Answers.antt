-- By computation.
use Rattle.std.proofs.Common.{refl}
use Rattle.command_line.specs.Words.{tokens}
use Rattle.command_line.proofs.laws.worked_plans.Goals as goal

pub returns-clause-two_names : goal.returns-clause-two_names
unfolding tokens
returns-clause-two_names c = refl

pub returns-clause-options_around : goal.returns-clause-options_around
unfolding tokens
returns-clause-options_around c = refl

pub returns-clause-made : goal.returns-clause-made
unfolding tokens
returns-clause-made c = refl

pub returns-clause-greatest : goal.returns-clause-greatest
unfolding tokens
returns-clause-greatest c = refl

pub returns-clause-equals_in_name : goal.returns-clause-equals_in_name
unfolding tokens
returns-clause-equals_in_name c = refl
