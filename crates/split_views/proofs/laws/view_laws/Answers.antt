use Rattle.split_views.proofs.Reached.{as-many, edit-in_each, in-no_other, in-own}
use Rattle.split_views.proofs.laws.view_laws.Goals as goal

pub returns-clause-count : goal.returns-clause-count
returns-clause-count c = as-many

pub returns-clause-edit : goal.returns-clause-edit
returns-clause-edit c = edit-in_each

pub returns-clause-own : goal.returns-clause-own
returns-clause-own c = in-own

pub returns-clause-others : goal.returns-clause-others
returns-clause-others c = in-no_other
