use Rattle.edit_patch.proofs.Worked.{across}
use Rattle.edit_patch.proofs.laws.delete_across_an_edge.Goals as goal

pub returns-clause-composed : goal.returns-clause-composed
returns-clause-composed c = across
