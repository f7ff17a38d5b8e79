use Rattle.edit_patch.proofs.Worked.{undone}
use Rattle.edit_patch.proofs.laws.insert_then_delete.Goals as goal

pub returns : goal.returns
returns c = undone
