use Rattle.edit_script.proofs.Writing.{command_of-written_edit, command_of-written_rows}
use Rattle.edit_script.proofs.laws.written_laws.Goals as goal

pub returns-clause-edit : goal.returns-clause-edit
returns-clause-edit c = command_of-written_edit

pub returns-clause-rows : goal.returns-clause-rows
returns-clause-rows c = command_of-written_rows
