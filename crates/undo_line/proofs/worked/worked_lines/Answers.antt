use Rattle.std.proofs.Common.{refl}
use Rattle.undo_line.proofs.worked.worked_lines.Goals as goal

pub returns-clause-undo_and_redo : goal.returns-clause-undo_and_redo
returns-clause-undo_and_redo c = (refl, refl, refl, refl)

pub returns-clause-edit_after_undo : goal.returns-clause-edit_after_undo
returns-clause-edit_after_undo c = (refl, refl, refl)

pub returns-clause-nothing_done : goal.returns-clause-nothing_done
returns-clause-nothing_done c = refl
