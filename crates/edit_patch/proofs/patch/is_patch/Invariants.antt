use Rattle.std.proofs.Common.{◌↔◌, drop}
use Rattle.edit_patch.specs.Patch.{IsPatch, IsPatchFrom}
use Rattle.edit_patch.proofs.patch.is_patch.Given as goal

abbrev pub invariant-loop-edit : goal.invariant-loop-edit
invariant-loop-edit l = IsPatch l.edits ↔ IsPatchFrom l.gap l.old l.new (drop l.edit-index l.edits)
