use Rattle.std.proofs.Common.{◌≡◌, take}
use Rattle.edit_patch.specs.Came.{inverted}
use Rattle.edit_patch.proofs.patch.Patch.invert.Given as goal

abbrev pub invariant-loop-edit : goal.invariant-loop-edit
invariant-loop-edit l = l.edits.items ≡ inverted (take l.edit-index l.edit-items)
