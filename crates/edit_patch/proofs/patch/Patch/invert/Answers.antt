use Rattle.std.proofs.Common.{◌≡◌, ◌∙◌, List, ap, subst, sym, take_all}
use Rattle.edit_patch.specs.declared.edit.Edit.{Edit}
use Rattle.edit_patch.specs.Came.{inverted}
use Rattle.edit_patch.specs.Patch.{IsPatch}
use Rattle.edit_patch.proofs.Inverse.{inverted-patch}
use Rattle.edit_patch.proofs.patch.Patch.invert.Goals as goal

pub invariant_of-result : goal.invariant_of-result
invariant_of-result c =
    let all : c.loop-edit.edits.items ≡ inverted c.edits-edit-items.result.now =
    c.loop-edit.invariant ∙ ap inverted (take_all _ _ c.loop-edit-test.false) in
    subst (λ (x : List Edit). IsPatch x) (sym all) (inverted-patch _ c.edits-edit-items.ensures.normal)
