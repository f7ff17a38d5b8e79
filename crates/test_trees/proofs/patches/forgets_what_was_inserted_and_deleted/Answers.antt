use Rattle.edit_patch.proofs.Worked.{undone-fits}
use Rattle.test_trees.proofs.patches.forgets_what_was_inserted_and_deleted.Goals as goal

pub compose-requires : goal.compose-requires
compose-requires g c = λ d h. undone-fits _ _ d _ _ c.in_ok-inserts.ensures c.edit.ensures c.in_ok-deletes.ensures c.edit-2.ensures h
