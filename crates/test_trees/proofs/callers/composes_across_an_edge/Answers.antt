use Rattle.edit_patch.proofs.Worked.{across-fits}
use Rattle.test_trees.proofs.callers.composes_across_an_edge.Goals as goal

pub compose-requires : goal.compose-requires
compose-requires g c = λ d h. across-fits _ _ d _ _ c.in_ok-replaces.ensures c.edit.ensures c.in_ok-deletes.ensures c.edit-2.ensures h
