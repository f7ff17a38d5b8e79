use Rattle.std.proofs.Common.{[], ◌-◌, ◌≤◌, drop, length}
use Rattle.edit_patch.proofs.Merging.{Merging}
use Rattle.edit_patch.proofs.merge.merged.Given as goal

abbrev pub invariant-loop-edit : goal.invariant-loop-edit
invariant-loop-edit l = record {
  merging : Merging l.first l.second l.merge.front (drop l.taken l.first) (drop l.edit-index l.second) l.merge.edits.items;
  taken : l.taken ≤ length l.first;
}

abbrev pub invariant-loop-taken : goal.invariant-loop-taken
invariant-loop-taken l = record {
  merging : Merging l.first l.second l.merge.front (drop l.taken l.first) (drop l.edit-index l.second) l.merge.edits.items;
  taken : l.taken ≤ length l.first;
}

abbrev pub decreases-loop-taken : goal.decreases-loop-taken
decreases-loop-taken l = length l.first - l.taken

abbrev pub invariant-loop-edit-2 : goal.invariant-loop-edit-2
invariant-loop-edit-2 l = Merging l.first l.second l.merge.front (drop l.edit-index l.edit-items) [] l.merge.edits.items
