-- With the first display there are as many as were counted.
use Rattle.std.proofs.Common.{◌≡◌, ◌++◌, ◌∷◌, [], replicate}
use Rattle.split_views.proofs.each.copies.Given as goal

abbrev pub invariant-loop-copy : goal.invariant-loop-copy
invariant-loop-copy g l = l.displays.items ++ l.first ∷ [] ≡ replicate l._copy l.first
