-- The journals so far and those that are left.
use Rattle.std.proofs.Common.{◌≡◌, ◌+◌, ◌≤◌, ◌++◌, length, map}
use Rattle.std.specs.Prelude.{vec_len}
use Rattle.std.specs.Vec.{vec_capacity}
use Rattle.split_views.proofs.each.into_journals.Given as goal

abbrev pub invariant-views : goal.invariant-views
invariant-views g l = record {
  room : vec_len l.journals + length l.displays.items ≤ vec_capacity l.journals;
  all : l.journals.items ++ map (λ h. h.events) l.displays.items ≡ map (λ h. h.events) l.fn.displays.items;
}

abbrev pub decreases-views : goal.decreases-views
decreases-views g l = length l.displays.items
