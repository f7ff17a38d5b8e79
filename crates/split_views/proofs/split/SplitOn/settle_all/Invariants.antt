-- The first views are settled.
use Rattle.std.proofs.Common.{◌≤◌}
use Rattle.split_views.proofs.EachView.{AreFirst}
use Rattle.split_views.proofs.split.SplitOn.settle_all.Given as goal

abbrev pub invariant-loop-view : goal.invariant-loop-view
invariant-loop-view g l = record {
  first : AreFirst l.view l.fn.self l.self;
  counted : l.fn.steps ≤ l.steps;
}
