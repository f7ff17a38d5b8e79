-- The first views were published.
use Rattle.std.proofs.Common.{◌≡◌, ◌∷◌, []}
use Rattle.display_map.specs.Events.{Published}
use Rattle.split_views.proofs.EachView.{first-more}
use Rattle.split_views.proofs.split.SplitOn.publish_all.Given as goal

abbrev pub invariant-loop-view : goal.invariant-loop-view
invariant-loop-view g l = l.self ≡ first-more (Published l.last ∷ []) l.view l.fn.self
