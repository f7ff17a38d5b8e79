-- One more view is published.
use Rattle.std.proofs.Common.{[], ◌∷◌, ap, ◌∙◌, arith}
use Rattle.display_map.specs.Events.{Published}
use Rattle.split_views.specs.Views.{appended_in}
use Rattle.split_views.proofs.EachView.{next-more}
use Rattle.split_views.proofs.split.SplitOn.publish_all.Goals as goal

pub loop-view-preserved : goal.loop-view-preserved
loop-view-preserved g c =
    c.in_ok-_version.ensures.published
    ∙ (ap (λ hs. appended_in hs c.loop-view.view (Published c.args.last ∷ [])) c.loop-view.invariant
    ∙ next-more (Published c.args.last ∷ []) c.loop-view.view c.args.self.now (omega (arith, c.loop-view-test.true, c.views-view-end.ensures)))
