use Rattle.std.proofs.Common.{◌∙◌, List, ℕ, sym, subst}
use Rattle.cell_units.specs.Layers.{Source}
use Rattle.inlay_map.specs.Maps.{InlayState}
use Rattle.inlay_map.proofs.Sent.{sent}
use Rattle.fold_map.specs.Maps.{FoldState}
use Rattle.layered_text.specs.inside.Kept.{IsLayered}
use Rattle.layered_text.proofs.text.LayeredText.share.Goals as goal

pub share-requires-4-send-L : goal.share-requires-4-send-L
share-requires-4-send-L c κs = search sent depth 60 fits 20000

pub share-requires-4-sync-L : goal.share-requires-4-sync-L
share-requires-4-sync-L c κs = search sent depth 60 fits 20000

pub share-requires-5-send-L : goal.share-requires-5-send-L
share-requires-5-send-L c κs = search sent depth 60 fits 20000

pub share-requires-5-sync-L : goal.share-requires-5-sync-L
share-requires-5-sync-L c κs = search sent depth 60 fits 20000

pub invariant_of-result : goal.invariant_of-result
invariant_of-result c =
    subst (λ (p : List ℕ × InlayState × Source × FoldState × Source). IsLayered p.0 p.1 p.2 p.3 p.4)
    (λ i. (sym c.in_ok-rope.ensures i, sym c.in_ok-inlays.ensures i, sym c.in_ok-inlaid.ensures i, sym c.in_ok-folds.ensures i, sym c.in_ok-layer.ensures i))
    c.self.invariant

pub returns : goal.returns
returns c = c.in_ok-layer.ensures ∙ c.self.view_is
