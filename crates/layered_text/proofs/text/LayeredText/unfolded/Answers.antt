use Rattle.std.proofs.Common.{◌∙◌, None, length, refl, sym, subst, arith}
use Rattle.cell_units.specs.Layers.{Source}
use Rattle.sum_tree.specs.Bounds.{TakesAtMost}
use Rattle.inlay_map.specs.Maps.{InlayState}
use Rattle.inlay_map.proofs.Sent.{sent}
use Rattle.fold_map.specs.Bounds.{syncing}
use Rattle.fold_map.specs.Maps.{FoldState, state_of}
use Rattle.fold_map.specs.Synced.{Follows, source_after, synced}
use Rattle.layered_text.specs.inside.Kept.{IsLayered}
use Rattle.layered_text.proofs.Tellings.{plain-follows}
use Rattle.layered_text.proofs.text.LayeredText.unfolded.Goals as goal

pub new-requires-send-L : goal.new-requires-send-L
new-requires-send-L c κs = search sent depth 60 fits 20000

pub new-requires-sync-L : goal.new-requires-sync-L
new-requires-sync-L c κs = search sent depth 60 fits 20000

pub sync-requires-send-L : goal.sync-requires-send-L
sync-requires-send-L c κs = search sent depth 60 fits 20000

pub sync-requires-sync-L : goal.sync-requires-sync-L
sync-requires-sync-L c κs = search sent depth 60 fits 20000

pub sync-requires-clause-follows : goal.sync-requires-clause-follows
sync-requires-clause-follows c κs =
    let lower = c.in_ok-lower.ensures ∙ c.requires.inlaid in
    let base = c.in_ok-base.ensures ∙ c.requires.inlaid in
    let folds = c.in_ok-folds.ensures.ok ∙ (λ i. state_of (base i)) in
    subst (λ (p : FoldState × Source). Follows p.0.current p.1 None None) (λ i. (sym folds i, sym lower i))
    (plain-follows c.args.rope c.len-len.ensures.text (omega (arith, c.len-len.ensures.value, c.len-len.ensures.within)))

pub invariant_of-result : goal.invariant_of-result
invariant_of-result c =
    let lower = c.in_ok-lower.ensures ∙ c.requires.inlaid in
    let base = c.in_ok-base.ensures ∙ c.requires.inlaid in
    let folds = c.in_ok-folds.ensures.ok ∙ (λ i. state_of (base i)) in
    let now = c.in_ok-layer.ensures.ok ∙ (λ i. synced (lower i) None (folds i)) in
    let layer = c.in_ok-layer.ensures.synced.made_is ∙ (λ i. source_after (lower i) None (folds i).current) in
    subst (λ (p : InlayState × Source × FoldState × Source). IsLayered c.args.rope p.0 p.1 p.2 p.3)
    (λ i. (sym c.requires.inlays i, sym c.requires.inlaid i, sym now i, sym layer i))
    (record { rope_is = refl; inlays_are = refl; inlaid_is = refl; folds_are = refl })

pub returns-clause-opened : goal.returns-clause-opened
returns-clause-opened c =
    let lower = c.in_ok-lower.ensures ∙ c.requires.inlaid in
    let base = c.in_ok-base.ensures ∙ c.requires.inlaid in
    let folds = c.in_ok-folds.ensures.ok ∙ (λ i. state_of (base i)) in
    c.in_ok-layer.ensures.synced.made_is ∙ (λ i. source_after (lower i) None (folds i).current)

pub returns-in_err-layer-clause-steps : goal.returns-in_err-layer-clause-steps
returns-in_err-layer-clause-steps c =
    let folds = c.in_ok-folds.ensures.ok ∙ (λ i. state_of ((c.in_ok-base.ensures ∙ c.requires.inlaid) i)) in
    omega (arith, c.new.ensures.steps, subst (λ (m : FoldState). TakesAtMost (syncing 0) (length m.current.folds) c.new.new.steps c.sync.new.steps) folds c.sync.ensures.steps 0 (omega arith))

pub returns-clause-steps : goal.returns-clause-steps
returns-clause-steps c =
    let folds = c.in_ok-folds.ensures.ok ∙ (λ i. state_of ((c.in_ok-base.ensures ∙ c.requires.inlaid) i)) in
    omega (arith, c.new.ensures.steps, subst (λ (m : FoldState). TakesAtMost (syncing 0) (length m.current.folds) c.new.new.steps c.sync.new.steps) folds c.sync.ensures.steps 0 (omega arith))
