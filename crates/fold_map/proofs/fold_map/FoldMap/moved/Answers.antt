use Rattle.std.proofs.Common.{◌≡◌, ◌∙◌, ℕ, length, Option, option_map, Some, ap, sym, subst}
use Rattle.cell_units.specs.Layers.{Source}
use Rattle.edit_patch.specs.Covering.{CoverFits, with_pending}
use Rattle.edit_patch.specs.Leads.{Reach, reach_of}
use Rattle.sum_tree.specs.Bounds.{TakesAtMost}
use Rattle.fold_map.specs.Bounds.{folds_met, syncing}
use Rattle.fold_map.specs.Maps.{FoldState}
use Rattle.fold_map.specs.Synced.{Follows, IsSynced, layer_change}
use Rattle.fold_map.proofs.StateAnswers.{moved-cover, synced-moved}
use Rattle.fold_map.proofs.StateMaps.{ordered-pending}
use Rattle.fold_map.proofs.fold_map.FoldMap.moved.Goals as goal

pub moved-requires-clause-follows : goal.moved-requires-clause-follows
moved-requires-clause-follows g c κs h =
    subst (λ (v : FoldState). Follows v.current (g.L.Layer.source c.args.layer) (option_map reach_of c.args.shift) (Some (reach_of c.args.below))) (sym c.self.view_is) c.requires.follows

pub with_pending-answer-requires : goal.with_pending-answer-requires
with_pending-answer-requires g c x e =
    let layer = g.L.Layer.source c.args.layer in
    let m = c.self.inside in
    let shift = option_map reach_of c.args.shift in
    let below = reach_of c.args.below in
    let state : FoldState = record { current = m.current; shown = m.shown; pending = option_map reach_of m.pending } in
    let here = subst (λ (v : FoldState). Follows v.current layer shift (Some below)) (sym c.self.view_is) c.requires.follows in
    let is = c.in_ok-next.ensures.change ∙ ap (λ (s : Source). layer_change m.current s below) c.in_ok-next.ensures.ok in
    subst (λ (r : Reach). CoverFits (reach_of x) r) (sym is)
    (moved-cover state c.text_len.ensures.lawful c.self.invariant layer c.buffer_len.ensures.well_formed shift (ordered-pending c.args.shift) below c.args.below.ordered here c.text_len-2.ensures.lawful x (ap (option_map reach_of) e))

pub returns-clause-synced : goal.returns-clause-synced
returns-clause-synced g c =
    let layer = g.L.Layer.source c.args.layer in
    let m = c.self.inside in
    let shift = option_map reach_of c.args.shift in
    let below = reach_of c.args.below in
    let state : FoldState = record { current = m.current; shown = m.shown; pending = option_map reach_of m.pending } in
    let here = subst (λ (v : FoldState). Follows v.current layer shift (Some below)) (sym c.self.view_is) c.requires.follows in
    let is = c.in_ok-next.ensures.change ∙ ap (λ (s : Source). layer_change m.current s below) c.in_ok-next.ensures.ok in
    let answer = c.with_pending-answer.ensures ∙ ap (λ (r : Reach). with_pending (option_map reach_of m.pending) (Some r)) is in
    let made = synced-moved state c.text_len.ensures.lawful c.self.invariant layer c.buffer_len.ensures.well_formed shift (ordered-pending c.args.shift) below c.args.below.ordered here (ordered-pending m.pending) in
    subst (λ (v : FoldState). IsSynced layer shift (Some below) v c.in_ok-next.next (Some (reach_of c.with_pending-answer.result))) c.self.view_is
    (subst (λ (p : Source × Option Reach). IsSynced layer shift (Some below) state p.0 p.1) (λ i. (sym c.in_ok-next.ensures.ok i, sym answer i)) made)

-- ---- steps

-- what is said of the map's snapshot is said of the map
seen : (shift below : Option Reach) (old new : ℕ) (m v : FoldState) → m ≡ v → TakesAtMost (syncing (folds_met shift below m.current)) (length m.current.folds) old new
    → TakesAtMost (syncing (folds_met shift below v.current)) (length v.current.folds) old new
seen shift below old new m v same steps = subst (λ (s : FoldState). TakesAtMost (syncing (folds_met shift below s.current)) (length s.current.folds) old new) same steps

pub returns-in_err-next-clause-steps : goal.returns-in_err-next-clause-steps
returns-in_err-next-clause-steps g c = seen (option_map reach_of c.args.shift) (Some (reach_of c.args.below)) c.args.steps.now c.moved.new.steps _ c.args.self.now c.self.view_is c.moved.ensures.steps

pub returns-clause-steps : goal.returns-clause-steps
returns-clause-steps g c = seen (option_map reach_of c.args.shift) (Some (reach_of c.args.below)) c.args.steps.now c.moved.new.steps _ c.args.self.now c.self.view_is c.moved.ensures.steps
