use Rattle.std.proofs.Common.{◌∙◌, ◌+◌, ◌*◌, ◌^◌, ◌<◌, length, Option, option_map, Some, ap, sym, subst}
use Rattle.cell_units.specs.Layers.{Source}
use Rattle.joined_folds.specs.Sweeps.{fold_of}
use Rattle.edit_patch.specs.Covering.{CoverFits, with_pending}
use Rattle.edit_patch.specs.Leads.{Reach, reach_of}
use Rattle.fold_map.specs.Maps.{DifferWithin, FoldState, IsKept, fold_change}
use Rattle.fold_map.proofs.StateMaps.{kept-turned, ordered-pending, turned-fits}
use Rattle.fold_map.proofs.fold_map.FoldMap.turn_to.Goals as goal
use Rattle.fold_map.proofs.fold_map.FoldMap.turn_to.Goals.{After-text_len-3}
use Rattle.fold_map.proofs.fold_map.FoldMap.turn_to.Given.{Over}

abbrev state : Source → Source → Option Reach → FoldState
state current shown pending = record { current = current; shown = shown; pending = pending }

differ : (g : Over) (c : After-text_len-3 g) → DifferWithin c.self.inside.current c.args.next (fold_of c.args.range)
differ g c = subst (λ (v : FoldState). DifferWithin v.current c.args.next (fold_of c.args.range)) (sym c.self.view_is) c.requires.differ

pub fold_change-change-requires-clause-start : goal.fold_change-change-requires-clause-start
fold_change-change-requires-clause-start g c κs h = (differ g (goal.at.fold_change-change-requires-clause-start g c).After-text_len-3).start

pub fold_change-change-requires-clause-end : goal.fold_change-change-requires-clause-end
fold_change-change-requires-clause-end g c κs h = (differ g (goal.at.fold_change-change-requires-clause-end g c).After-text_len-3).end

pub fold_change-change-requires-clause-order : goal.fold_change-change-requires-clause-order
fold_change-change-requires-clause-order g c κs h = (differ g (goal.at.fold_change-change-requires-clause-order g c).After-text_len-3).alike.order

pub with_pending-requires : goal.with_pending-requires
with_pending-requires g c x e =
    let m = c.self.inside in
    subst (λ (r : Reach). CoverFits (reach_of x) r) (sym c.fold_change-change.ensures.change)
    (turned-fits m.current c.args.next (fold_of c.args.range) c.text_len.ensures.lawful c.text_len-3.ensures.lawful (differ g (goal.at.with_pending-requires g c).After-text_len-3)
    m.shown c.text_len-2.ensures.lawful m.pending c.self.invariant x e)

pub invariant_of-self : goal.invariant_of-self
invariant_of-self g c =
    let m = c.self.inside in
    subst (λ (p : Option Reach). IsKept c.args.next m.shown p)
    (ap (λ (r : Reach). with_pending (option_map reach_of m.pending) (Some r)) (sym c.fold_change-change.ensures.change) ∙ sym c.with_pending.ensures)
    (kept-turned m.current c.args.next (fold_of c.args.range) c.text_len.ensures.lawful c.text_len-3.ensures.lawful (differ g (goal.at.invariant_of-self g c).After-text_len-3)
    m.shown (option_map reach_of m.pending) (ordered-pending m.pending) c.self.invariant)

pub returns-clause-now : goal.returns-clause-now
returns-clause-now g c =
    let m = c.self.inside in
    let next = c.args.next in
    let pending = c.with_pending.ensures ∙ ap (λ (r : Reach). with_pending (option_map reach_of m.pending) (Some r)) c.fold_change-change.ensures.change in
    (λ i. state next m.shown (pending i))
    ∙ ap (λ (s : FoldState). state next s.shown (with_pending s.pending (Some (fold_change s.current next (fold_of c.args.range))))) c.self.view_is

pub returns-clause-steps : goal.returns-clause-steps
returns-clause-steps g c h lt lt' =
    c.fold_change-change.ensures.steps h (subst (λ (v : FoldState). length v.current.folds < 2 * 6 ^ (h + 1)) (sym c.self.view_is) lt) lt'
