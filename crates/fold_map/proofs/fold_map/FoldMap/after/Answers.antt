use Rattle.std.proofs.Common.{◌≡◌, ℕ, length, Option, option_map, None, Some, sym, subst}
use Rattle.cell_units.specs.declared.place.Shift.{Shift}
use Rattle.cell_units.specs.Layers.{Source, unfolded}
use Rattle.edit_patch.specs.Leads.{Reach, reach_of}
use Rattle.sum_tree.specs.Bounds.{TakesAtMost}
use Rattle.fold_map.specs.Bounds.{folds_met, syncing}
use Rattle.fold_map.specs.Maps.{FoldState}
use Rattle.fold_map.specs.Synced.{Follows, IsSynced}
use Rattle.fold_map.proofs.StateAnswers.{no-shift, synced-over}
use Rattle.fold_map.proofs.fold_map.FoldMap.after.Goals as goal

pub over-requires-clause-follows : goal.over-requires-clause-follows
over-requires-clause-follows g c κs h =
    let layer = g.L.Layer.source c.args.layer in
    let now = subst (λ (o : Option Shift). Follows c.args.self.now.current layer (option_map reach_of c.args.shift) (option_map reach_of o)) c.in-None.is c.requires.follows in
    let none = no-shift (unfolded c.args.self.now.current) (option_map reach_of c.args.shift) now.meets in
    subst (λ (v : FoldState). Follows v.current layer None None) (sym c.self.view_is)
    (subst (λ (o : Option Reach). Follows c.args.self.now.current layer o None) none now)

pub returns-in_ok-over-in-None-clause-synced : goal.returns-in_ok-over-in-None-clause-synced
returns-in_ok-over-in-None-clause-synced g c =
    let layer = g.L.Layer.source c.args.layer in
    let m = c.self.inside in
    let shift = option_map reach_of c.args.shift in
    let state : FoldState = record { current = m.current; shown = m.shown; pending = option_map reach_of m.pending } in
    let now = subst (λ (o : Option Shift). Follows c.args.self.now.current layer shift (option_map reach_of o)) c.in-None.is c.requires.follows in
    let here = subst (λ (v : FoldState). Follows v.current layer shift None) (sym c.self.view_is) now in
    let made = synced-over state c.text_len-len.ensures.lawful c.self.invariant layer shift here in
    subst (λ (o : Option Shift). IsSynced layer shift (option_map reach_of o) c.args.self.now c.in_ok-over-in-None.field-0 (option_map reach_of m.pending)) (sym c.in-None.is)
    (subst (λ (v : FoldState). IsSynced layer shift None v c.in_ok-over-in-None.field-0 (option_map reach_of m.pending)) c.self.view_is
    (subst (λ (s : Source). IsSynced layer shift None state s (option_map reach_of m.pending)) (sym c.in_ok-over-in-None.ensures.ok) made))

pub moved-requires-clause-follows : goal.moved-requires-clause-follows
moved-requires-clause-follows g c κs h =
    subst (λ (o : Option Shift). Follows c.args.self.now.current (g.L.Layer.source c.args.layer) (option_map reach_of c.args.shift) (option_map reach_of o)) c.in-Some.is c.requires.follows

pub returns-in_ok-next-in-Some-clause-synced : goal.returns-in_ok-next-in-Some-clause-synced
returns-in_ok-next-in-Some-clause-synced g c =
    subst (λ (o : Option Shift). IsSynced (g.L.Layer.source c.args.layer) (option_map reach_of c.args.shift) (option_map reach_of o) c.args.self.now c.in_ok-next-in-Some.next (Some (reach_of c.in_ok-next-in-Some.answer))) (sym c.in-Some.is)
    c.in_ok-next-in-Some.ensures.synced

-- ---- steps

-- the folds that a replacement meets which is there
some : (shift : Option Reach) (below : Option Shift) (x : Shift) (s : Source) (old new : ℕ) → below ≡ Some x → TakesAtMost (syncing (folds_met shift (Some (reach_of x)) s)) (length s.folds) old new
    → TakesAtMost (syncing (folds_met shift (option_map reach_of below) s)) (length s.folds) old new
some shift below x s old new is steps = subst (λ (o : Option Shift). TakesAtMost (syncing (folds_met shift (option_map reach_of o) s)) (length s.folds) old new) (sym is) steps

pub returns-in_err-next-in-Some-clause-steps : goal.returns-in_err-next-in-Some-clause-steps
returns-in_err-next-in-Some-clause-steps g c = some (option_map reach_of c.args.shift) c.args.below c.in-Some.below c.args.self.now.current c.args.steps.now c.moved.new.steps c.in-Some.is c.moved.ensures.steps

pub returns-in_ok-next-in-Some-clause-steps : goal.returns-in_ok-next-in-Some-clause-steps
returns-in_ok-next-in-Some-clause-steps g c = some (option_map reach_of c.args.shift) c.args.below c.in-Some.below c.args.self.now.current c.args.steps.now c.moved.new.steps c.in-Some.is c.moved.ensures.steps
