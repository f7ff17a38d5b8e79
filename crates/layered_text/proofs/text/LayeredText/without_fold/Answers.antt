use Rattle.std.proofs.Common.{◌≡◌, ◌==◌, ◌≤◌, ◌∙◌, ℕ, List, length, Option, None, true, ap, refl, sym, subst, arith}
use Rattle.std.specs.List.{Contains, list_any}
use Rattle.cell_units.specs.declared.fault.Fault.TheVariants.{Refused}
use Rattle.cell_units.specs.declared.fault.Refusal.{Refusal}
use Rattle.cell_units.specs.declared.fault.Refusal.TheVariants.{UnknownId}
use Rattle.cell_units.specs.declared.limits.TheConstants.{LAID_LIMIT}
use Rattle.cell_units.specs.Lawful.{IsWellFormed}
use Rattle.cell_units.specs.Layers.{Source}
use Rattle.cell_units.specs.Operation.{RemoveFold}
use Rattle.inlay_map.specs.Maps.{InlayState}
use Rattle.inlay_map.proofs.Sent.{sent}
use Rattle.fold_map.specs.Maps.{FoldState, IsOwed, opened_up, state_of, without}
use Rattle.fold_map.specs.Snapshots.{PlacesFit, unfold_refusal}
use Rattle.fold_map.proofs.StateMaps.{known-id, owed-memory, unknown-id}
use Rattle.cell_units.specs.Record.{Fold}
use Rattle.joined_folds.specs.Sweeps.{count_met}
use Rattle.sum_tree.specs.Bounds.{Searches}
use Rattle.fold_map.specs.Bounds.{SearchesTwice, folding}
use Rattle.layered_text.specs.Bounds.{LaysAtMost}
use Rattle.layered_text.specs.inside.Kept.{AreTold, inlays_of}
use Rattle.layered_text.proofs.LaidSteps.{lays-opened, lays-sought_fold}
use Rattle.layered_text.proofs.ShownSteps.{shows-none}
use Rattle.layered_text.proofs.Tellings.{fits-opened, told-opened}
use Rattle.layered_text.proofs.text.LayeredText.without_fold.Goals as goal
use Rattle.layered_text.proofs.text.LayeredText.without_fold.Goals.{After-has_id, After-len-2, After-share-2, After-unfold}

-- it is looked for in the source
sought : (c : After-has_id) → c.has_id.result ≡ list_any (λ f. f.id == c.args.id) c.args.self.now.folds
sought c = c.has_id.ensures.value ∙ ap (λ (v : Source). list_any (λ f. f.id == c.args.id) v.folds) c.self.view_is

-- the inlays and folds fit the text
formed : (c : After-len-2) → IsWellFormed c.args.self.now
formed c = subst IsWellFormed (ap (λ (m : FoldState). m.current) c.self.invariant.folds_are ∙ c.self.view_is) c.len-2.ensures.lawful

short : (c : After-len-2) → length c.args.self.now.text ≤ LAID_LIMIT
short c =
    omega (arith, c.len.ensures.value, c.len.ensures.within, ap (λ (t : List ℕ). length t) (c.self.invariant.rope_is ∙ ap (λ (v : Source). v.text) c.self.view_is))

pub returns-then-not-has_id-clause-refused : goal.returns-then-not-has_id-clause-refused
returns-then-not-has_id-clause-refused c =
    subst (λ (o : Option Refusal). IsOwed o (Refused UnknownId))
    (unknown-id c.args.self.now c.args.id (sym (sought (goal.at.returns-then-not-has_id-clause-refused c).After-has_id) ∙ c.if-not-has_id.true)) refl

pub len-requires-2-send-L : goal.len-requires-2-send-L
len-requires-2-send-L c κs = search sent depth 60 fits 20000

pub len-requires-2-sync-L : goal.len-requires-2-sync-L
len-requires-2-sync-L c κs = search sent depth 60 fits 20000

pub share-requires-send-L : goal.share-requires-send-L
share-requires-send-L c κs = search sent depth 60 fits 20000

pub share-requires-sync-L : goal.share-requires-sync-L
share-requires-sync-L c κs = search sent depth 60 fits 20000

pub unfold-requires-send-L : goal.unfold-requires-send-L
unfold-requires-send-L c κs = search sent depth 60 fits 20000

pub unfold-requires-sync-L : goal.unfold-requires-sync-L
unfold-requires-sync-L c κs = search sent depth 60 fits 20000

pub unfold-requires-clause-fits : goal.unfold-requires-clause-fits
unfold-requires-clause-fits c κs =
    let a = (goal.at.unfold-requires-clause-fits c).After-len-2 in
    subst (λ (m : FoldState). PlacesFit (without c.args.id m.current))
    (sym (c.in_ok-folds.ensures ∙ c.self.invariant.folds_are ∙ ap state_of c.self.view_is)) (fits-opened c.args.self.now (formed a) (short a) c.args.id)

pub returns-in_err-folds-clause-refused : goal.returns-in_err-folds-clause-refused
returns-in_err-folds-clause-refused c =
    owed-memory (unfold_refusal c.args.self.now c.args.id) c.from_residual.result
    (known-id c.args.self.now c.args.id (sym (sought (goal.at.returns-in_err-folds-clause-refused c).After-has_id) ∙ c.if-not-has_id.false)) c.from_residual.ensures.1

pub returns-in_err-inlays-clause-refused : goal.returns-in_err-inlays-clause-refused
returns-in_err-inlays-clause-refused c =
    owed-memory (unfold_refusal c.args.self.now c.args.id) c.from_residual-in_err-inlays.result
    (known-id c.args.self.now c.args.id (sym (sought (goal.at.returns-in_err-inlays-clause-refused c).After-has_id) ∙ c.if-not-has_id.false)) c.from_residual-in_err-inlays.ensures.1

pub returns-in_err-turned-clause-refused : goal.returns-in_err-turned-clause-refused
returns-in_err-turned-clause-refused c =
    owed-memory (unfold_refusal c.args.self.now c.args.id) c.from_residual-in_err-turned.result
    (known-id c.args.self.now c.args.id (sym (sought (goal.at.returns-in_err-turned-clause-refused c).After-has_id) ∙ c.if-not-has_id.false)) c.from_residual-in_err-turned.ensures.1

-- the map of folds has one less
told : (c : After-share-2) (inlays : InlayState) → inlays ≡ c.self.inside.inlays → list_any (λ f. f.id == c.args.id) c.args.self.now.folds ≡ true
    → AreTold (RemoveFold c.args.id) c.args.self.now c.args.self.now.text inlays c.unfold.new.self None
told c inlays shared there =
    let was = c.in_ok-folds.ensures ∙ c.self.invariant.folds_are ∙ ap state_of c.self.view_is in
    told-opened c.args.self.now inlays c.unfold.new.self c.args.id there
    (shared ∙ c.self.invariant.inlays_are ∙ ap inlays_of c.self.view_is)
    (λ f has is. c.in_ok-unfold.ensures.ok f (subst (λ (m : FoldState). Contains m.current.folds f) (sym was) has) is ∙ ap (opened_up f) was)

pub turned-requires : goal.turned-requires
turned-requires c =
    let a = goal.at.turned-requires c in
    (RemoveFold c.args.id, told a.After-share-2 c.in_ok-inlays.inlays c.in_ok-inlays.ensures (sym (sought a.After-has_id) ∙ c.if-not-has_id.false))

pub returns-clause-changed : goal.returns-clause-changed
returns-clause-changed c =
    let a = goal.at.returns-clause-changed c in
    c.in_ok-turned.ensures.changed (RemoveFold c.args.id)
    (told a.After-share-2 c.in_ok-inlays.inlays c.in_ok-inlays.ensures (sym (sought a.After-has_id) ∙ c.if-not-has_id.false))

pub returns-clause-accepted : goal.returns-clause-accepted
returns-clause-accepted c =
    sym (known-id c.args.self.now c.args.id (sym (sought (goal.at.returns-clause-accepted c).After-has_id) ∙ c.if-not-has_id.false))

pub has_id-requires-send-L : goal.has_id-requires-send-L
has_id-requires-send-L c κs = search sent depth 60 fits 20000

pub has_id-requires-sync-L : goal.has_id-requires-sync-L
has_id-requires-sync-L c κs = search sent depth 60 fits 20000

-- ---- steps

-- those in which its id is looked for
looked : (c : After-has_id) → Searches (length c.args.self.now.folds) c.args.steps.now c.has_id.new.steps
looked c = subst (λ (v : Source). Searches (length v.folds) c.args.steps.now c.has_id.new.steps) c.self.view_is c.has_id.ensures.steps

looked-only : (c : After-has_id) → LaysAtMost (RemoveFold c.args.id) c.args.self.now c.args.steps.now c.has_id.new.steps
looked-only c = lays-sought_fold c.args.self.now c.args.id c.args.steps.now c.has_id.new.steps (looked c)

-- and then it is taken off
taken : (c : After-unfold) (f : Fold) → Contains c.args.self.now.folds f → f.id ≡ c.args.id
    → SearchesTwice (folding (count_met f.start f.end (without c.args.id c.args.self.now).folds)) (length c.args.self.now.folds) c.has_id.new.steps c.unfold.new.steps
taken c =
    subst (λ (m : FoldState). (f : Fold) → Contains m.current.folds f → f.id ≡ c.args.id
    → SearchesTwice (folding (count_met f.start f.end (without c.args.id m.current).folds)) (length m.current.folds) c.has_id.new.steps c.unfold.new.steps)
    (c.in_ok-folds.ensures ∙ c.self.invariant.folds_are ∙ ap state_of c.self.view_is) c.unfold.ensures.steps

taken-only : (c : After-unfold) → Searches (length c.args.self.now.folds) c.args.steps.now c.has_id.new.steps → list_any (λ f. f.id == c.args.id) c.args.self.now.folds ≡ true
    → LaysAtMost (RemoveFold c.args.id) c.args.self.now c.args.steps.now c.unfold.new.steps
taken-only c first there =
    lays-opened c.args.self.now c.args.id c.args.steps.now c.has_id.new.steps c.unfold.new.steps c.unfold.new.steps there first (taken c)
    (shows-none (RemoveFold c.args.id) c.args.self.now c.unfold.new.steps)

pub returns-then-not-has_id-clause-steps : goal.returns-then-not-has_id-clause-steps
returns-then-not-has_id-clause-steps c = looked-only (goal.at.returns-then-not-has_id-clause-steps c).After-has_id

pub returns-in_err-folds-clause-steps : goal.returns-in_err-folds-clause-steps
returns-in_err-folds-clause-steps c = looked-only (goal.at.returns-in_err-folds-clause-steps c).After-has_id

pub returns-in_err-unfold-clause-steps : goal.returns-in_err-unfold-clause-steps
returns-in_err-unfold-clause-steps c =
    let a = goal.at.returns-in_err-unfold-clause-steps c in
    taken-only a.After-unfold (looked a.After-has_id) (sym (sought a.After-has_id) ∙ c.if-not-has_id.false)

pub returns-in_err-inlays-clause-steps : goal.returns-in_err-inlays-clause-steps
returns-in_err-inlays-clause-steps c =
    let a = goal.at.returns-in_err-inlays-clause-steps c in
    taken-only a.After-unfold (looked a.After-has_id) (sym (sought a.After-has_id) ∙ c.if-not-has_id.false)

pub returns-in_err-turned-clause-steps : goal.returns-in_err-turned-clause-steps
returns-in_err-turned-clause-steps c =
    let a = goal.at.returns-in_err-turned-clause-steps c in
    let there = sym (sought a.After-has_id) ∙ c.if-not-has_id.false in
    lays-opened c.args.self.now c.args.id c.args.steps.now c.has_id.new.steps c.unfold.new.steps c.turned.new.steps there (looked a.After-has_id) (taken a.After-unfold)
    (c.turned.ensures.steps (RemoveFold c.args.id) (told a.After-share-2 c.in_ok-inlays.inlays c.in_ok-inlays.ensures there))

pub returns-clause-steps : goal.returns-clause-steps
returns-clause-steps c =
    let a = goal.at.returns-clause-steps c in
    let there = sym (sought a.After-has_id) ∙ c.if-not-has_id.false in
    lays-opened c.args.self.now c.args.id c.args.steps.now c.has_id.new.steps c.unfold.new.steps c.turned.new.steps there (looked a.After-has_id) (taken a.After-unfold)
    (c.turned.ensures.steps (RemoveFold c.args.id) (told a.After-share-2 c.in_ok-inlays.inlays c.in_ok-inlays.ensures there))
