use Rattle.std.proofs.Common.{◌≡◌, ◌∙◌, ℕ, length, Option, ap, refl, sym, subst, arith}
use Rattle.std.specs.List.{Contains}
use Rattle.cell_units.specs.declared.fault.Fault.TheVariants.{Refused}
use Rattle.cell_units.specs.declared.fault.Refusal.{Refusal}
use Rattle.cell_units.specs.declared.fault.Refusal.TheVariants.{UnknownId}
use Rattle.cell_units.specs.Layers.{Source}
use Rattle.cell_units.specs.Record.{Fold}
use Rattle.joined_folds.specs.Sweeps.{count_met, fold_of}
use Rattle.mark_tree.specs.Bounds.{SearchesAndTakes}
use Rattle.fold_map.specs.Bounds.{refolding}
use Rattle.fold_map.specs.Maps.{DifferWithin, FoldState, IsOwed, turned_to, without}
use Rattle.fold_map.specs.Snapshots.{PlacesFit, unfold_refusal}
use Rattle.fold_map.proofs.StateFolds.{one-id, removed-differ}
use Rattle.fold_map.proofs.StateMaps.{known-id, owed-memory, unknown-id}
use Rattle.fold_map.proofs.FoldCounts.{fewer-left}
use Rattle.fold_map.proofs.StepSums.{folded-steps}
use Rattle.fold_map.proofs.fold_map.FoldMap.unfold.Goals as goal

pub returns-then-not-has_id-clause-refused : goal.returns-then-not-has_id-clause-refused
returns-then-not-has_id-clause-refused g c =
    subst (λ (o : Option Refusal). IsOwed o (Refused UnknownId))
    (unknown-id c.self.inside.current c.args.id (sym c.has_id.ensures.value ∙ c.if-not-has_id.true) ∙ ap (λ (s : FoldState). unfold_refusal s.current c.args.id) c.self.view_is) refl

pub without_fold-requires-clause-there : goal.without_fold-requires-clause-there
without_fold-requires-clause-there g c κs h = sym c.has_id.ensures.value ∙ c.if-not-has_id.false

pub without_fold-requires-clause-fits : goal.without_fold-requires-clause-fits
without_fold-requires-clause-fits g c κs h = subst (λ (s : FoldState). PlacesFit (without c.args.id s.current)) (sym c.self.view_is) c.requires.fits

pub returns-in_err-next-clause-refused : goal.returns-in_err-next-clause-refused
returns-in_err-next-clause-refused g c =
    owed-memory (unfold_refusal c.args.self.now.current c.args.id) c.from_residual.result
    (known-id c.self.inside.current c.args.id (sym c.has_id.ensures.value ∙ c.if-not-has_id.false) ∙ ap (λ (s : FoldState). unfold_refusal s.current c.args.id) c.self.view_is) c.from_residual.ensures.1

pub turn_to-requires-clause-differ : goal.turn_to-requires-clause-differ
turn_to-requires-clause-differ g c κs h =
    let m = c.self.inside.current in
    let f = fold_of c.in_ok-next.range in
    let next : c.in_ok-next.next ≡ without f.id m = c.in_ok-next.ensures.ok ∙ ap (λ (id : ℕ). without id m) (sym c.in_ok-next.ensures.id) in
    subst (λ (p : Source × Source). DifferWithin p.0 p.1 f) (λ i. ((c.self.view_is i).current, sym next i))
    (removed-differ m f c.text_len-len.ensures.lawful.formed c.in_ok-next.ensures.fold)

-- no other fold has the id
pub returns-clause-ok : goal.returns-clause-ok
returns-clause-ok g c f has same =
    let m = c.self.inside.current in
    let v = c.args.self.now in
    let there = subst (λ (s : FoldState). Contains s.current.folds f) (sym c.self.view_is) has in
    let this = one-id c.args.id m.folds (c.text_len-len.ensures.lawful.formed.folds.distinct c.args.id) f (fold_of c.in_ok-next.range) there c.in_ok-next.ensures.fold same c.in_ok-next.ensures.id in
    let next = c.in_ok-next.ensures.ok ∙ ap (λ (s : FoldState). without c.args.id s.current) c.self.view_is ∙ ap (λ (id : ℕ). without id v.current) (sym same) in
    c.turn_to.ensures.now ∙ (λ i. turned_to (next i) (this i) v)

pub returns-clause-accepted : goal.returns-clause-accepted
returns-clause-accepted g c =
    sym (known-id c.self.inside.current c.args.id (sym c.has_id.ensures.value ∙ c.if-not-has_id.false) ∙ ap (λ (s : FoldState). unfold_refusal s.current c.args.id) c.self.view_is)

-- ---- steps

pub returns-then-not-has_id-clause-steps : goal.returns-then-not-has_id-clause-steps
returns-then-not-has_id-clause-steps g c f has same h lt =
    let v = c.args.self.now.current in
    let was = ap (λ (s : FoldState). length s.current.folds) c.self.view_is in
    folded-steps (count_met f.start f.end (without c.args.id v).folds) (length v.folds) (length v.folds) h c.args.steps.now c.has_id.new.steps c.has_id.new.steps c.has_id.new.steps
    (omega arith) (omega (arith, c.has_id.ensures.steps, was)) (omega arith) (omega arith)

-- the steps in which the fold is taken from the others
taken : (f : Fold) (id b new : ℕ) (m v : Source) → m ≡ v → Contains v.folds f → f.id ≡ id
    → ((f : Fold) → Contains m.folds f → f.id ≡ id → SearchesAndTakes (refolding (count_met f.start f.end (without id m).folds)) (length m.folds) b new)
    → SearchesAndTakes (refolding (count_met f.start f.end (without id v).folds)) (length v.folds) b new
taken f id b new m v same has is steps =
    subst (λ (s : Source). (f : Fold) → Contains s.folds f → f.id ≡ id → SearchesAndTakes (refolding (count_met f.start f.end (without id s).folds)) (length s.folds) b new) same steps f has is

pub returns-in_err-next-clause-steps : goal.returns-in_err-next-clause-steps
returns-in_err-next-clause-steps g c f has is h lt =
    let v = c.args.self.now.current in
    let same = ap (λ (s : FoldState). s.current) c.self.view_is in
    folded-steps (count_met f.start f.end (without c.args.id v).folds) (length v.folds) (length v.folds) h c.args.steps.now c.has_id.new.steps c.without_fold.new.steps c.without_fold.new.steps
    (omega arith) (omega (arith, c.has_id.ensures.steps, ap (λ (s : Source). length s.folds) same))
    (taken f c.args.id c.has_id.new.steps c.without_fold.new.steps c.self.inside.current v same has is c.without_fold.ensures.steps h lt) (omega arith)

pub returns-clause-steps : goal.returns-clause-steps
returns-clause-steps g c f has is h lt =
    let v = c.args.self.now.current in
    let same = ap (λ (s : FoldState). s.current) c.self.view_is in
    let next = ap (λ (s : Source). length s.folds) (c.in_ok-next.ensures.ok ∙ ap (without c.args.id) same) in
    folded-steps (count_met f.start f.end (without c.args.id v).folds) (length v.folds) (length v.folds) h c.args.steps.now c.has_id.new.steps c.without_fold.new.steps c.turn_to.new.steps
    (omega arith) (omega (arith, c.has_id.ensures.steps, ap (λ (s : Source). length s.folds) same))
    (taken f c.args.id c.has_id.new.steps c.without_fold.new.steps c.self.inside.current v same has is c.without_fold.ensures.steps h lt)
    (c.turn_to.ensures.steps h lt (omega (arith, lt, next, fewer-left c.args.id v.folds)))

pub returns-then-not-has_id-clause-sought : goal.returns-then-not-has_id-clause-sought
returns-then-not-has_id-clause-sought g c e = omega (arith, c.has_id.ensures.steps, ap (λ (s : FoldState). length s.current.folds) c.self.view_is)

-- the id is there
pub returns-in_err-next-clause-sought : goal.returns-in_err-next-clause-sought
returns-in_err-next-clause-sought g c e =
    let known = known-id c.self.inside.current c.args.id (sym c.has_id.ensures.value ∙ c.if-not-has_id.false) ∙ ap (λ (s : FoldState). unfold_refusal s.current c.args.id) c.self.view_is in
    absurd (cc (known, e))

pub returns-clause-sought : goal.returns-clause-sought
returns-clause-sought g c e =
    let known = known-id c.self.inside.current c.args.id (sym c.has_id.ensures.value ∙ c.if-not-has_id.false) ∙ ap (λ (s : FoldState). unfold_refusal s.current c.args.id) c.self.view_is in
    absurd (cc (known, e))
