use Rattle.std.proofs.Common.{◌≡◌, ◌∙◌, ℕ, length, Option, ap, refl, sym, subst, arith}
use Rattle.cell_units.specs.declared.fault.Fault.TheVariants.{Refused}
use Rattle.cell_units.specs.declared.fault.Refusal.{Refusal}
use Rattle.cell_units.specs.Layers.{Source}
use Rattle.joined_folds.specs.Sweeps.{count_met}
use Rattle.mark_tree.specs.Bounds.{SearchesAndTakes}
use Rattle.fold_map.specs.Bounds.{refolding}
use Rattle.fold_map.specs.Maps.{DifferWithin, FoldState, IsOwed, fold_with, turned_to, with_fold}
use Rattle.fold_map.specs.Snapshots.{PlacesFit, fold_refusal}
use Rattle.fold_map.proofs.StateFolds.{accepted-is, added-differ}
use Rattle.fold_map.proofs.StateMaps.{owed-memory}
use Rattle.fold_map.proofs.FoldCounts.{one-more}
use Rattle.fold_map.proofs.StepSums.{folded-steps}
use Rattle.fold_map.proofs.fold_map.FoldMap.fold.Goals as goal

pub returns-in-Some-clause-refused : goal.returns-in-Some-clause-refused
returns-in-Some-clause-refused g c =
    subst (λ (o : Option Refusal). IsOwed o (Refused c.in-Some.refusal))
    (c.in-Some.ensures.refusal ∙ ap (λ (s : FoldState). fold_refusal s.current c.args.id c.args.start c.args.end) c.self.view_is) refl

pub with_fold-requires-clause-accepted : goal.with_fold-requires-clause-accepted
with_fold-requires-clause-accepted g c κs h = sym c.in_default.ensures.refusal

pub with_fold-requires-clause-fits : goal.with_fold-requires-clause-fits
with_fold-requires-clause-fits g c κs h =
    let f = fold_with c.args.id c.args.start c.args.end in
    let none = c.in_default.ensures.refusal ∙ ap (λ (s : FoldState). fold_refusal s.current c.args.id c.args.start c.args.end) c.self.view_is in
    subst (λ (s : FoldState). PlacesFit (with_fold f s.current)) (sym c.self.view_is) (c.requires.fits (sym none))

pub returns-in_err-next-clause-refused : goal.returns-in_err-next-clause-refused
returns-in_err-next-clause-refused g c =
    owed-memory (fold_refusal c.args.self.now.current c.args.id c.args.start c.args.end) c.from_residual.result
    (c.in_default.ensures.refusal ∙ ap (λ (s : FoldState). fold_refusal s.current c.args.id c.args.start c.args.end) c.self.view_is) c.from_residual.ensures.1

pub turn_to-requires-clause-differ : goal.turn_to-requires-clause-differ
turn_to-requires-clause-differ g c κs h =
    let f = fold_with c.args.id c.args.start c.args.end in
    let m = c.self.inside.current in
    subst (λ (p : Source × Source). DifferWithin p.0 p.1 f) (λ i. ((c.self.view_is i).current, sym c.in_ok-next.ensures.ok i))
    (added-differ m f c.text_len-len.ensures.lawful.formed (accepted-is m f (sym c.in_default.ensures.refusal)))

pub returns-clause-ok : goal.returns-clause-ok
returns-clause-ok g c =
    let f = fold_with c.args.id c.args.start c.args.end in
    c.turn_to.ensures.now
    ∙ ap (λ (s : Source). turned_to s f c.args.self.now) (c.in_ok-next.ensures.ok ∙ ap (λ (s : FoldState). with_fold f s.current) c.self.view_is)

pub returns-clause-accepted : goal.returns-clause-accepted
returns-clause-accepted g c =
    sym (c.in_default.ensures.refusal ∙ ap (λ (s : FoldState). fold_refusal s.current c.args.id c.args.start c.args.end) c.self.view_is)

-- ---- steps

pub returns-in-Some-clause-steps : goal.returns-in-Some-clause-steps
returns-in-Some-clause-steps g c h lt =
    let f = fold_with c.args.id c.args.start c.args.end in
    let v = c.args.self.now.current in
    let after = (with_fold f v).folds in
    let was = ap (λ (s : FoldState). length s.current.folds) c.self.view_is in
    folded-steps (count_met f.start f.end after) (length v.folds) (length after) h c.args.steps.now c.refusal_to_fold.new.steps c.refusal_to_fold.new.steps c.refusal_to_fold.new.steps
    (omega (arith, one-more f v.folds)) (omega (arith, c.refusal_to_fold.ensures.steps, was)) (omega arith) (omega arith)

-- the steps in which the fold is put among the others
put : (id start end b new : ℕ) (m v : Source) → m ≡ v → let f = fold_with id start end in
    SearchesAndTakes (refolding (count_met start end (with_fold f m).folds)) (length (with_fold f m).folds) b new → SearchesAndTakes (refolding (count_met start end (with_fold f v).folds)) (length (with_fold f v).folds) b new
put id start end b new m v same steps =
    subst (λ (s : Source). SearchesAndTakes (refolding (count_met start end (with_fold (fold_with id start end) s).folds)) (length (with_fold (fold_with id start end) s).folds) b new) same steps

pub returns-in_err-next-clause-steps : goal.returns-in_err-next-clause-steps
returns-in_err-next-clause-steps g c h lt =
    let f = fold_with c.args.id c.args.start c.args.end in
    let v = c.args.self.now.current in
    let after = (with_fold f v).folds in
    let same = ap (λ (s : FoldState). s.current) c.self.view_is in
    folded-steps (count_met f.start f.end after) (length v.folds) (length after) h c.args.steps.now c.refusal_to_fold.new.steps c.with_fold.new.steps c.with_fold.new.steps
    (omega (arith, one-more f v.folds)) (omega (arith, c.refusal_to_fold.ensures.steps, ap (λ (s : Source). length s.folds) same))
    (put c.args.id c.args.start c.args.end c.refusal_to_fold.new.steps c.with_fold.new.steps c.self.inside.current v same c.with_fold.ensures.steps h lt) (omega arith)

pub returns-clause-steps : goal.returns-clause-steps
returns-clause-steps g c h lt =
    let f = fold_with c.args.id c.args.start c.args.end in
    let v = c.args.self.now.current in
    let after = (with_fold f v).folds in
    let same = ap (λ (s : FoldState). s.current) c.self.view_is in
    let next = ap (λ (s : Source). length s.folds) (c.in_ok-next.ensures.ok ∙ ap (with_fold f) same) in
    folded-steps (count_met f.start f.end after) (length v.folds) (length after) h c.args.steps.now c.refusal_to_fold.new.steps c.with_fold.new.steps c.turn_to.new.steps
    (omega (arith, one-more f v.folds)) (omega (arith, c.refusal_to_fold.ensures.steps, ap (λ (s : Source). length s.folds) same))
    (put c.args.id c.args.start c.args.end c.refusal_to_fold.new.steps c.with_fold.new.steps c.self.inside.current v same c.with_fold.ensures.steps h lt)
    (c.turn_to.ensures.steps h (omega (arith, lt, one-more f v.folds)) (omega (arith, lt, next)))
