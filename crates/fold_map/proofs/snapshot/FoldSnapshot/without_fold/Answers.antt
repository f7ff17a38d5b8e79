use Rattle.std.proofs.Common.{◌≡◌, ℕ, ◌+◌, ◌*◌, ◌^◌, ◌<◌, ◌≤◌, List, map, length, ap, sym, ◌∙◌, subst, arith}
use Rattle.std.specs.List.{Contains}
use Rattle.std.proofs.lemmas.List.{length-map}
use Rattle.cell_units.specs.Lawful.{AreFolds}
use Rattle.cell_units.specs.Layers.{Source}
use Rattle.cell_units.specs.Operation.{without_fold}
use Rattle.cell_units.specs.Record.{Fold}
use Rattle.joined_folds.specs.Sweeps.{count_met, fold_of}
use Rattle.mark_tree.specs.Bounds.{SearchesAndTakes, changing}
use Rattle.mark_tree.specs.declared.mark.RangeMark.{RangeMark}
use Rattle.sum_tree.specs.Bounds.{ChangesAtMost}
use Rattle.fold_map.specs.Bounds.{rejoining}
use Rattle.fold_map.specs.Maps.{DifferWithin}
use Rattle.fold_map.specs.Snapshots.{PlacesFit, with_folds}
use Rattle.fold_map.proofs.StateFolds.{contains-fold, kept-folds, removed-differ, removed-lawful}
use Rattle.fold_map.proofs.FoldCounts.{fewer-left}
use Rattle.fold_map.proofs.StateFolds.{one-id}
use Rattle.fold_map.proofs.StepSums.{refolded-steps}
use Rattle.fold_map.proofs.snapshot.FoldSnapshot.without_fold.Goals as goal
use Rattle.fold_map.proofs.snapshot.FoldSnapshot.without_fold.Goals.{In-Ok, In_ok-folds}
use Rattle.fold_map.proofs.snapshot.FoldSnapshot.without_fold.Given.{Over}

-- the folds with one less
folds-are : (g : Over) (c : In-Ok g) → map fold_of c.remove.new.self ≡ without_fold c.args.id c.args.self.now.folds
folds-are g c =
    ap (map fold_of) c.in-Ok.ensures.ok
    ∙ kept-folds c.args.id c.in_ok-folds.folds
    ∙ ap (λ (rs : List RangeMark). without_fold c.args.id (map fold_of rs)) c.in_ok-folds.ensures
    ∙ ap (λ (v : Source). without_fold c.args.id v.folds) c.self.view_is

-- and the one that was taken off
there : (g : Over) (c : In-Ok g) → Contains c.args.self.now.folds (fold_of c.in-Ok.range)
there g c =
    subst (λ (v : Source). Contains v.folds (fold_of c.in-Ok.range)) c.self.view_is
    (contains-fold c.self.inside.folds c.in-Ok.range (subst (λ (rs : List RangeMark). Contains rs c.in-Ok.range) c.in_ok-folds.ensures c.in-Ok.ensures.range))

pub refolded-requires-clause-lawful : goal.refolded-requires-clause-lawful
refolded-requires-clause-lawful g c κs h =
    let s = c.args.self.now in
    subst (AreFolds s.text) (sym (folds-are g (goal.at.refolded-requires-clause-lawful g c).In-Ok))
    (removed-lawful s c.args.id c.text_len-len.ensures.lawful.formed)

pub refolded-requires-clause-fits : goal.refolded-requires-clause-fits
refolded-requires-clause-fits g c κs h =
    let s = c.args.self.now in
    subst (λ (fs : List Fold). PlacesFit (with_folds s fs)) (sym (folds-are g (goal.at.refolded-requires-clause-fits g c).In-Ok)) c.requires.fits

pub refolded-requires-clause-differ : goal.refolded-requires-clause-differ
refolded-requires-clause-differ g c κs h =
    let s = c.args.self.now in
    let f = fold_of c.in-Ok.range in
    let a = (goal.at.refolded-requires-clause-differ g c).In-Ok in
    subst (λ (fs : List Fold). DifferWithin s (with_folds s fs) f) (sym (folds-are g a))
    (subst (λ (id : ℕ). DifferWithin s (with_folds s (without_fold id s.folds)) f) c.in-Ok.ensures.id (removed-differ s f c.text_len-len.ensures.lawful.formed (there g a)))

pub returns-clause-ok : goal.returns-clause-ok
returns-clause-ok g c = c.in_ok-next.ensures.ok ∙ ap (with_folds c.args.self.now) (folds-are g (goal.at.returns-clause-ok g c).In-Ok)

pub returns-clause-fold : goal.returns-clause-fold
returns-clause-fold g c = there g (goal.at.returns-clause-fold g c).In-Ok

pub returns-clause-id : goal.returns-clause-id
returns-clause-id g c = c.in-Ok.ensures.id

-- ---- steps

-- the fold is taken from the others
taken : (g : Over) (c : In_ok-folds g) (h new : ℕ) → SearchesAndTakes changing (length c.in_ok-folds.folds) c.args.steps.now new → length c.args.self.now.folds < 2 * 6 ^ (h + 1)
    → 5 * new ≤ 5 * c.args.steps.now + (length c.args.self.now.folds + 5 * (200 * (h + 1)))
taken g c h new steps lt =
    let size : length c.in_ok-folds.folds ≡ length c.args.self.now.folds =
    omega (
      arith,
      ap (λ (l : List RangeMark). length l) c.in_ok-folds.ensures,
      length-map c.self.inside.folds fold_of,
      ap (λ (v : Source). length v.folds) c.self.view_is,
    ) in
    subst (λ (n : ℕ). n < 2 * 6 ^ (h + 1) → 5 * new ≤ 5 * c.args.steps.now + (n + 5 * (200 * (h + 1)))) size (steps h) lt

-- and those that it met are joined anew
joined : (g : Over) (c : In-Ok g) (f : Fold) (h new : ℕ) → Contains c.args.self.now.folds f → f.id ≡ c.args.id
    → ChangesAtMost (rejoining (count_met c.in-Ok.range.start c.in-Ok.range.end (map fold_of c.remove.new.self))) (length c.args.self.now.folds) (length (map fold_of c.remove.new.self)) c.remove.new.steps new
    → length c.args.self.now.folds < 2 * 6 ^ (h + 1) → new ≤ c.remove.new.steps + 250 * (count_met f.start f.end (without_fold c.args.id c.args.self.now.folds) + 1) * (h + 1)
joined g c f h new has same steps lt =
    let s = c.args.self.now in
    let this = one-id c.args.id s.folds (c.text_len-len.ensures.lawful.formed.folds.distinct c.args.id) f (fold_of c.in-Ok.range) has (there g c) same c.in-Ok.ensures.id in
    let here =
    subst (λ (p : Fold × List Fold). ChangesAtMost (rejoining (count_met p.0.start p.0.end p.1)) (length s.folds) (length p.1) c.remove.new.steps new) (λ i. (this i, folds-are g c i)) steps in
    here h lt (omega (arith, lt, fewer-left c.args.id s.folds))

pub returns-in_default-clause-steps : goal.returns-in_default-clause-steps
returns-in_default-clause-steps g c f has same h lt =
    let s = c.args.self.now in
    refolded-steps (count_met f.start f.end (without_fold c.args.id s.folds)) (length s.folds) h c.args.steps.now c.remove.new.steps c.remove.new.steps
    (taken g (goal.at.returns-in_default-clause-steps g c).In_ok-folds h c.remove.new.steps c.remove.ensures.steps lt) (omega arith)

pub returns-in_err-next-clause-steps : goal.returns-in_err-next-clause-steps
returns-in_err-next-clause-steps g c f has same h lt =
    let s = c.args.self.now in
    let a = goal.at.returns-in_err-next-clause-steps g c in
    refolded-steps (count_met f.start f.end (without_fold c.args.id s.folds)) (length s.folds) h c.args.steps.now c.remove.new.steps c.refolded.new.steps
    (taken g a.In_ok-folds h c.remove.new.steps c.remove.ensures.steps lt) (joined g a.In-Ok f h c.refolded.new.steps has same c.refolded.ensures.steps lt)

pub returns-clause-steps : goal.returns-clause-steps
returns-clause-steps g c f has same h lt =
    let s = c.args.self.now in
    let a = goal.at.returns-clause-steps g c in
    refolded-steps (count_met f.start f.end (without_fold c.args.id s.folds)) (length s.folds) h c.args.steps.now c.remove.new.steps c.refolded.new.steps
    (taken g a.In_ok-folds h c.remove.new.steps c.remove.ensures.steps lt) (joined g a.In-Ok f h c.refolded.new.steps has same c.refolded.ensures.steps lt)
