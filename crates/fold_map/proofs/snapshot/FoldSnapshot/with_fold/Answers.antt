use Rattle.std.proofs.Common.{◌≡◌, ℕ, ◌+◌, ◌*◌, ◌^◌, ◌<◌, ◌≤◌, List, map, length, ap, sym, ◌∙◌, subst, arith}
use Rattle.std.proofs.lemmas.List.{length-map}
use Rattle.cell_units.specs.Lawful.{AreFolds}
use Rattle.cell_units.specs.Layers.{Source}
use Rattle.cell_units.specs.Record.{Fold, fold_le}
use Rattle.cell_units.specs.Sorting.{insert_by}
use Rattle.joined_folds.specs.Sweeps.{count_met, fold_of}
use Rattle.mark_tree.specs.Bounds.{SearchesAndTakes, changing}
use Rattle.mark_tree.specs.declared.mark.RangeMark.{RangeMark}
use Rattle.sum_tree.specs.Bounds.{ChangesAtMost}
use Rattle.fold_map.specs.Bounds.{rejoining}
use Rattle.fold_map.specs.Maps.{DifferWithin}
use Rattle.fold_map.specs.Snapshots.{PlacesFit, with_folds}
use Rattle.fold_map.proofs.StateFolds.{accepted-is, added-differ, added-lawful, inserted-folds, ok-as, range-fits}
use Rattle.fold_map.proofs.FoldCounts.{one-more}
use Rattle.fold_map.proofs.StepSums.{refolded-steps}
use Rattle.fold_map.proofs.snapshot.FoldSnapshot.with_fold.Goals as goal
use Rattle.fold_map.proofs.snapshot.FoldSnapshot.with_fold.Goals.{In-Ok, In_ok-folds}
use Rattle.fold_map.proofs.snapshot.FoldSnapshot.with_fold.Given.{Over}

pub insert-requires-clause-some : goal.insert-requires-clause-some
insert-requires-clause-some g c =
    let s = c.args.self.now in
    (range-fits s (fold_of c.args.range) c.text_len.ensures.lawful.formed (accepted-is s (fold_of c.args.range) c.requires.accepted).range).some

pub insert-requires-clause-small : goal.insert-requires-clause-small
insert-requires-clause-small g c =
    let s = c.args.self.now in
    let room = (accepted-is s (fold_of c.args.range) c.requires.accepted).room in
    omega (
      arith,
      room,
      ap (λ (l : List RangeMark). length l) c.in_ok-folds.ensures,
      length-map c.self.inside.folds fold_of,
      ap (λ (v : Source). length v.folds) c.self.view_is,
    )

-- the folds with one more
folds-are : (g : Over) (c : In-Ok g) → map fold_of c.insert.new.self ≡ insert_by fold_le (fold_of c.args.range) c.args.self.now.folds
folds-are g c =
    ap (map fold_of) c.in-Ok.ensures.ok
    ∙ inserted-folds c.args.range c.in_ok-folds.folds
    ∙ ap (λ (rs : List RangeMark). insert_by fold_le (fold_of c.args.range) (map fold_of rs)) c.in_ok-folds.ensures
    ∙ ap (λ (v : Source). insert_by fold_le (fold_of c.args.range) v.folds) c.self.view_is

pub refolded-requires-clause-lawful : goal.refolded-requires-clause-lawful
refolded-requires-clause-lawful g c κs h =
    let s = c.args.self.now in
    let f = fold_of c.args.range in
    subst (AreFolds s.text) (sym (folds-are g (goal.at.refolded-requires-clause-lawful g c).In-Ok))
    (added-lawful s f c.text_len.ensures.lawful.formed (accepted-is s f c.requires.accepted))

pub refolded-requires-clause-fits : goal.refolded-requires-clause-fits
refolded-requires-clause-fits g c κs h =
    let s = c.args.self.now in
    subst (λ (fs : List Fold). PlacesFit (with_folds s fs)) (sym (folds-are g (goal.at.refolded-requires-clause-fits g c).In-Ok)) c.requires.fits

pub refolded-requires-clause-differ : goal.refolded-requires-clause-differ
refolded-requires-clause-differ g c κs h =
    let s = c.args.self.now in
    let f = fold_of c.args.range in
    subst (λ (fs : List Fold). DifferWithin s (with_folds s fs) f) (sym (folds-are g (goal.at.refolded-requires-clause-differ g c).In-Ok))
    (added-differ s f c.text_len.ensures.lawful.formed (accepted-is s f c.requires.accepted))

pub returns-clause-ok : goal.returns-clause-ok
returns-clause-ok g c =
    ok-as c.refolded.result (ap (with_folds c.args.self.now) (folds-are g (goal.at.returns-clause-ok g c).In-Ok)) c.refolded.ensures.ok

-- ---- steps

-- the fold is put among the others
put : (g : Over) (c : In_ok-folds g) (h new : ℕ) → SearchesAndTakes changing (length c.in_ok-folds.folds + 1) c.args.steps.now new → length (insert_by fold_le (fold_of c.args.range) c.args.self.now.folds) < 2 * 6 ^ (h + 1)
    → 5 * new ≤ 5 * c.args.steps.now + (length (insert_by fold_le (fold_of c.args.range) c.args.self.now.folds) + 5 * (200 * (h + 1)))
put g c h new steps lt =
    let s = c.args.self.now in
    let size : length c.in_ok-folds.folds + 1 ≡ length (insert_by fold_le (fold_of c.args.range) s.folds) =
    omega (
      arith,
      one-more (fold_of c.args.range) s.folds,
      ap (λ (l : List RangeMark). length l) c.in_ok-folds.ensures,
      length-map c.self.inside.folds fold_of,
      ap (λ (v : Source). length v.folds) c.self.view_is,
    ) in
    subst (λ (n : ℕ). n < 2 * 6 ^ (h + 1) → 5 * new ≤ 5 * c.args.steps.now + (n + 5 * (200 * (h + 1)))) size (steps h) lt

pub returns-in_default-clause-steps : goal.returns-in_default-clause-steps
returns-in_default-clause-steps g c h lt =
    let after = insert_by fold_le (fold_of c.args.range) c.args.self.now.folds in
    refolded-steps (count_met c.args.range.start c.args.range.end after) (length after) h c.args.steps.now c.insert.new.steps c.insert.new.steps
    (put g (goal.at.returns-in_default-clause-steps g c).In_ok-folds h c.insert.new.steps c.insert.ensures.steps lt) (omega arith)

pub returns-clause-steps : goal.returns-clause-steps
returns-clause-steps g c h lt =
    let s = c.args.self.now in
    let a = goal.at.returns-clause-steps g c in
    let after = insert_by fold_le (fold_of c.args.range) s.folds in
    let before : length s.folds < 2 * 6 ^ (h + 1) = omega (arith, lt, one-more (fold_of c.args.range) s.folds) in
    let joined =
    subst (λ (fs : List Fold). ChangesAtMost (rejoining (count_met c.args.range.start c.args.range.end fs)) (length s.folds) (length fs) c.insert.new.steps c.refolded.new.steps) (folds-are g a.In-Ok) c.refolded.ensures.steps in
    refolded-steps (count_met c.args.range.start c.args.range.end after) (length after) h c.args.steps.now c.insert.new.steps c.refolded.new.steps
    (put g a.In_ok-folds h c.insert.new.steps c.insert.ensures.steps lt) (joined h before lt)
