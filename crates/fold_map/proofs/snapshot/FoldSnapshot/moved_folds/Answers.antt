use Rattle.std.proofs.Common.{◌≡◌, ◌<◌, ◌≤◌, List, length, map, Option, option_map, ap, sym, ◌∙◌, subst}
use Rattle.std.specs.List.{All}
use Rattle.cell_units.specs.declared.place.Shift.{Shift}
use Rattle.cell_units.specs.Layers.{Source}
use Rattle.cell_units.specs.Operation.{moved_folds}
use Rattle.cell_units.specs.Record.{Fold}
use Rattle.joined_folds.specs.Sweeps.{fold_of}
use Rattle.mark_tree.specs.declared.mark.RangeMark.{RangeMark}
use Rattle.edit_patch.specs.Leads.{reach_of}
use Rattle.fold_map.specs.Synced.{folds_after}
use Rattle.fold_map.proofs.StateMoved.{moved-ranges}
use Rattle.fold_map.proofs.StateOver.{moved-fit}
use Rattle.fold_map.proofs.FoldCounts.{moved-steps}
use Rattle.fold_map.proofs.snapshot.FoldSnapshot.moved_folds.Goals as goal
use Rattle.fold_map.proofs.snapshot.FoldSnapshot.moved_folds.Goals.{In_ok-folds}
use Rattle.fold_map.proofs.snapshot.FoldSnapshot.moved_folds.Given.{Over}

folds-are : (g : Over) (c : In_ok-folds g) → map fold_of c.in_ok-folds.folds ≡ c.args.self.now.folds
folds-are g c = ap (λ (rs : List RangeMark). map fold_of rs) c.in_ok-folds.ensures ∙ ap (λ (v : Source). v.folds) c.self.view_is

pub apply-requires : goal.apply-requires
apply-requires g c =
    let s = c.args.self.now in
    let x = c.in-Some.shift in
    let are = c.text_len-len.ensures.lawful.formed.folds.each in
    record {
      fits =
          moved-fit x (length s.text) c.in_ok-folds.folds (c.requires.within x c.in-Some.is) (c.requires.reaches x c.in-Some.is)
          (subst (All (λ (f : Fold). (f.start < f.end) × (f.end ≤ length s.text))) (sym (folds-are g (goal.at.apply-requires g c).In_ok-folds)) (λ k d l. let h = are k d l in (h.some, h.end.0)));
    }

pub returns-in-None-clause-ok : goal.returns-in-None-clause-ok
returns-in-None-clause-ok g c =
    folds-are g (goal.at.returns-in-None-clause-ok g c).In_ok-folds
    ∙ ap (λ (o : Option Shift). folds_after (option_map reach_of o) c.args.self.now.folds) (sym c.in-None.is)

pub returns-in_ok-apply-in-Some-clause-ok : goal.returns-in_ok-apply-in-Some-clause-ok
returns-in_ok-apply-in-Some-clause-ok g c =
    let x = c.in-Some.shift in
    ap (map fold_of) c.in_ok-apply-in-Some.ensures.ok
    ∙ moved-ranges x c.in_ok-folds.folds
    ∙ ap (moved_folds x.start x.end x.count) (folds-are g (goal.at.returns-in_ok-apply-in-Some-clause-ok g c).In_ok-folds)
    ∙ ap (λ (o : Option Shift). folds_after (option_map reach_of o) c.args.self.now.folds) (sym c.in-Some.is)

pub returns-in_err-apply-in-Some-clause-steps : goal.returns-in_err-apply-in-Some-clause-steps
returns-in_err-apply-in-Some-clause-steps g c =
    moved-steps c.in-Some.shift c.in_ok-folds.folds c.args.shift c.args.self.now.folds c.args.steps.now c.apply.new.steps c.in-Some.is (folds-are g (goal.at.returns-in_err-apply-in-Some-clause-steps g c).In_ok-folds) c.apply.ensures.steps

pub returns-in_ok-apply-in-Some-clause-steps : goal.returns-in_ok-apply-in-Some-clause-steps
returns-in_ok-apply-in-Some-clause-steps g c =
    moved-steps c.in-Some.shift c.in_ok-folds.folds c.args.shift c.args.self.now.folds c.args.steps.now c.apply.new.steps c.in-Some.is (folds-are g (goal.at.returns-in_ok-apply-in-Some-clause-steps g c).In_ok-folds) c.apply.ensures.steps
