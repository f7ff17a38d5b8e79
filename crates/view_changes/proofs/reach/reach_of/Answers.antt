use Rattle.std.proofs.Common.{subst, sym}
use Rattle.cell_units.specs.Lawful.{IsAllowed}
use Rattle.display_sheet.specs.declared.change.Op.{Op}
use Rattle.display_sheet.specs.Changes.{fold_of, inlay_of, operation_of}
use Rattle.view_changes.specs.declared.reach.Reach.TheVariants.{Rows}
use Rattle.view_changes.specs.inside.Reaches.{Reaches}
use Rattle.view_changes.proofs.Reaching.{by-fold, by-inlay, by-old-fold, by-old-inlay, by-replacement}
use Rattle.view_changes.proofs.reach.reach_of.Goals as goal

pub returns-in-Replace-clause-reach : goal.returns-in-Replace-clause-reach
returns-in-Replace-clause-reach c =
    let r = c.args.sheet.now in
    let splice = c.in-Replace.splice in
    let ok = subst (λ (op : Op). IsAllowed (operation_of op) r) c.in-Replace.is c.requires in
    subst (λ (op : Op). Reaches (operation_of op) r (Rows splice.start splice.end)) (sym c.in-Replace.is) (by-replacement r splice.start splice.end splice.text ok)

pub returns-in-Inlay-clause-reach : goal.returns-in-Inlay-clause-reach
returns-in-Inlay-clause-reach c =
    let r = c.args.sheet.now in
    let inlay = inlay_of c.in-Inlay.id c.in-Inlay.offset c.in-Inlay.bias c.in-Inlay.text in
    let ok = subst (λ (op : Op). IsAllowed (operation_of op) r) c.in-Inlay.is c.requires in
    subst (λ (op : Op). Reaches (operation_of op) r (Rows inlay.offset inlay.offset)) (sym c.in-Inlay.is) (by-inlay r inlay ok)

pub returns-in-Some-clause-reach : goal.returns-in-Some-clause-reach
returns-in-Some-clause-reach c =
    let r = c.args.sheet.now in
    subst (λ (op : Op). Reaches (operation_of op) r (Rows c.in-Some.offset c.in-Some.offset)) (sym c.in-Uninlay.is)
    (by-old-inlay r c.lawful.ensures.lawful c.in-Uninlay.id c.in-Some.offset c.in-Some.ensures.offset)

pub returns-in-Fold-clause-reach : goal.returns-in-Fold-clause-reach
returns-in-Fold-clause-reach c =
    let r = c.args.sheet.now in
    let fold = fold_of c.in-Fold.id c.in-Fold.start c.in-Fold.end in
    let ok = subst (λ (op : Op). IsAllowed (operation_of op) r) c.in-Fold.is c.requires in
    subst (λ (op : Op). Reaches (operation_of op) r (Rows fold.start fold.end)) (sym c.in-Fold.is) (by-fold r fold ok)

pub returns-in-Some-fold_range-clause-reach : goal.returns-in-Some-fold_range-clause-reach
returns-in-Some-fold_range-clause-reach c =
    let r = c.args.sheet.now in
    let start = c.in-Some-fold_range.start in
    let end = c.in-Some-fold_range.end in
    subst (λ (op : Op). Reaches (operation_of op) r (Rows start end)) (sym c.in-Unfold.is)
    (by-old-fold r c.lawful.ensures.lawful c.in-Unfold.id start end c.in-Some-fold_range.ensures.range)
