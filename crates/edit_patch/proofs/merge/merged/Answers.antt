use Rattle.std.proofs.Common.{List, [], subst, sym, arith}
use Rattle.std.proofs.lemmas.List.{drop_all}
use Rattle.edit_patch.specs.declared.edit.Edit.{Edit}
use Rattle.edit_patch.specs.Patch.{IsComposed}
use Rattle.edit_patch.proofs.Merging.{Merging, merging-end, closable-end, can_take_first, takes_first, can_take_second, takes_second, first-later_past, first-later_end, second-later_at}
use Rattle.edit_patch.proofs.merge.merged.Goals as goal
use Rattle.edit_patch.proofs.merge.merged.Goals.{then-loop-taken-test+else-first-taken, else-loop-taken-test}

pub take_first-requires : goal.take_first-requires
take_first-requires c =
    can_take_first _ _ _ _ _ _ _ _ c.loop-taken.invariant.merging c.requires.fits c.loop-taken-test.true
    (second-later_at _ _ _ _ c.loop-edit-test.true c.if-first-taken.true)

pub loop-taken-preserved : goal.loop-taken-preserved
loop-taken-preserved c = record {
  merging = takes_first _ _ _ _ _ _ _ _ _ _ c.loop-taken.invariant.merging c.loop-taken-test.true
      (second-later_at _ _ _ _ c.loop-edit-test.true c.if-first-taken.true)
      c.in_ok-take_first.ensures.bounded c.in_ok-take_first.ensures.front c.in_ok-take_first.ensures.edits;
  taken = omega arith;
}

pub take_second-requires : goal.take_second-requires
take_second-requires c =
    can_take_second _ _ _ _ _ _ _ _ c.loop-taken.invariant.merging c.requires.fits c.loop-edit-test.true
    (elim c.loop-taken-test.branch [
      | then-loop-taken-test+else-first-taken w ↦ first-later_past _ _ _ _ w.loop-taken-test.true w.if-first-taken.false
      | else-loop-taken-test w ↦ first-later_end _ _ _ w.loop-taken-test.false
    ])

pub loop-edit-preserved : goal.loop-edit-preserved
loop-edit-preserved c = record {
  merging = takes_second _ _ _ _ _ _ _ _ _ _ c.loop-taken.invariant.merging c.loop-edit-test.true
      (elim c.loop-taken-test.branch [
        | then-loop-taken-test+else-first-taken w ↦ first-later_past _ _ _ _ w.loop-taken-test.true w.if-first-taken.false
        | else-loop-taken-test w ↦ first-later_end _ _ _ w.loop-taken-test.false
      ])
      c.in_ok-take_second.ensures.bounded c.in_ok-take_second.ensures.front c.in_ok-take_second.ensures.edits;
  taken = c.loop-taken.invariant.taken;
}

pub take_first-requires-in-loop-edit-2 : goal.take_first-requires-in-loop-edit-2
take_first-requires-in-loop-edit-2 c =
    can_take_first _ _ _ _ _ _ _ _ c.loop-edit-2.invariant c.requires.fits c.loop-edit-2-test.true tt

pub loop-edit-2-preserved : goal.loop-edit-2-preserved
loop-edit-2-preserved c =
    takes_first _ _ _ _ _ _ _ _ _ _ c.loop-edit-2.invariant c.loop-edit-2-test.true tt
    c.in_ok-take_first-2.ensures.bounded c.in_ok-take_first-2.ensures.front c.in_ok-take_first-2.ensures.edits

pub close-requires : goal.close-requires
close-requires c =
    closable-end _ _ _ _ (subst (λ (z : List Edit). Merging c.args.first.now c.args.second.now c.loop-edit-2.merge.front z [] c.loop-edit-2.merge.edits.items)
    (drop_all _ _ c.loop-edit-2-test.false) c.loop-edit-2.invariant) c.requires.fits

pub returns : goal.returns
returns c =
    subst (λ (z : List Edit). IsComposed c.args.first.now c.args.second.now z) (sym c.in_ok-close.ensures.edits)
    (merging-end _ _ _ _ (subst (λ (z : List Edit). Merging c.args.first.now c.args.second.now c.loop-edit-2.merge.front z [] c.loop-edit-2.merge.edits.items)
    (drop_all _ _ c.loop-edit-2-test.false) c.loop-edit-2.invariant))
