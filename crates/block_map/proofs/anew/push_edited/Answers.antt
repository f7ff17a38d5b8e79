use Rattle.std.proofs.Common.{◌≡◌, ◌∙◌, ℕ, ◌+◌, ◌*◌, List, Some, get_or, length, slice_get, take, ap, subst, arith}
use Rattle.edit_patch.specs.declared.edit.Edit.{Edit}
use Rattle.block_map.specs.inside.Anew.{Grows, IsEditedAt, IsTouchedAt}
use Rattle.block_map.proofs.GatheredSteps.{edited-none, grows-edited}
use Rattle.block_map.proofs.StepSums.{turn-steps, turns-within}
use Rattle.block_map.proofs.StopLoops.{got, take-all}
use Rattle.block_map.proofs.anew.push_edited.Goals as goal

pub loop-next-init : goal.loop-next-init
loop-next-init g c = record {
  within = omega arith;
  grows = edited-none (length c.args.stops.now) c.args.edits.now (g.R.Rows.shown c.args.rows.now) c.args.side c.args.stops.now c.args.places.now.items;
  counted = omega arith;
  steps = λ h few. omega arith;
}

pub loop-next-preserved : goal.loop-next-preserved
loop-next-preserved g c =
    let es = c.args.edits.now in
    let e : Edit = get_or es c.loop-next.next (record { old_start = 0; old_end = 0; new_start = 0; new_end = 0 }) in
    let is : slice_get es c.loop-next.next ≡ Some e = got es c.loop-next.next (record { old_start = 0; old_end = 0; new_start = 0; new_end = 0 }) c.loop-next-test.true in
    record {
      within = omega (arith, c.loop-next-test.true);
      grows = grows-edited (length c.args.stops.now) es (g.R.Rows.shown c.args.rows.now) c.args.side c.args.stops.now c.args.places.now.items c.loop-next.places.items c.push_lines_of.new.places.items c.loop-next.next e is
          c.loop-next.invariant.grows c.in_ok-push_lines_of.ensures.ok;
      counted = omega (arith, c.loop-next.invariant.counted, c.in_ok-push_lines_of.ensures.counted);
      steps = λ h few. turn-steps c.loop-next.next (2 * (h + 1)) c.args.steps.now c.loop-next.steps c.push_lines_of.new.steps (c.loop-next.invariant.steps h few) (c.push_lines_of.ensures.steps h few);
    }

pub returns-in_err-push_lines_of-clause-steps : goal.returns-in_err-push_lines_of-clause-steps
returns-in_err-push_lines_of-clause-steps g c h few =
    turns-within (c.loop-next.next + 1) (length c.args.edits.now) (2 * (h + 1)) c.args.steps.now c.push_lines_of.new.steps (omega (arith, c.loop-next-test.true))
    (turn-steps c.loop-next.next (2 * (h + 1)) c.args.steps.now c.loop-next.steps c.push_lines_of.new.steps (c.loop-next.invariant.steps h few) (c.push_lines_of.ensures.steps h few))

pub returns-clause-ok : goal.returns-clause-ok
returns-clause-ok g c =
    let es = c.args.edits.now in
    let ss = c.args.stops.now in
    let lines = g.R.Rows.shown c.args.rows.now in
    let end : c.loop-next.next ≡ length es = omega (arith, c.loop-next.invariant.within, c.loop-next-test.false) in
    subst (λ (l : List Edit). Grows (length ss) (IsEditedAt l lines c.args.side ss) (IsTouchedAt es lines c.args.side ss) c.args.places.now.items c.loop-next.places.items) (ap (λ (n : ℕ). take n es) end ∙ take-all es)
    c.loop-next.invariant.grows

pub returns-clause-steps : goal.returns-clause-steps
returns-clause-steps g c h few =
    turns-within c.loop-next.next (length c.args.edits.now) (2 * (h + 1)) c.args.steps.now c.loop-next.steps c.loop-next.invariant.within (c.loop-next.invariant.steps h few)
