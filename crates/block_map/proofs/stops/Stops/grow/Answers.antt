use Rattle.std.proofs.Common.{◌≡◌, ℕ, ◌+◌, ◌*◌, Some, get_or, length, map, take, sym, ap, subst, ◌∙◌, arith}
use Rattle.std.specs.List.{slice_get}
use Rattle.edit_patch.specs.declared.edit.Edit.{Edit}
use Rattle.edit_patch.specs.Fits.{added_count}
use Rattle.block_map.specs.inside.RowMoves.{grown}
use Rattle.block_map.specs.inside.StopLists.{StopsFit}
use Rattle.std.proofs.lemmas.List.{length-map}
use Rattle.block_map.proofs.StepSums.{turn-steps, turns-within}
use Rattle.block_map.proofs.StopLoops.{got, grown-fits, grown-none, grown-step, moved-as, ordered-at}
use Rattle.block_map.proofs.stops.Stops.grow.Goals as goal

pub loop-done-init : goal.loop-done-init
loop-done-init c = record { within = omega arith; rest = grown-none c.args.bias c.args.edits.now c.args.self.now; counted = omega arith; steps = λ h few. omega arith }

pub overflow_sub-added : goal.overflow_sub-added
overflow_sub-added c =
    let i : ℕ = c.loop-done.done in
    let es = c.args.edits.now in
    let e : Edit = get_or es i (record { old_start = 0; old_end = 0; new_start = 0; new_end = 0 }) in
    let is : slice_get es i ≡ Some e = got es i (record { old_start = 0; old_end = 0; new_start = 0; new_end = 0 }) c.loop-done-test.true in
    (ordered-at 0 0 0 es i e c.requires.patch is).1

pub move_behind-requires-clause-fits : goal.move_behind-requires-clause-fits
move_behind-requires-clause-fits c =
    let i : ℕ = c.loop-done.done in
    let es = c.args.edits.now in
    let e : Edit = get_or es i (record { old_start = 0; old_end = 0; new_start = 0; new_end = 0 }) in
    let is : slice_get es i ≡ Some e = got es i (record { old_start = 0; old_end = 0; new_start = 0; new_end = 0 }) c.loop-done-test.true in
    let same = moved-as c.args.bias c.new-rows.result.start c.new-rows.result.end c.new-rows.result.count e.new_start e.new_start (added_count e) c.loop-done.self (map (grown c.args.bias (take i es)) c.args.self.now)
    c.new-rows.ensures.start c.new-rows.ensures.end c.new-rows.ensures.count c.loop-done.invariant.rest in
    subst StopsFit (sym same) (grown-fits c.args.bias es c.requires.patch c.args.self.now i e is c.requires.rising c.requires.fits)

pub loop-done-preserved : goal.loop-done-preserved
loop-done-preserved c =
    let i : ℕ = c.loop-done.done in
    let es = c.args.edits.now in
    let e : Edit = get_or es i (record { old_start = 0; old_end = 0; new_start = 0; new_end = 0 }) in
    let is : slice_get es i ≡ Some e = got es i (record { old_start = 0; old_end = 0; new_start = 0; new_end = 0 }) c.loop-done-test.true in
    let same = moved-as c.args.bias c.new-rows.result.start c.new-rows.result.end c.new-rows.result.count e.new_start e.new_start (added_count e) c.loop-done.self (map (grown c.args.bias (take i es)) c.args.self.now)
    c.new-rows.ensures.start c.new-rows.ensures.end c.new-rows.ensures.count c.loop-done.invariant.rest in
    record {
      within = omega (arith, c.loop-done-test.true);
      rest = c.in_ok-move_behind.ensures.ok ∙ same ∙ grown-step c.args.bias es c.requires.patch c.args.self.now i e is;
      counted = omega (arith, c.loop-done.invariant.counted, c.in_ok-move_behind.ensures.counted);
      steps = λ h few.
          let size : length c.loop-done.self ≡ length c.args.self.now = ap length c.loop-done.invariant.rest ∙ length-map c.args.self.now (grown c.args.bias (take i es)) in
          turn-steps i (170 * (h + 1)) c.args.steps.now c.loop-done.steps c.move_behind.new.steps (c.loop-done.invariant.steps h few) (c.move_behind.ensures.steps h (omega (arith, few, size)));
    }

pub returns-in_err-move_behind-clause-steps : goal.returns-in_err-move_behind-clause-steps
returns-in_err-move_behind-clause-steps c h few =
    let es = c.args.edits.now in
    let size : length c.loop-done.self ≡ length c.args.self.now = ap length c.loop-done.invariant.rest ∙ length-map c.args.self.now (grown c.args.bias (take c.loop-done.done es)) in
    turns-within (c.loop-done.done + 1) (length es) (170 * (h + 1)) c.args.steps.now c.move_behind.new.steps (omega (arith, c.loop-done-test.true))
    (turn-steps c.loop-done.done (170 * (h + 1)) c.args.steps.now c.loop-done.steps c.move_behind.new.steps (c.loop-done.invariant.steps h few) (c.move_behind.ensures.steps h (omega (arith, few, size))))

pub returns-clause-steps : goal.returns-clause-steps
returns-clause-steps c h few = turns-within c.loop-done.done (length c.args.edits.now) (170 * (h + 1)) c.args.steps.now c.loop-done.steps c.loop-done.invariant.within (c.loop-done.invariant.steps h few)
