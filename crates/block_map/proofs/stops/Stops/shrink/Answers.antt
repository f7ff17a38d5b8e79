use Rattle.std.proofs.Common.{◌≡◌, ℕ, ◌+◌, ◌-◌, ◌*◌, ◌≤◌, Some, get_or, length, map, drop, sym, ap, subst, ◌∙◌, arith}
use Rattle.std.specs.List.{slice_get}
use Rattle.edit_patch.specs.declared.edit.Edit.{Edit}
use Rattle.block_map.specs.inside.RowMoves.{shrunk}
use Rattle.block_map.specs.inside.StopLists.{StopsFit}
use Rattle.std.proofs.lemmas.List.{length-map}
use Rattle.block_map.proofs.StepSums.{turn-steps, turns-within}
use Rattle.block_map.proofs.StopLoops.{clear-as, got, moved-as, ordered-at, shrunk-clear, shrunk-fits, shrunk-next, shrunk-none}
use Rattle.block_map.proofs.stops.Stops.shrink.Goals as goal

pub loop-left-init : goal.loop-left-init
loop-left-init c = record { within = omega arith; rest = shrunk-none c.args.bias c.args.edits.now c.args.self.now; counted = omega arith; steps = λ h few. omega arith }

pub new-rows-requires : goal.new-rows-requires
new-rows-requires c =
    let i : ℕ = c.loop-left.left - 1 in
    let es = c.args.edits.now in
    let next : i + 1 ≡ c.loop-left.left = omega (arith, c.loop-left-test.true) in
    let e : Edit = get_or es i (record { old_start = 0; old_end = 0; new_start = 0; new_end = 0 }) in
    let is : slice_get es i ≡ Some e = got es i (record { old_start = 0; old_end = 0; new_start = 0; new_end = 0 }) (omega (arith, next, c.loop-left.invariant.within)) in
    (ordered-at 0 0 0 es i e c.requires.patch is).0

pub move_behind-requires-clause-clear : goal.move_behind-requires-clause-clear
move_behind-requires-clause-clear c =
    let i : ℕ = c.loop-left.left - 1 in
    let es = c.args.edits.now in
    let next : i + 1 ≡ c.loop-left.left = omega (arith, c.loop-left-test.true) in
    let e : Edit = get_or es i (record { old_start = 0; old_end = 0; new_start = 0; new_end = 0 }) in
    let is : slice_get es i ≡ Some e = got es i (record { old_start = 0; old_end = 0; new_start = 0; new_end = 0 }) (omega (arith, next, c.loop-left.invariant.within)) in
    let rest : c.loop-left.self ≡ map (shrunk c.args.bias (drop (i + 1) es)) c.args.self.now = c.loop-left.invariant.rest ∙ ap (λ (n : ℕ). map (shrunk c.args.bias (drop n es)) c.args.self.now) (sym next) in
    clear-as c.args.bias c.new-rows.result.start c.new-rows.result.end e.old_start e.old_end c.loop-left.self (map (shrunk c.args.bias (drop (i + 1) es)) c.args.self.now) c.new-rows.ensures.start c.new-rows.ensures.end rest
    (shrunk-clear c.args.bias es c.requires.patch c.args.self.now i e is c.requires.kept)

pub move_behind-requires-clause-fits : goal.move_behind-requires-clause-fits
move_behind-requires-clause-fits c =
    let i : ℕ = c.loop-left.left - 1 in
    let es = c.args.edits.now in
    let next : i + 1 ≡ c.loop-left.left = omega (arith, c.loop-left-test.true) in
    let e : Edit = get_or es i (record { old_start = 0; old_end = 0; new_start = 0; new_end = 0 }) in
    let is : slice_get es i ≡ Some e = got es i (record { old_start = 0; old_end = 0; new_start = 0; new_end = 0 }) (omega (arith, next, c.loop-left.invariant.within)) in
    let rest : c.loop-left.self ≡ map (shrunk c.args.bias (drop (i + 1) es)) c.args.self.now = c.loop-left.invariant.rest ∙ ap (λ (n : ℕ). map (shrunk c.args.bias (drop n es)) c.args.self.now) (sym next) in
    let same = moved-as c.args.bias c.new-rows.result.start c.new-rows.result.end c.new-rows.result.count e.old_start e.old_end 0 c.loop-left.self (map (shrunk c.args.bias (drop (i + 1) es)) c.args.self.now)
    c.new-rows.ensures.start c.new-rows.ensures.end c.new-rows.ensures.count rest in
    subst StopsFit (sym same) (shrunk-fits c.args.bias es c.requires.patch c.args.self.now i e is c.len-count.ensures.rising c.requires.fit)

pub loop-left-preserved : goal.loop-left-preserved
loop-left-preserved c =
    let i : ℕ = c.loop-left.left - 1 in
    let es = c.args.edits.now in
    let next : i + 1 ≡ c.loop-left.left = omega (arith, c.loop-left-test.true) in
    let e : Edit = get_or es i (record { old_start = 0; old_end = 0; new_start = 0; new_end = 0 }) in
    let is : slice_get es i ≡ Some e = got es i (record { old_start = 0; old_end = 0; new_start = 0; new_end = 0 }) (omega (arith, next, c.loop-left.invariant.within)) in
    let rest : c.loop-left.self ≡ map (shrunk c.args.bias (drop (i + 1) es)) c.args.self.now = c.loop-left.invariant.rest ∙ ap (λ (n : ℕ). map (shrunk c.args.bias (drop n es)) c.args.self.now) (sym next) in
    let same = moved-as c.args.bias c.new-rows.result.start c.new-rows.result.end c.new-rows.result.count e.old_start e.old_end 0 c.loop-left.self (map (shrunk c.args.bias (drop (i + 1) es)) c.args.self.now)
    c.new-rows.ensures.start c.new-rows.ensures.end c.new-rows.ensures.count rest in
    record {
      within = omega (arith, c.loop-left.invariant.within);
      rest = c.in_ok-move_behind.ensures.ok ∙ same ∙ shrunk-next c.args.bias es c.requires.patch c.args.self.now i e is;
      counted = omega (arith, c.loop-left.invariant.counted, c.in_ok-move_behind.ensures.counted);
      steps = λ h few.
          let size : length c.loop-left.self ≡ length c.args.self.now = ap length c.loop-left.invariant.rest ∙ length-map c.args.self.now (shrunk c.args.bias (drop c.loop-left.left es)) in
          let more : length es - c.loop-left.left + 1 ≡ length es - i = omega (arith, next, c.loop-left.invariant.within) in
          subst (λ (n : ℕ). c.move_behind.new.steps ≤ c.args.steps.now + n * (170 * (h + 1))) more
          (turn-steps (length es - c.loop-left.left) (170 * (h + 1)) c.args.steps.now c.loop-left.steps c.move_behind.new.steps (c.loop-left.invariant.steps h few) (c.move_behind.ensures.steps h (omega (arith, few, size))));
    }

pub returns-in_err-move_behind-clause-steps : goal.returns-in_err-move_behind-clause-steps
returns-in_err-move_behind-clause-steps c h few =
    let es = c.args.edits.now in
    let size : length c.loop-left.self ≡ length c.args.self.now = ap length c.loop-left.invariant.rest ∙ length-map c.args.self.now (shrunk c.args.bias (drop c.loop-left.left es)) in
    turns-within (length es - c.loop-left.left + 1) (length es) (170 * (h + 1)) c.args.steps.now c.move_behind.new.steps (omega (arith, c.loop-left-test.true, c.loop-left.invariant.within))
    (turn-steps (length es - c.loop-left.left) (170 * (h + 1)) c.args.steps.now c.loop-left.steps c.move_behind.new.steps (c.loop-left.invariant.steps h few) (c.move_behind.ensures.steps h (omega (arith, few, size))))

pub returns-clause-steps : goal.returns-clause-steps
returns-clause-steps c h few =
    let es = c.args.edits.now in
    turns-within (length es - c.loop-left.left) (length es) (170 * (h + 1)) c.args.steps.now c.loop-left.steps (omega arith) (c.loop-left.invariant.steps h few)
