use Rattle.std.proofs.Common.{◌≡◌, ℕ, ◌+◌, ◌-◌, ◌*◌, ◌<◌, ◌≤◌, List, get_or, length, drop, sym, ap, subst, ◌∙◌, arith}
use Rattle.block_map.specs.inside.StopLists.{StopsFit, without_stop}
use Rattle.block_map.specs.inside.Without.{without}
use Rattle.block_map.proofs.LeftOut.{length-left}
use Rattle.block_map.proofs.StepSums.{turn-steps, turns-within}
use Rattle.block_map.proofs.StopLoops.{drop-all, got, taken-next, without-none}
use Rattle.block_map.proofs.StopSizes.{fit-left}
use Rattle.block_map.proofs.stops.Stops.take_out.Goals as goal

pub loop-left-init : goal.loop-left-init
loop-left-init c = record {
  within = omega arith;
  rest = sym (ap (λ (l : List ℕ). without l 0 c.args.self.now) (drop-all c.args.places.now) ∙ without-none 0 c.args.self.now);
  counted = omega arith;
  steps = λ h few. omega arith;
}

pub remove-requires-clause-within : goal.remove-requires-clause-within
remove-requires-clause-within c =
    let i : ℕ = c.loop-left.left - 1 in
    let places = c.args.places.now in
    let next : i + 1 ≡ c.loop-left.left = omega (arith, c.loop-left-test.true) in
    let lt : i < length places = omega (arith, next, c.loop-left.invariant.within) in
    let a : ℕ = get_or places i 0 in
    let taken = taken-next places c.args.self.now i a c.requires.rising (got places i 0 lt) (c.requires.within i 0 lt) in
    let rest : c.loop-left.self ≡ without (drop (i + 1) places) 0 c.args.self.now = c.loop-left.invariant.rest ∙ ap (λ (n : ℕ). without (drop n places) 0 c.args.self.now) (sym next) in
    omega (arith, taken.within, ap length rest)

pub remove-requires-clause-fit : goal.remove-requires-clause-fit
remove-requires-clause-fit c =
    let i : ℕ = c.loop-left.left - 1 in
    let places = c.args.places.now in
    let next : i + 1 ≡ c.loop-left.left = omega (arith, c.loop-left-test.true) in
    let lt : i < length places = omega (arith, next, c.loop-left.invariant.within) in
    let a : ℕ = get_or places i 0 in
    let taken = taken-next places c.args.self.now i a c.requires.rising (got places i 0 lt) (c.requires.within i 0 lt) in
    let rest : c.loop-left.self ≡ without (drop (i + 1) places) 0 c.args.self.now = c.loop-left.invariant.rest ∙ ap (λ (n : ℕ). without (drop n places) 0 c.args.self.now) (sym next) in
    subst StopsFit (sym rest) (fit-left (drop (i + 1) places) c.args.self.now c.len-count.ensures.rising c.requires.fit)

pub loop-left-preserved : goal.loop-left-preserved
loop-left-preserved c =
    let i : ℕ = c.loop-left.left - 1 in
    let places = c.args.places.now in
    let next : i + 1 ≡ c.loop-left.left = omega (arith, c.loop-left-test.true) in
    let lt : i < length places = omega (arith, next, c.loop-left.invariant.within) in
    let a : ℕ = get_or places i 0 in
    let taken = taken-next places c.args.self.now i a c.requires.rising (got places i 0 lt) (c.requires.within i 0 lt) in
    let rest : c.loop-left.self ≡ without (drop (i + 1) places) 0 c.args.self.now = c.loop-left.invariant.rest ∙ ap (λ (n : ℕ). without (drop n places) 0 c.args.self.now) (sym next) in
    record {
      within = omega (arith, c.loop-left.invariant.within);
      rest = c.in_ok-remove.ensures.ok ∙ ap (without_stop a) rest ∙ taken.rest;
      counted = omega (arith, c.loop-left.invariant.counted, c.in_ok-remove.ensures.counted);
      steps = λ h few.
          let short = length-left (drop c.loop-left.left places) 0 c.args.self.now in
          let more : length places - c.loop-left.left + 1 ≡ length places - i = omega (arith, next, c.loop-left.invariant.within) in
          subst (λ (n : ℕ). c.remove.new.steps ≤ c.args.steps.now + n * (170 * (h + 1))) more
          (turn-steps (length places - c.loop-left.left) (170 * (h + 1)) c.args.steps.now c.loop-left.steps c.remove.new.steps (c.loop-left.invariant.steps h few) (c.remove.ensures.steps h (omega (arith, few, short, ap length c.loop-left.invariant.rest))));
    }

pub returns-in_err-remove-clause-steps : goal.returns-in_err-remove-clause-steps
returns-in_err-remove-clause-steps c h few =
    let places = c.args.places.now in
    let short = length-left (drop c.loop-left.left places) 0 c.args.self.now in
    turns-within (length places - c.loop-left.left + 1) (length places) (170 * (h + 1)) c.args.steps.now c.remove.new.steps (omega (arith, c.loop-left-test.true, c.loop-left.invariant.within))
    (turn-steps (length places - c.loop-left.left) (170 * (h + 1)) c.args.steps.now c.loop-left.steps c.remove.new.steps (c.loop-left.invariant.steps h few) (c.remove.ensures.steps h (omega (arith, few, short, ap length c.loop-left.invariant.rest))))

pub returns-clause-steps : goal.returns-clause-steps
returns-clause-steps c h few =
    let places = c.args.places.now in
    turns-within (length places - c.loop-left.left) (length places) (170 * (h + 1)) c.args.steps.now c.loop-left.steps (omega arith) (c.loop-left.invariant.steps h few)
