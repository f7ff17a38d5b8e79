use Rattle.std.proofs.Common.{◌≡◌, ◌∙◌, ℕ, ◌+◌, ◌*◌, ◌<◌, List, Some, get_or, length, slice_get, take, ap, subst, arith}
use Rattle.cell_units.specs.declared.place.Bias.TheVariants.{Left}
use Rattle.mark_tree.specs.declared.mark.Mark.{Mark}
use Rattle.sum_core.specs.declared.load.NoLoad.{NoLoad}
use Rattle.block_map.specs.inside.Anew.{Grows, IsAnchoredAt}
use Rattle.block_map.proofs.GatheredSteps.{anchored-none, grows-anchored}
use Rattle.block_map.proofs.StepSums.{turn-steps, turns-within}
use Rattle.block_map.proofs.StopLoops.{got, take-all}
use Rattle.block_map.proofs.anew.push_anchored.Goals as goal

pub loop-next-init : goal.loop-next-init
loop-next-init c = record {
  within = omega arith;
  grows = anchored-none (length c.args.marks.now) c.args.anchors.now c.args.marks.now c.args.places.now.items;
  counted = omega arith;
  steps = λ h few many. omega arith;
}

pub loop-next-preserved : goal.loop-next-preserved
loop-next-preserved c =
    let anchors = c.args.anchors.now in
    let next : ℕ = c.loop-next.next in
    let lt : next < length anchors = omega (arith, c.loop-next-test.true, c.len.ensures.len) in
    let d : Mark NoLoad = record { offset = 0; bias = Left; id = 0; load = record {} } in
    let a : Mark NoLoad = get_or anchors next d in
    let there : slice_get anchors next ≡ Some a = got anchors next d lt in
    let place = c.place_of_anchor.ensures.place a there in
    record {
      within = omega (arith, lt);
      grows = grows-anchored (length c.args.marks.now) anchors c.args.marks.now c.args.places.now.items c.loop-next.places.items c.push.new.self.items next c.place_of_anchor.result a there place
          (c.requires c.place_of_anchor.result (next, a, there, place)) c.in_ok-push.ensures.items c.loop-next.invariant.grows;
      counted = omega (arith, c.loop-next.invariant.counted, c.place_of_anchor.ensures.counted);
      steps = λ h few many.
          turn-steps next (35 * (h + 1)) c.args.steps.now c.loop-next.steps c.place_of_anchor.new.steps (c.loop-next.invariant.steps h few many) (c.place_of_anchor.ensures.steps h few many);
    }

pub returns-in_err-push-clause-steps : goal.returns-in_err-push-clause-steps
returns-in_err-push-clause-steps c h few many =
    turns-within (c.loop-next.next + 1) (length c.args.anchors.now) (35 * (h + 1)) c.args.steps.now c.place_of_anchor.new.steps (omega (arith, c.loop-next-test.true, c.len.ensures.len))
    (turn-steps c.loop-next.next (35 * (h + 1)) c.args.steps.now c.loop-next.steps c.place_of_anchor.new.steps (c.loop-next.invariant.steps h few many) (c.place_of_anchor.ensures.steps h few many))

pub returns-clause-ok : goal.returns-clause-ok
returns-clause-ok c =
    let anchors = c.args.anchors.now in
    let ms = c.args.marks.now in
    let end : c.loop-next.next ≡ length anchors = omega (arith, c.loop-next.invariant.within, c.loop-next-test.false, c.len.ensures.len) in
    subst (λ (l : List (Mark NoLoad)). Grows (length ms) (IsAnchoredAt l ms) (IsAnchoredAt anchors ms) c.args.places.now.items c.loop-next.places.items) (ap (λ (n : ℕ). take n anchors) end ∙ take-all anchors)
    c.loop-next.invariant.grows

pub returns-clause-steps : goal.returns-clause-steps
returns-clause-steps c h few many =
    turns-within c.loop-next.next (length c.args.anchors.now) (35 * (h + 1)) c.args.steps.now c.loop-next.steps c.loop-next.invariant.within (c.loop-next.invariant.steps h few many)
