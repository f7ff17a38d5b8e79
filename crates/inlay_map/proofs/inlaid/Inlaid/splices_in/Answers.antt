use Rattle.std.proofs.Common.{◌≡◌, ◌+◌, ◌-◌, ◌*◌, ◌≤◌, ◌∙◌, ℕ, ap, length, subst, sym, arith}
use Rattle.cell_units.specs.declared.limits.TheConstants.{LAID_LIMIT}
use Rattle.inlay_map.specs.declared.amount.Amount.{Amount}
use Rattle.inlay_map.specs.Amounts.{AmountFits, together}
use Rattle.inlay_map.specs.Bounds.{measuring}
use Rattle.inlay_map.specs.Splices.{splices_from}
use Rattle.inlay_map.proofs.Measured.{next-before}
use Rattle.inlay_map.proofs.Respliced.{run-more}
use Rattle.inlay_map.proofs.Spread.{spread}
use Rattle.inlay_map.proofs.StepSums.{more-steps}
use Rattle.inlay_map.proofs.inlaid.Inlaid.splices_in.Goals as goal

pub plus-reached-requires : goal.plus-reached-requires
plus-reached-requires c =
    let s = c.args.self.now in
    let short : length s.text ≤ LAID_LIMIT = omega (arith, c.len-len.ensures.value, c.len-len.ensures.lawful.short) in
    let next = next-before s c.loop-at.at c.loop-at.reached c.splice_at-splice.result (spread s.text s.inlays c.len-len.ensures.lawful.inlays) short c.loop-at.invariant.1 c.splice_at-splice.ensures.splice in
    subst (λ (a : Amount). AmountFits (together c.loop-at.reached a)) (sym c.gap.ensures) next.0

pub loop-at-preserved : goal.loop-at-preserved
loop-at-preserved c =
    let s = c.args.self.now in
    let short : length s.text ≤ LAID_LIMIT = omega (arith, c.len-len.ensures.value, c.len-len.ensures.lawful.short) in
    let next = next-before s c.loop-at.at c.loop-at.reached c.splice_at-splice.result (spread s.text s.inlays c.len-len.ensures.lawful.inlays) short c.loop-at.invariant.1 c.splice_at-splice.ensures.splice in
    let at = c.loop-at.at in
    let size : at - c.args.from + 1 ≡ at + 1 - c.args.from = omega (arith, c.loop-at.auto.at) in (
      c.in_ok-push.ensures.items
          ∙ run-more (splices_from s.text 0 s.inlays) c.loop-at.splices.items c.args.from at c.splice_at-splice.result c.loop-at.auto.at c.splice_at-splice.ensures.splice c.loop-at.invariant.0,
      c.plus-reached.ensures ∙ ap (together c.loop-at.reached) c.gap.ensures ∙ next.1,
      omega arith,
      λ h high.
          subst (λ (n : ℕ). c.splice_at-splice.new.steps ≤ c.args.steps.now + n * measuring h) size
          (more-steps (at - c.args.from) (measuring h) c.args.steps.now c.loop-at.steps c.splice_at-splice.new.steps (c.loop-at.invariant.3 h high) (c.splice_at-splice.ensures.steps h high)),
    )
