use Rattle.std.proofs.Common.{◌+◌, ◌-◌, ◌++◌, ◌∷◌, [], ◌∙◌, ap, sym, arith}
use Rattle.mark_tree.proofs.Finding.{copied-more, steps-more}
use Rattle.mark_tree.proofs.spaced.Spaced.copied.Goals as goal

pub loop-at-preserved : goal.loop-at-preserved
loop-at-preserved g c = record {
  copies = c.in_ok-push.ensures.items ∙ ap (λ l. l ++ c.in_ok-copy_at.field-0 ∷ []) c.loop-at.invariant.copies
      ∙ sym (copied-more c.args.self.now c.args.from c.loop-at.at c.in_ok-copy_at.field-0 (omega arith) c.in_ok-copy_at.ensures.copy);
  counted = omega arith;
  steps = λ h few. steps-more (h + 1) (c.loop-at.at - c.args.from) (c.loop-at.at + 1 - c.args.from) c.args.steps.now c.loop-at.steps c.copy_at.new.steps (omega arith) (c.loop-at.invariant.steps h few) (c.in_ok-copy_at.ensures.steps h few);
}

pub returns-in_err-copy_at-clause-steps : goal.returns-in_err-copy_at-clause-steps
returns-in_err-copy_at-clause-steps g c h few =
    steps-more (h + 1) (c.loop-at.at - c.args.from) (c.args.to - c.args.from) c.args.steps.now c.loop-at.steps c.copy_at.new.steps (omega arith) (c.loop-at.invariant.steps h few) (c.copy_at.ensures.steps h few)

pub returns-in_err-push-clause-steps : goal.returns-in_err-push-clause-steps
returns-in_err-push-clause-steps g c h few =
    steps-more (h + 1) (c.loop-at.at - c.args.from) (c.args.to - c.args.from) c.args.steps.now c.loop-at.steps c.copy_at.new.steps (omega arith) (c.loop-at.invariant.steps h few) (c.copy_at.ensures.steps h few)
