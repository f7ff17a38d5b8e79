use Rattle.std.proofs.Common.{ℕ, List, subst}
use Rattle.cell_units.specs.Operation.{Replace}
use Rattle.layered_text.specs.Bounds.{LaysAtMost}
use Rattle.map_sheet.proofs.Done.{splice-fits, splice-range, splice-turned}
use Rattle.map_sheet.proofs.Works.{put-works, splice-works}
use Rattle.map_sheet.proofs.sheet.MapSheet.with_splice.Goals as goal

pub replaced-requires-clause-range : goal.replaced-requires-clause-range
replaced-requires-clause-range c =
    splice-range c.args.self.now c.text.result.now c.text.ensures c.args.splice.now.start c.args.splice.now.end c.args.splice.now.text c.requires.allowed

pub replaced-requires-clause-fits : goal.replaced-requires-clause-fits
replaced-requires-clause-fits c =
    splice-fits c.args.self.now c.text.result.now c.text.ensures c.args.splice.now.start c.args.splice.now.end c.args.splice.now.text
    c.as_str-text.result.now c.as_str-text.ensures c.requires.fits

pub relaid-requires : goal.relaid-requires
relaid-requires c = (
  Replace c.args.splice.now.start c.args.splice.now.end c.args.splice.now.text,
  splice-turned c.args.self.now c.text.result.now c.text.ensures c.args.splice.now.start c.args.splice.now.end c.args.splice.now.text
      c.as_str-text.result.now c.as_str-text.ensures c.requires.allowed c.requires.fits c.in_ok-made.made.0.text c.in_ok-made.made.0.shown c.in_ok-made.made.1
      c.in_ok-made.ensures.changed c.in_ok-made.ensures.shift,
)

pub returns-clause-done : goal.returns-clause-done
returns-clause-done c =
    c.relaid.ensures.done (Replace c.args.splice.now.start c.args.splice.now.end c.args.splice.now.text)
    (splice-turned c.args.self.now c.text.result.now c.text.ensures c.args.splice.now.start c.args.splice.now.end c.args.splice.now.text
    c.as_str-text.result.now c.as_str-text.ensures c.requires.allowed c.requires.fits c.in_ok-made.made.0.text c.in_ok-made.made.0.shown c.in_ok-made.made.1
    c.in_ok-made.ensures.changed c.in_ok-made.ensures.shift)

pub returns-in_err-made-clause-steps : goal.returns-in_err-made-clause-steps
returns-in_err-made-clause-steps c =
    put-works c.args.splice.now.start c.args.splice.now.end c.args.splice.now.text c.args.self.now c.text.result.now c.text.ensures
    c.args.steps.now c.replaced.new.steps
    (subst (λ (t : List ℕ). LaysAtMost (Replace c.args.splice.now.start c.args.splice.now.end t) c.text.result.now c.args.steps.now c.replaced.new.steps)
    c.as_str-text.ensures c.replaced.ensures.steps)

pub returns-clause-steps : goal.returns-clause-steps
returns-clause-steps c =
    splice-works c.args.splice.now.start c.args.splice.now.end c.args.splice.now.text c.args.self.now c.text.result.now c.text.ensures
    c.args.steps.now c.replaced.new.steps
    (subst (λ (t : List ℕ). LaysAtMost (Replace c.args.splice.now.start c.args.splice.now.end t) c.text.result.now c.args.steps.now c.replaced.new.steps)
    c.as_str-text.ensures c.replaced.ensures.steps)
    c.relaid.new.steps
    (c.relaid.ensures.steps (Replace c.args.splice.now.start c.args.splice.now.end c.args.splice.now.text)
    (splice-turned c.args.self.now c.text.result.now c.text.ensures c.args.splice.now.start c.args.splice.now.end c.args.splice.now.text
    c.as_str-text.result.now c.as_str-text.ensures c.requires.allowed c.requires.fits c.in_ok-made.made.0.text c.in_ok-made.made.0.shown c.in_ok-made.made.1
    c.in_ok-made.ensures.changed c.in_ok-made.ensures.shift))
