use Rattle.std.proofs.Common.{◌∙◌, arith}
use Rattle.std.specs.Arc.{arc_value}
use Rattle.map_sheet.proofs.Steps.{step-follow, step-relaid, step-room}
use Rattle.map_sheet.proofs.Works.{relaid-blocks, relaid-lines}
use Rattle.map_sheet.proofs.Sent.{sheet_sent}
use Rattle.map_sheet.proofs.sheet.MapSheet.relaid.Goals as goal

pub after-requires-send-L : goal.after-requires-send-L
after-requires-send-L _ _ = search sheet_sent depth 12 fits 4000

pub after-requires-sync-L : goal.after-requires-sync-L
after-requires-sync-L _ _ = search sheet_sent depth 12 fits 4000

pub after-requires-clause-follow : goal.after-requires-clause-follow
after-requires-clause-follow c κs =
    step-follow c.args.self.now c.lawful.ensures.lawful c.wrapped.result.now c.wrapped.ensures c.args.turned.text c.in_ok-layer.layer
    (c.in_ok-layer.ensures ∙ c.layer.ensures) c.args.turned.shown c.args.shift c.requires

pub after-requires-clause-room : goal.after-requires-clause-room
after-requires-clause-room c κs =
    step-room c.args.self.now c.lawful.ensures.lawful c.wrapped.result.now c.wrapped.ensures c.args.turned.text c.in_ok-layer.layer
    (c.in_ok-layer.ensures ∙ c.layer.ensures) c.args.turned.shown c.args.shift c.requires

pub rewrapped-requires : goal.rewrapped-requires
rewrapped-requires c = (
  c.requires.0,
  step-relaid c.args.self.now c.lawful.ensures.lawful c.wrapped.result.now c.wrapped.ensures c.args.turned.text c.in_ok-layer.layer
      (c.in_ok-layer.ensures ∙ c.layer.ensures) c.args.turned.shown c.args.shift (arc_value c.in_ok-text.text) c.in_ok-text.ensures.ok
      c.in_ok-made.made.lines c.in_ok-made.made.run c.in_ok-made.made.rows c.in_ok-made.ensures.met c.in_ok-made.ensures.rewrapped c.requires.0 c.requires.1,
)

pub returns-clause-done : goal.returns-clause-done
returns-clause-done c operation turned =
    c.rewrapped.ensures.done operation
    (step-relaid c.args.self.now c.lawful.ensures.lawful c.wrapped.result.now c.wrapped.ensures c.args.turned.text c.in_ok-layer.layer
    (c.in_ok-layer.ensures ∙ c.layer.ensures) c.args.turned.shown c.args.shift (arc_value c.in_ok-text.text) c.in_ok-text.ensures.ok
    c.in_ok-made.made.lines c.in_ok-made.made.run c.in_ok-made.made.rows c.in_ok-made.ensures.met c.in_ok-made.ensures.rewrapped operation turned)

pub returns-in_err-layer-clause-steps : goal.returns-in_err-layer-clause-steps
returns-in_err-layer-clause-steps c operation turned h before after = omega arith

pub returns-in_err-made-clause-steps : goal.returns-in_err-made-clause-steps
returns-in_err-made-clause-steps c operation turned =
    relaid-lines operation c.args.self.now c.args.turned.text c.in_ok-layer.layer
    (c.in_ok-layer.ensures ∙ c.layer.ensures) c.args.turned.shown c.args.shift turned c.wrapped.result.now c.wrapped.ensures c.args.steps.now c.after.new.steps c.after.ensures.steps

pub returns-in_err-text-clause-steps : goal.returns-in_err-text-clause-steps
returns-in_err-text-clause-steps c operation turned =
    relaid-lines operation c.args.self.now c.args.turned.text c.in_ok-layer.layer
    (c.in_ok-layer.ensures ∙ c.layer.ensures) c.args.turned.shown c.args.shift turned c.wrapped.result.now c.wrapped.ensures c.args.steps.now c.after.new.steps c.after.ensures.steps

pub returns-clause-steps : goal.returns-clause-steps
returns-clause-steps c operation turned =
    relaid-blocks operation c.args.self.now c.args.turned.text c.in_ok-layer.layer
    (c.in_ok-layer.ensures ∙ c.layer.ensures) c.args.turned.shown c.args.shift turned c.wrapped.result.now c.wrapped.ensures c.args.steps.now c.after.new.steps c.after.ensures.steps
    c.rewrapped.new.steps
    (c.rewrapped.ensures.steps operation
    (step-relaid c.args.self.now c.lawful.ensures.lawful c.wrapped.result.now c.wrapped.ensures c.args.turned.text c.in_ok-layer.layer
    (c.in_ok-layer.ensures ∙ c.layer.ensures) c.args.turned.shown c.args.shift (arc_value c.in_ok-text.text) c.in_ok-text.ensures.ok
    c.in_ok-made.made.lines c.in_ok-made.made.run c.in_ok-made.made.rows c.in_ok-made.ensures.met c.in_ok-made.ensures.rewrapped operation turned))
