use Rattle.std.proofs.Common.{◌-◌, arith}
use Rattle.sum_tree.specs.Bounds.{way}
use Rattle.wrap_map.proofs.Ticks.{seeks-within}
use Rattle.wrap_map.proofs.waiting.run_from.Goals as goal

pub returns-clause-steps : goal.returns-clause-steps
returns-clause-steps c h high =
    seeks-within (c.min-limit.result - c.args.first) 128 (way h) c.args.steps.now c.next_at.new.steps
    (omega (arith, c.min-limit.ensures, c.saturating_add.ensures)) (c.next_at.ensures.steps h high)
