use Rattle.std.proofs.Common.{◌∙◌, subst}
use Rattle.block_map.specs.Carried.{SyncsAtMost}
use Rattle.block_map.specs.Maps.{BlockState}
use Rattle.blocked_rows.proofs.blocked_rows.BlockedRows.after.Goals as goal

pub returns-clause-steps : goal.returns-clause-steps
returns-clause-steps g c =
    subst (λ (s : BlockState). SyncsAtMost c.args.shift c.args.edits.now s c.args.steps.now c.show.new.steps)
    (c.in_ok-blocks.ensures ∙ c.self.view_is) c.show.ensures.steps
