use Rattle.blocked_rows.proofs.CarriedBlocks.{syncs-none}
use Rattle.blocked_rows.proofs.blocked_rows.BlockedRows.new.Goals as goal

pub returns-clause-steps : goal.returns-clause-steps
returns-clause-steps g c =
    syncs-none (g.R.Rows.shown c.in_ok-share.field-0) c.none.result c.in_ok-blocks.blocks c.args.steps.now c.new.new.steps c.show.new.steps
    c.none.ensures c.in_ok-blocks.ensures.ok c.in_ok-blocks.ensures.steps c.show.ensures.steps
