use Rattle.blocked_rows.proofs.AlteredBlocks.{shows-all}
use Rattle.blocked_rows.proofs.blocked_rows.show.Goals as goal

pub invariant_of-result : goal.invariant_of-result
invariant_of-result g c =
    shows-all (g.P.Layer.source c.args.layer.now) c.args.shift (g.R.Rows.shown c.in_ok-given.given) (g.R.Rows.shown c.args.rows) c.args.blocks c.sync.new.self
    c.in_ok-shown.shown c.in_ok-given.ensures c.in_ok-shown.ensures.ok c.in_ok-shown.ensures.shown
