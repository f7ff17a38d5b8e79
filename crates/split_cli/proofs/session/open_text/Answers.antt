-- What was read is what the views are started on.
use Rattle.split_cli.proofs.Sessions.{views-opened}
use Rattle.split_cli.proofs.session.open_text.Goals as goal

pub returns-clause-opened : goal.returns-clause-opened
returns-clause-opened g c =
    views-opened ((g.I.Inputs.state c.args.inputs.now).told c.args.plan.now.plan.text) _ c.args.plan.now.views c.in_ok-bytes.bytes.items
    c.as_slice.result.now c.start.result c.in_ok-bytes.ensures.read.0 c.in_ok-bytes.ensures.counted c.as_slice.ensures.value c.start.ensures.started
