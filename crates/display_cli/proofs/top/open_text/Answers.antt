-- What was read is what the display is started on.
use Rattle.display_cli.proofs.Ends.{opened-told}
use Rattle.display_cli.proofs.top.open_text.Goals as goal

pub returns-clause-opened : goal.returns-clause-opened
returns-clause-opened g c =
    opened-told ((g.I.Inputs.state c.args.inputs.now).told c.args.plan.now.text) _ c.in_ok-bytes.bytes.items c.as_slice.result.now c.start.result
    c.in_ok-bytes.ensures.read.0 c.in_ok-bytes.ensures.counted c.as_slice.ensures.value c.start.ensures.started
