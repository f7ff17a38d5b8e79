-- A version was published, and no job was sent.
use Rattle.cell_units.specs.Text.{clean}
use Rattle.display_session.proofs.LoneDisplays.{kept-opened}
use Rattle.display_session.proofs.lone.LoneDisplay.open.Goals as goal

pub invariant_of-result : goal.invariant_of-result
invariant_of-result c =
    kept-opened c.in_ok-display.display c.publish.new.self (clean c.args.bytes.now) c.in_ok-display.ensures.started c.in_ok-_first.ensures.published
