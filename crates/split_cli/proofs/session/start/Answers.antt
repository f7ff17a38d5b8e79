-- Each view is as a display that is started on the bytes.
use Rattle.std.proofs.Common.{[], refl}
use Rattle.cell_units.specs.Text.{clean}
use Rattle.split_cli.proofs.session.start.Goals as goal

pub returns-in-Ok-clause-started : goal.returns-in-Ok-clause-started
returns-in-Ok-clause-started c =
    (record { opening = clean c.args.bytes.now; events = [] }, (c.args.bytes.now, refl, c.in-Ok.ensures.accepted, refl, refl), c.in-Ok.ensures.started)
