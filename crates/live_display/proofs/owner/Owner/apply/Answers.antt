-- The crew and the board still fit the display.
use Rattle.display_sheet.specs.Changes.{ops_of}
use Rattle.live_display.proofs.Owners.{applied}
use Rattle.live_display.proofs.owner.Owner.apply.Goals as goal

pub returns-clause-owned : goal.returns-clause-owned
returns-clause-owned c =
    applied c.job_laws.ensures.over_operations c.args.self.now (ops_of c.args.change.now) c.apply.new.self c.apply.result c.apply.ensures.done c.apply.ensures.unchanged c.requires.owned
