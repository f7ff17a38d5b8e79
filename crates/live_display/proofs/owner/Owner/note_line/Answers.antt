-- The crew and the board still fit the display.
use Rattle.live_display.proofs.Owners.{noted}
use Rattle.live_display.proofs.owner.Owner.note_line.Goals as goal

pub returns-clause-owned : goal.returns-clause-owned
returns-clause-owned c =
    noted c.job_laws.ensures.stays c.args.self.now c.args.number c.note_line.new.self c.note_line.result c.note_line.ensures.noted c.note_line.ensures.unchanged c.requires.owned
