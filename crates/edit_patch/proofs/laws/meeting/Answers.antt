use Rattle.edit_patch.proofs.Meeting.{common-order, meets-inverted}
use Rattle.edit_patch.proofs.laws.meeting.Goals as goal

pub returns : goal.returns
returns c = record { order = common-order; inverse = meets-inverted }
