use Rattle.wrapped_lines.proofs.LawfulLines.{has-room-for-lines}
use Rattle.wrapped_lines.proofs.laws.room_laws.Goals as goal

pub returns : goal.returns
returns c = has-room-for-lines
