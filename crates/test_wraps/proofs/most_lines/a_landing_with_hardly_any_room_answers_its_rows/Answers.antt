use Rattle.test_wraps.proofs.MostLines.{room-before-empty}
use Rattle.test_wraps.proofs.most_lines.a_landing_with_hardly_any_room_answers_its_rows.Goals as goal

pub landed_twice-requires-clause-room : goal.landed_twice-requires-clause-room
landed_twice-requires-clause-room g c κs = room-before-empty c.new-lines.result.empty c.new-lines.result.few
