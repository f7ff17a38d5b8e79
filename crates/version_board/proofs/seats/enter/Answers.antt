use Rattle.std.proofs.Common.{refl}
use Rattle.version_board.proofs.Tying.{sees_row}
use Rattle.version_board.proofs.seats.enter.Goals as goal

pub enter_as-requires : goal.enter_as-requires
enter_as-requires c x = sees_row _ _ x x refl
