-- A looker may go to another thread.
use Rattle.version_board.proofs.Sent.{board_sent}
use Rattle.bench_board.proofs.boarded.look_all.Goals as goal

pub for_each_mut-requires-send-T : goal.for_each_mut-requires-send-T
for_each_mut-requires-send-T _ _ _ _ = search board_sent depth 12 fits 4000
