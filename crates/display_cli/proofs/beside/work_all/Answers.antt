-- A worker may go to another thread, and does jobs with their lines there.
use Rattle.std.proofs.Crossing.{crosses}
use Rattle.display_map.proofs.Sent.{display_sent}
use Rattle.wrap_workers.proofs.worker.Worker.TheSendSync as worker
use Rattle.display_cli.proofs.beside.work_all.Goals as goal

pub map_vec-ended-requires-send-J : goal.map_vec-ended-requires-send-J
map_vec-ended-requires-send-J _ _ _ _ = search (display_sent, crosses, worker.the_send) depth 12 fits 4000
