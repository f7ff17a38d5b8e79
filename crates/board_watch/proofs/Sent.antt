-- A watcher may go to another thread.
use denote.Param.Send.{IsSend}
use Rattle.version_board.proofs.Sent.{board_sent}
use Rattle.board_watch.proofs.seen.Seen.TheSendSync as seen
use Rattle.board_watch.specs.contracts.watcher.Watcher as watchers

pub watcher-send : IsSend watchers.the_row
watcher-send = search (board_sent, seen.the_send) depth 12 fits 20000

-- watchers and all that a board has, as a set for `search`
pub ruleset watch_sent = (board_sent, watcher-send)
