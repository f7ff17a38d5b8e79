use Rattle.std.proofs.Common.{◌≡◌, ◌<◌, ◌+◌, false, length}
use Rattle.display_map.specs.Replay.{ends}
use Rattle.version_board.proofs.tests.publish_all.Given as goal

abbrev pub invariant-loop-number : goal.invariant-loop-number
invariant-loop-number g l = record {
  shown : l.writer.newest ≡ l.display;
  goes_on : l.number < 40 → ends l.display.events ≡ false;
  events : length l.display.events ≡ l.number + l.number + 1;
  board : l.writer.board ≡ l.initial.writer.board;
}
