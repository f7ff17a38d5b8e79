use Rattle.std.proofs.Common.{◌≡◌, ◌+◌, false, length}
use Rattle.display_map.specs.Replay.{ends}
use Rattle.bench_board.proofs.boarded.publish_until.Given as goal

abbrev pub invariant-loop-number : goal.invariant-loop-number
invariant-loop-number g l = record {
  shown : l.writer.newest ≡ l.display;
  goes_on : ends l.display.events ≡ false;
  events : length l.display.events ≡ l.number + 1;
}
