use Rattle.std.proofs.Common.{◌≡◌, ◌-◌, ◌<◌, ◌≤◌, length, take}
use Rattle.display_sheet.specs.Chunks.{AreChunks, joined}
use Rattle.display_sheet.proofs.Chunks.{AreFull}
use Rattle.display_sheet.proofs.wraps.chunked.Given as goal

abbrev pub invariant-loop-start : goal.invariant-loop-start
invariant-loop-start l = record {
  lines : joined l.chunks.items ≡ take l.start l.lines;
  full : AreChunks 2048 l.chunks.items;
  whole : l.start < length l.lines → AreFull 2048 l.chunks.items;
  within : l.start ≤ length l.lines;
}

abbrev pub decreases-loop-start : goal.decreases-loop-start
decreases-loop-start l = length l.lines - l.start
