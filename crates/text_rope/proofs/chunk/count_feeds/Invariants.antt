use Rattle.std.proofs.Common.{◌≡◌, take, count_by}
use Rattle.cell_units.specs.Text.{is_feed}
use Rattle.text_rope.proofs.chunk.count_feeds.Given as goal

abbrev pub invariant-loop-byte : goal.invariant-loop-byte
invariant-loop-byte l = l.feeds ≡ count_by is_feed (take l.byte-index l.bytes)
