use Rattle.std.proofs.Common.{◌≡◌, take}
use Rattle.display_map.proofs.journal.shared_chunks.Given as goal

abbrev pub invariant-loop-chunk : goal.invariant-loop-chunk
invariant-loop-chunk l = l.list.items ≡ take l.chunk-index l.chunks
