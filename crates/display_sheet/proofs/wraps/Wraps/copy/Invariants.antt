use Rattle.std.proofs.Common.{◌≡◌, take}
use Rattle.display_sheet.proofs.wraps.Wraps.copy.Given as goal

abbrev pub invariant-loop-chunk : goal.invariant-loop-chunk
invariant-loop-chunk l = l.chunks.items ≡ take l.chunk-index l.self-inside.chunks.items
