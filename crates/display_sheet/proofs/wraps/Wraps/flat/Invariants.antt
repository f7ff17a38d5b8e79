use Rattle.std.proofs.Common.{◌≡◌, take}
use Rattle.display_sheet.specs.Chunks.{joined}
use Rattle.display_sheet.proofs.wraps.Wraps.flat.Given as goal

abbrev pub invariant-loop-chunk : goal.invariant-loop-chunk
invariant-loop-chunk l = l.list.items ≡ joined (take l.chunk-index l.chunk-items)
