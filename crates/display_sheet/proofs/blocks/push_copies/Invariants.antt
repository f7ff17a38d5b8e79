use Rattle.std.proofs.Common.{◌≡◌, ◌++◌, map, take}
use Rattle.plain_rows.specs.Plain.{block_of}
use Rattle.display_sheet.proofs.blocks.push_copies.Given as goal

abbrev pub invariant-loop-block : goal.invariant-loop-block
invariant-loop-block l = map block_of l.copies.items ≡ map block_of l.initial.copies.items ++ map block_of (take l.block-index l.blocks)
