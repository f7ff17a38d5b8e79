use Rattle.std.proofs.Common.{◌≡◌, ◌==◌, not, map, take}
use Rattle.std.specs.List.{filter}
use Rattle.plain_rows.specs.Plain.{block_of}
use Rattle.display_sheet.proofs.blocks.removed.Given as goal

abbrev pub invariant-loop-block : goal.invariant-loop-block
invariant-loop-block l = map block_of l.left.items ≡ filter (λ k. not (k.id == l.id)) (map block_of (take l.block-index l.blocks))
