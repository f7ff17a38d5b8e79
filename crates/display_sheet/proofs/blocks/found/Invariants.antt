use Rattle.std.proofs.Common.{◌≡◌, ◌==◌, map, drop}
use Rattle.std.specs.List.{find}
use Rattle.plain_rows.specs.Plain.{block_of}
use Rattle.display_sheet.proofs.blocks.found.Given as goal

abbrev pub invariant-loop-block : goal.invariant-loop-block
invariant-loop-block l = find (λ k. k.id == l.id) (map block_of (drop l.block-index l.blocks)) ≡ find (λ k. k.id == l.id) (map block_of l.blocks)
