use Rattle.std.proofs.Common.{◌≡◌, map, reverse, drop}
use Rattle.cell_units.specs.Record.{block_le}
use Rattle.cell_units.specs.Sorting.{sort_by}
use Rattle.cell_units.specs.Operation.{move_block}
use Rattle.plain_rows.specs.Plain.{block_of}
use Rattle.display_sheet.proofs.blocks.moved.Given as goal

abbrev pub invariant-loop-i : goal.invariant-loop-i
invariant-loop-i l =
    map block_of (reverse l.moved.items) ≡ sort_by block_le (map (λ z. move_block l.shift.start l.shift.end l.shift.count (block_of z)) (drop l.i l.blocks))
