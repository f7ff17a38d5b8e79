use Rattle.std.proofs.Common.{◌≡◌, min, take}
use Rattle.std.specs.List.{count_by}
use Rattle.cell_units.specs.Text.{is_feed}
use Rattle.test_support.proofs.lists.row_at.Given as goal

abbrev pub invariant-loop-byte : goal.invariant-loop-byte
invariant-loop-byte l = l.row ≡ min (count_by is_feed (take l.byte-index l.byte-items)) 4294967295
