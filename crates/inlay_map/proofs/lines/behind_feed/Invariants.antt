use Rattle.std.proofs.Common.{◌≡◌, ◌+◌, ◌<◌, count_by, take}
use Rattle.cell_units.specs.Text.{is_feed}
use Rattle.inlay_map.proofs.lines.behind_feed.Given as goal

abbrev pub invariant-loop-at : goal.invariant-loop-at
invariant-loop-at l = (0 < l.left) × (l.left + count_by is_feed (take l.at l.byte-items) ≡ l.fn.feeds)
