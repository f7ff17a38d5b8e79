use Rattle.std.proofs.Common.{◌≡◌, ◌+◌, ◌≤◌, drop, length}
use Rattle.cell_units.specs.Text.{without_returns_before_feeds}
use Rattle.undo_line.proofs.inverting.clean_len.Given as goal

abbrev pub invariant-loop-i : goal.invariant-loop-i
invariant-loop-i l = record {
  told : l.len + length (without_returns_before_feeds (drop l.i l.bytes)) ≡ length (without_returns_before_feeds l.bytes);
  short : l.len ≤ l.i;
}
