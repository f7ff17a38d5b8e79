-- The rows are those of the blocks at the line from this number up to the block's.
use Rattle.std.proofs.Common.{◌≡◌, ◌*◌, ◌-◌, ◌≤◌, drop, take}
use Rattle.map_sheet.specs.Listed.{side_blocks}
use Rattle.view_changes.specs.Operations.{at_line, rows_in}
use Rattle.view_changes.proofs.own_rows.rows_ahead.Given as goal

abbrev pub invariant-ahead : goal.invariant-ahead
invariant-ahead l = record {
  rows : l.rows ≡ rows_in (at_line l.sheet l.line (drop l.other (take l.number (side_blocks l.sheet l.side))));
  few : l.rows ≤ 256 * (l.number - l.other);
  counted : l.fn.steps ≤ l.steps;
}
