-- The splices from `i` on are done, and there is room for what the others may put in.
use Rattle.std.proofs.Common.{◌≡◌, ◌+◌, ◌≤◌, drop}
use Rattle.cell_units.specs.declared.limits.TheConstants.{TEXT_LIMIT}
use Rattle.display_sheet.specs.Changes.{batch}
use Rattle.display_session.specs.HostMarks.{marks_moved}
use Rattle.display_session.proofs.MovedMarks.{AreBelow, inserted}
use Rattle.display_session.proofs.host_marks.moved_over.Given as goal

abbrev pub invariant-loop-i : goal.invariant-loop-i
invariant-loop-i l = record {
  moved : l.moved ≡ marks_moved (batch (drop l.i l.splices)) l.marks;
  below : AreBelow l.room l.moved;
  small : l.room ≤ TEXT_LIMIT;
  left : TEXT_LIMIT ≤ l.room + inserted (drop l.i l.splices);
}
