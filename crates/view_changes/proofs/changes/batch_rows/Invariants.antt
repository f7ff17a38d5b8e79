-- The splices from a number on are done, and their rows are covered.
use Rattle.std.proofs.Common.{◌≡◌, ◌≤◌, drop}
use Rattle.display_sheet.specs.Shown.{unstamped}
use Rattle.display_map.specs.Replay.{replayed, state_of}
use Rattle.display_map.specs.Splicing.{did_events}
use Rattle.view_changes.specs.Events.{covered}
use Rattle.view_changes.proofs.changes.batch_rows.Given as goal

abbrev pub invariant-splices : goal.invariant-splices
invariant-splices l = record {
  state : l.now ≡ unstamped (replayed (state_of l.before) (did_events (drop l.i l.splices))).present;
  covers : l.rows ≡ covered l.fn.since (did_events (drop l.i l.splices)) (state_of l.before);
  counted : l.fn.steps ≤ l.steps;
}
