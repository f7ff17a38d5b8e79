-- The pieces so far, and those that are left.
use Rattle.std.proofs.Common.{◌≡◌, ◌-◌, ◌≤◌, ◌++◌}
use Rattle.cell_units.specs.BufferLines.{line_start}
use Rattle.cell_units.specs.Layers.{shown_text}
use Rattle.cell_units.specs.Pieces.{pieces_of}
use Rattle.cell_units.specs.Text.{IsBoundary}
use Rattle.inlay_map.specs.Spots.{part_of}
use Rattle.inlay_map.proofs.snapshot.InlaySnapshot.line_pieces.Given as goal

abbrev pub invariant-loop-place : goal.invariant-loop-place
invariant-loop-place l =
    record {
      within : l.place ≤ l.end;
      boundary : IsBoundary (shown_text l.self) l.place;
      found : l.pieces.items ++ pieces_of (part_of l.self l.place l.end) ≡ pieces_of (part_of l.self (line_start (shown_text l.self) l.fn.line) l.end);
      counted : l.initial.steps ≤ l.steps;
    }

abbrev pub decreases-loop-place : goal.decreases-loop-place
decreases-loop-place l = l.end - l.place
