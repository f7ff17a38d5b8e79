use Rattle.std.proofs.Common.{◌≡◌, map, reverse, drop}
use Rattle.cell_units.specs.Record.{inlay_le}
use Rattle.cell_units.specs.Sorting.{sort_by}
use Rattle.cell_units.specs.Operation.{move_inlay}
use Rattle.plain_rows.specs.Plain.{inlay_of}
use Rattle.display_sheet.proofs.inlays.moved.Given as goal

abbrev pub invariant-loop-i : goal.invariant-loop-i
invariant-loop-i l =
    map inlay_of (reverse l.moved.items) ≡ sort_by inlay_le (map (λ z. move_inlay l.shift.start l.shift.end l.shift.count (inlay_of z)) (drop l.i l.inlays))
