use Rattle.std.proofs.Common.{◌≡◌, ◌==◌, map, drop}
use Rattle.std.specs.List.{find}
use Rattle.plain_rows.specs.Plain.{inlay_of}
use Rattle.display_sheet.proofs.inlays.found.Given as goal

abbrev pub invariant-loop-inlay : goal.invariant-loop-inlay
invariant-loop-inlay l = find (λ i. i.id == l.id) (map inlay_of (drop l.inlay-index l.inlays)) ≡ find (λ i. i.id == l.id) (map inlay_of l.inlays)
