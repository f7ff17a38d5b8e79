use Rattle.std.proofs.Common.{◌≡◌, ◌==◌, not, map, take}
use Rattle.std.specs.List.{filter}
use Rattle.plain_rows.specs.Plain.{inlay_of}
use Rattle.display_sheet.proofs.inlays.removed.Given as goal

abbrev pub invariant-loop-inlay : goal.invariant-loop-inlay
invariant-loop-inlay l = map inlay_of l.left.items ≡ filter (λ i. not (i.id == l.id)) (map inlay_of (take l.inlay-index l.inlays))
