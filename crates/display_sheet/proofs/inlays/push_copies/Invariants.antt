use Rattle.std.proofs.Common.{◌≡◌, ◌++◌, map, take}
use Rattle.plain_rows.specs.Plain.{inlay_of}
use Rattle.display_sheet.proofs.inlays.push_copies.Given as goal

abbrev pub invariant-loop-inlay : goal.invariant-loop-inlay
invariant-loop-inlay l = map inlay_of l.copies.items ≡ map inlay_of l.initial.copies.items ++ map inlay_of (take l.inlay-index l.inlays)
