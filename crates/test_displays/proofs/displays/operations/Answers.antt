-- An entry is at most one operation.
use Rattle.std.proofs.Common.{◌≤◌, length, sym, subst, arith}
use Rattle.display_sheet.specs.declared.change.Change.{Change}
use Rattle.display_sheet.specs.Changes.{ops_of}
use Rattle.display_map.proofs.DidEvents.{batch-le-length}
use Rattle.test_displays.proofs.displays.operations.Goals as goal

pub returns-in-Edit : goal.returns-in-Edit
returns-in-Edit c =
    subst (λ (change : Change). length (ops_of change) ≤ c.len.result) (sym c.in-Edit.is)
    (omega (arith, batch-le-length c.in-Edit.splices.items, c.len.ensures))
