-- How many operations a batch has.
use Rattle.std.proofs.Common.{◌≤◌, List, length}
use Rattle.display_sheet.specs.declared.change.Splice.{Splice}
use Rattle.display_sheet.specs.Changes.{batch}
use Rattle.display_map.proofs.DidEvents.{batch-le-length}

pub batch_few : (splices : List Splice) → length (batch splices) ≤ length splices
batch_few = batch-le-length
