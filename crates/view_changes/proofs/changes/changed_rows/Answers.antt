use Rattle.std.proofs.Common.{arith}
use Rattle.display_map.specs.Replay.{present_of}
use Rattle.view_changes.proofs.Histories.{led-nothing}
use Rattle.view_changes.proofs.Lengths.{length-looks}
use Rattle.view_changes.proofs.changes.changed_rows.Goals as goal

pub changed_since-requires-clause-since : goal.changed_since-requires-clause-since
changed_since-requires-clause-since c =
    let now = present_of c.args.before.now in
    led-nothing now (omega (arith, length-looks now c.lawful.ensures.lawful, c.row_count-rows.ensures, c.row_count-rows.type_inv))
