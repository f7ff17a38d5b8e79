use Rattle.std.proofs.Common.{arith}
use Rattle.display_map.proofs.DidEvents.{batch-le-length}
use Rattle.test_sheets.proofs.limits.moved.Goals as goal

pub apply-requires : goal.apply-requires
apply-requires g c = omega (arith, batch-le-length c.in_ok-splices.splices.items, c.room.ensures, c.len.ensures)
