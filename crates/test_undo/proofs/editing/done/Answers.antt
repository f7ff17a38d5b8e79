use Rattle.std.proofs.Common.{arith}
use Rattle.display_map.proofs.DidEvents.{batch-le-length}
use Rattle.test_undo.proofs.editing.done.Goals as goal

pub apply-requires : goal.apply-requires
apply-requires g c = omega (arith, batch-le-length c.args.batch.items, c.room.ensures, c.len.ensures)
