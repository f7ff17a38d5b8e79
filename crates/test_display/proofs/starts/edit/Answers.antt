use Rattle.std.proofs.Common.{arith}
use Rattle.test_display.proofs.Batches.{batch_few}
use Rattle.test_display.proofs.starts.edit.Goals as goal

pub apply-requires : goal.apply-requires
apply-requires g c = omega (arith, batch_few c.args.splices.items, c.room.ensures, c.len.ensures)
