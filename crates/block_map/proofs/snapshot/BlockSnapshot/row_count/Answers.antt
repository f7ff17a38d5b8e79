use Rattle.std.proofs.Common.{ap, arith}
use Rattle.block_map.specs.Between.{Between}
use Rattle.block_map.specs.Stops.{all_stop_rows}
use Rattle.block_map.proofs.RowsInZones.{all-counted}
use Rattle.block_map.proofs.snapshot.BlockSnapshot.row_count.Goals as goal

pub returns : goal.returns
returns g c =
    omega (arith, all-counted c.args.self.now c.text_rows.ensures.lawful, c.text_rows.ensures.count, c.all_rows.ensures, c.all_rows-2.ensures, ap (λ (b : Between). all_stop_rows b.above) c.self.view_is, ap (λ (b : Between). all_stop_rows b.below) c.self.view_is)
