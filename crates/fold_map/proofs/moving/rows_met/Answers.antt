use Rattle.std.proofs.Common.{ap, arith}
use Rattle.cell_units.specs.declared.place.Point.{Point}
use Rattle.cell_units.proofs.Sources.{row-lt}
use Rattle.fold_map.proofs.moving.rows_met.Goals as goal

pub rows_of-rows-requires-after_bounds : goal.rows_of-rows-requires-after_bounds
rows_of-rows-requires-after_bounds g c κs h =
    omega (arith, row-lt (g.L.Layer.source c.args.layer.now) c.buffer_len-len.ensures.well_formed c.args.start, ap (λ (p : Point). p.row) c.point-first.ensures)

pub rows_of-requires-after_bounds : goal.rows_of-requires-after_bounds
rows_of-requires-after_bounds g c κs h =
    omega (arith, row-lt (g.L.Layer.source c.args.layer.now) c.buffer_len-len.ensures.well_formed c.args.end, ap (λ (p : Point). p.row) c.point-last.ensures)
