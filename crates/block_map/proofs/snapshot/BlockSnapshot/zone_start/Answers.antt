use Rattle.std.proofs.Common.{◌∙◌, ℕ, ap, arith}
use Rattle.cell_units.specs.declared.place.Bias.TheVariants.{Left, Right}
use Rattle.block_map.specs.Between.{Between}
use Rattle.block_map.specs.Stops.{rows_upto}
use Rattle.block_map.proofs.RowsInZones.{sums-fit}
use Rattle.block_map.proofs.snapshot.BlockSnapshot.zone_start.Goals as goal

pub overflow_add-blocks : goal.overflow_add-blocks
overflow_add-blocks g c =
    let t = c.args.text_row in
    omega (
      arith,
      sums-fit c.args.self.now c.text_rows-count.ensures.lawful Left Right t c.requires,
      ap (λ (b : Between). rows_upto Left t b.above) c.self.view_is,
      ap (λ (b : Between). rows_upto Right t b.below) c.self.view_is,
      c.look-above.ensures.rows,
      c.look-below.ensures.rows,
    )

pub overflow_add-result : goal.overflow_add-result
overflow_add-result g c =
    let t = c.args.text_row in
    omega (
      arith,
      sums-fit c.args.self.now c.text_rows-count.ensures.lawful Left Right t c.requires,
      ap (λ (b : Between). rows_upto Left t b.above) c.self.view_is,
      ap (λ (b : Between). rows_upto Right t b.below) c.self.view_is,
      c.look-above.ensures.rows,
      c.look-below.ensures.rows,
    )

pub returns-clause-start : goal.returns-clause-start
returns-clause-start g c =
    let t = c.args.text_row in
    let above = λ (u : ℕ). ap (λ (b : Between). rows_upto Left u b.above) c.self.view_is in
    let below = λ (u : ℕ). ap (λ (b : Between). rows_upto Right u b.below) c.self.view_is in
    record {
      row = omega (arith, above t, below t, c.look-above.ensures.rows, c.look-below.ensures.rows);
      blocks = omega (arith, above t, below t, c.look-above.ensures.rows, c.look-below.ensures.rows);
      above = c.look-above.ensures.rows ∙ above t;
      same_blocks = λ u low high.
          omega (
            arith,
            above u,
            below u,
            c.look-above.ensures.same u (omega (arith, low, c.max.ensures)) (omega (arith, high, c.min.ensures)),
            c.look-below.ensures.same u (omega (arith, low, c.max.ensures)) (omega (arith, high, c.min.ensures)),
          );
      same_above = λ u low high.
          omega (arith, above u, c.look-above.ensures.same u (omega (arith, low, c.max.ensures)) (omega (arith, high, c.min.ensures)));
    }
