use Rattle.std.proofs.Common.{◌≡◌, ◌+◌, ◌≤◌, ℕ, ap, length, arith}
use Rattle.cell_units.specs.declared.place.Bias.TheVariants.{Right}
use Rattle.cell_units.specs.Rows.{all_rows, rows_before}
use Rattle.block_map.specs.Between.{Between}
use Rattle.block_map.specs.Stops.{rows_upto}
use Rattle.block_map.proofs.RowsInZones.{place-is, sums-fit, within-count}
use Rattle.block_map.proofs.snapshot.BlockSnapshot.row_of.Goals as goal

pub overflow_add-text_row : goal.overflow_add-text_row
overflow_add-text_row g c =
    omega (arith, within-count c.args.self.now c.text_rows-count.ensures.lawful c.args.line c.args.row c.requires.line c.requires.row, c.rows_before.ensures, ap (λ (b : Between). rows_before b.lines c.args.line) c.self.view_is, c.text_rows-count.ensures.count, c.text_rows-count.type_inv)

pub overflow_add-result : goal.overflow_add-result
overflow_add-result g c =
    let t = c.rows_before.result + c.args.row in
    let le : t ≤ length (all_rows c.args.self.now.lines) = omega (arith, within-count c.args.self.now c.text_rows-count.ensures.lawful c.args.line c.args.row c.requires.line c.requires.row, c.rows_before.ensures, ap (λ (b : Between). rows_before b.lines c.args.line) c.self.view_is) in
    omega (arith, sums-fit c.args.self.now c.text_rows-count.ensures.lawful Right Right t le, ap (λ (b : Between). rows_upto Right t b.above) c.self.view_is, c.rows_upto-above.ensures.rows)

pub overflow_add-result-2 : goal.overflow_add-result-2
overflow_add-result-2 g c =
    let t = c.rows_before.result + c.args.row in
    let le : t ≤ length (all_rows c.args.self.now.lines) = omega (arith, within-count c.args.self.now c.text_rows-count.ensures.lawful c.args.line c.args.row c.requires.line c.requires.row, c.rows_before.ensures, ap (λ (b : Between). rows_before b.lines c.args.line) c.self.view_is) in
    omega (arith, sums-fit c.args.self.now c.text_rows-count.ensures.lawful Right Right t le, ap (λ (b : Between). rows_upto Right t b.above) c.self.view_is, ap (λ (b : Between). rows_upto Right t b.below) c.self.view_is, c.rows_upto-above.ensures.rows, c.rows_upto-below.ensures.rows)

pub returns-clause-place : goal.returns-clause-place
returns-clause-place g c =
    let t = c.rows_before.result + c.args.row in
    let b = c.args.self.now in
    let u = rows_before b.lines c.args.line + c.args.row in
    let same : t ≡ u = omega (arith, c.rows_before.ensures, ap (λ (b : Between). rows_before b.lines c.args.line) c.self.view_is) in
    omega (
      arith,
      place-is c.args.self.now c.text_rows-count.ensures.lawful c.args.line c.args.row c.requires.line c.requires.row,
      same,
      ap (λ (n : ℕ). rows_upto Right n b.above) same,
      ap (λ (n : ℕ). rows_upto Right n b.below) same,
      ap (λ (b : Between). rows_upto Right t b.above) c.self.view_is,
      ap (λ (b : Between). rows_upto Right t b.below) c.self.view_is,
      c.rows_upto-above.ensures.rows,
      c.rows_upto-below.ensures.rows,
    )
