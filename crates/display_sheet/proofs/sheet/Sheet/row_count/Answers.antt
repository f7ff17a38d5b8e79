use Rattle.std.proofs.Common.{◌≡◌, ◌+◌, ◌<◌, length, refl, ap, ◌∙◌, arith}
use Rattle.std.specs.Arc.{arc_value}
use Rattle.cell_units.specs.Record.{Record}
use Rattle.plain_rows.specs.Rows.{rows_of}
use Rattle.display_sheet.specs.declared.sheet.Sheet.TheInside.{Inside}
use Rattle.display_sheet.specs.RowCounts.{rows_of_blocks}
use Rattle.display_sheet.specs.Sheets.{KeepsSheet, record_in}
use Rattle.display_sheet.specs.Wraps.{rows_of_lines}
use Rattle.display_sheet.proofs.RowTotals.{all-few, row-total}
use Rattle.display_sheet.proofs.sheet.Sheet.row_count.Goals as goal

total : (v : Inside) → KeepsSheet v → length (rows_of (record_in v)) ≡ rows_of_lines (arc_value v.wraps) + rows_of_blocks (arc_value v.blocks).items
total v keeps = row-total (record_in v) (arc_value v.wraps) (arc_value v.lines) keeps refl (arc_value v.blocks).items refl

few : (v : Inside) → KeepsSheet v → rows_of_lines (arc_value v.wraps) + rows_of_blocks (arc_value v.blocks).items < 4294967296
few v keeps = omega (arith, total v keeps, all-few (record_in v) (arc_value v.wraps) (arc_value v.lines) keeps refl)

pub overflow_cast-result : goal.overflow_cast-result
overflow_cast-result c =
    omega (arith, c.rows.ensures, ap rows_of_lines c.deref.ensures, few c.self.inside c.self.invariant)

pub rows_of_blocks-requires : goal.rows_of_blocks-requires
rows_of_blocks-requires c =
    let blocks = ap rows_of_blocks (c.as_slice.ensures.value ∙ ap (λ w. w.items) c.deref-2.ensures) in
    omega (arith, blocks, few c.self.inside c.self.invariant)

pub overflow_add-result : goal.overflow_add-result
overflow_add-result c =
    let blocks = ap rows_of_blocks (c.as_slice.ensures.value ∙ ap (λ w. w.items) c.deref-2.ensures) in
    omega (arith, c.rows.ensures, ap rows_of_lines c.deref.ensures, blocks, c.rows_of_blocks.ensures, few c.self.inside c.self.invariant)

pub returns : goal.returns
returns c =
    let blocks = ap rows_of_blocks (c.as_slice.ensures.value ∙ ap (λ w. w.items) c.deref-2.ensures) in
    omega (
      arith,
      c.rows.ensures,
      ap rows_of_lines c.deref.ensures,
      blocks,
      c.rows_of_blocks.ensures,
      total c.self.inside c.self.invariant,
      ap (λ (r : Record). length (rows_of r)) c.self.view_is,
    )
