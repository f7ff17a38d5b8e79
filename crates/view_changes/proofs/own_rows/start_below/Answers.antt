use Rattle.std.proofs.Common.{arith}
use Rattle.view_changes.proofs.Lengths.{text-fits}
use Rattle.view_changes.proofs.own_rows.start_below.Goals as goal

pub overflow_add-result : goal.overflow_add-result
overflow_add-result c =
    omega (
      arith,
      text-fits c.args.sheet.now c.lawful.ensures.lawful c.args.line c.requires,
      c.first_row.ensures.rows,
      c.text_rows.ensures,
      c.row_count-rows.ensures,
      c.row_count-rows.type_inv,
    )
