use Rattle.std.proofs.Common.{arith}
use Rattle.plain_rows.specs.Rows.{rows_of}
use Rattle.display_sheet.proofs.Windows.{last-row}
use Rattle.display_sheet.proofs.sheet.Sheet.row.Goals as goal

pub returns : goal.returns
returns c =
    last-row c.in_ok-rows.rows.items c.pop.new.self.items c.pop.result (rows_of c.args.self.now) c.args.row c.pop.ensures.items (λ lt. c.pop.ensures.variant.1 (omega (arith, lt))) c.in_ok-rows.ensures
