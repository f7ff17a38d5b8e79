use Rattle.std.proofs.Common.{arith}
use Rattle.plain_rows.proofs.SpotSearches.{first_rows-rise, some-line}
use Rattle.plain_rows.proofs.SpotShown.{rows-are}
use Rattle.plain_rows.proofs.SpotSizes.{few-lines}
use Rattle.plain_rows.proofs.spots.laid_rows.LaidRowsSpotRows.line_of_row.Goals as goal

pub line_of_row-requires-clause-rising : goal.line_of_row-requires-clause-rising
line_of_row-requires-clause-rising c =
    let r = c.args.self.now in
    let are = rows-are c.self.inside r c.self.view_is c.self.invariant in
    first_rows-rise r are.lawful are.size c.self.inside.first_rows.now are.first_rows

pub line_of_row-requires-clause-some : goal.line_of_row-requires-clause-some
line_of_row-requires-clause-some c =
    let r = c.args.self.now in
    let are = rows-are c.self.inside r c.self.view_is c.self.invariant in
    omega (arith, are.first_rows.count, some-line r are.lawful are.size)

pub overflow_cast-result : goal.overflow_cast-result
overflow_cast-result c =
    let r = c.args.self.now in
    let are = rows-are c.self.inside r c.self.view_is c.self.invariant in
    omega (arith, c.line_of_row.ensures.within, are.first_rows.count, few-lines r are.lawful are.size)

pub returns-clause-line : goal.returns-clause-line
returns-clause-line c =
    let r = c.args.self.now in
    let are = rows-are c.self.inside r c.self.view_is c.self.invariant in
    let found = c.line_of_row.ensures in
    record {
      within = omega (arith, found.within, are.first_rows.count);
      begins = λ some. omega (arith, found.begins some, are.first_rows.each c.line_of_row.result (omega (arith, found.within, are.first_rows.count)));
      ends = λ other past lt. omega (arith, found.ends other past (omega (arith, lt, are.first_rows.count)), are.first_rows.each other lt);
    }
