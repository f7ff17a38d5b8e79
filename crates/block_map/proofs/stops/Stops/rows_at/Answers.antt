use Rattle.std.proofs.Common.{arith}
use Rattle.block_map.proofs.ZoneStarts.{upto-through}
use Rattle.block_map.proofs.stops.Stops.rows_at.Goals as goal

pub overflow_sub-result : goal.overflow_sub-result
overflow_sub-result c = omega (arith, c.rows_upto.ensures.rows, c.requires, upto-through c.args.row c.args.self.now)

pub returns-clause-count : goal.returns-clause-count
returns-clause-count c = omega (arith, c.rows_upto.ensures.rows, c.requires, upto-through c.args.row c.args.self.now)
