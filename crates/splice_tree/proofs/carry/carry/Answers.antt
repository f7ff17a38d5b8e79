use Rattle.std.proofs.Common.{arith, sym}
use Rattle.splice_tree.proofs.Carrying.{end}
use Rattle.splice_tree.proofs.carry.carry.Goals as goal

pub returns-then-rest-gap-2-clause-place : goal.returns-then-rest-gap-2-clause-place
returns-then-rest-gap-2-clause-place c ss r =
    sym (end c.args.bias (record { gap = c.args.gap; old = c.args.old; new = c.args.new }) ss c.args.rest r (omega arith) (omega arith))
