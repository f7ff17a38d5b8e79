use Rattle.std.proofs.Common.{ap, length, arith}
use Rattle.block_map.specs.Maps.{BlockState}
use Rattle.block_map.proofs.block_map.BlockMap.len.Goals as goal

pub overflow_add-result : goal.overflow_add-result
overflow_add-result g c = omega (arith, c.len.ensures, c.len-2.ensures, c.self.invariant.few)

pub returns : goal.returns
returns g c = omega (arith, c.len.ensures, c.len-2.ensures, ap (λ (s : BlockState). length s.above) c.self.view_is, ap (λ (s : BlockState). length s.below) c.self.view_is)
