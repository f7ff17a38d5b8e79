use Rattle.std.proofs.Common.{refl, arith}
use Rattle.display_map.proofs.OutRuns.{stand-end}
use Rattle.display_map.proofs.outs.push_lines.Goals as goal

pub loop-i-init : goal.loop-i-init
loop-i-init c = refl

pub returns : goal.returns
returns c = stand-end c.loop-i.lines.items c.args.lines.now.items c.args.places.now c.loop-i.i (omega (arith, c.loop-i-test.false)) c.loop-i.invariant
