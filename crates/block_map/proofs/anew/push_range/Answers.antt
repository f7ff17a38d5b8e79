use Rattle.std.proofs.Common.{arith}
use Rattle.block_map.proofs.Gathered.{grows-done, grows-next, grows-none}
use Rattle.block_map.proofs.anew.push_range.Goals as goal

pub loop-next-init : goal.loop-next-init
loop-next-init c = record { low = omega arith; bound = λ lt. absurd (omega (arith, lt)); grows = λ n le. grows-none n c.args.from c.args.places.now.items }

pub loop-next-preserved : goal.loop-next-preserved
loop-next-preserved c = record {
  low = omega (arith, c.loop-next.invariant.low);
  bound = λ lt. omega (arith, c.loop-next-test.true);
  grows = λ n le. grows-next n c.args.from c.loop-next.next c.args.places.now.items c.loop-next.places.items c.push.new.self.items c.loop-next.invariant.low (omega (arith, c.loop-next-test.true, le)) c.in_ok-push.ensures.items
      (c.loop-next.invariant.grows n le);
}

pub returns : goal.returns
returns c = λ n le. grows-done n c.args.from c.args.to c.loop-next.next c.args.places.now.items c.loop-next.places.items c.loop-next.invariant.bound c.loop-next-test.false (c.loop-next.invariant.grows n le)
