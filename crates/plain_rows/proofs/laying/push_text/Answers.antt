use Rattle.std.proofs.Common.{arith}
use Rattle.plain_rows.specs.FoldedLines.{seen}
use Rattle.plain_rows.proofs.LaidParts.{lays-none, lays-on}
use Rattle.plain_rows.proofs.laying.push_text.Goals as goal

pub loop-at-init : goal.loop-at-init
loop-at-init c = record {
  order = omega arith;
  lays = lays-none (seen c.args.source.now) c.args.parts.now.items c.args.from c.requires.reaches;
  span = c.requires.span;
  apart = λ _. c.requires.apart;
}

pub loop-at-preserved : goal.loop-at-preserved
loop-at-preserved c =
    let i = c.loop-at.invariant in
    let next = c.in_ok-at.ensures.span in
    record {
      order = omega (arith, i.order, next.0);
      lays = lays-on (seen c.args.source.now) c.args.parts.now.items c.loop-at.parts.items c.push_line.new.parts.items c.args.from c.loop-at.at c.in_ok-at.at i.order (omega (arith, next.0)) (omega (arith, next.1.order, next.1.ends.0)) i.lays c.in_ok-at.ensures.lays;
      span = next.1;
      apart = c.in_ok-at.ensures.apart;
    }
