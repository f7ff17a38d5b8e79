use Rattle.std.proofs.Common.{◌<◌, length, sym, arith}
use Rattle.std.proofs.lemmas.Bool.{lt-ltb}
use Rattle.cell_units.specs.declared.limits.TheConstants.{TEXT_LIMIT}
use Rattle.display_map.specs.Splicing.{spliced_text}
use Rattle.display_map.proofs.Batches.{are_ordered}
use Rattle.display_map.proofs.SplicedLengths.{ordered-next, passed}
use Rattle.display_map.proofs.splicing.is_too_long.Goals as goal

pub loop-splice-init : goal.loop-splice-init
loop-splice-init g c = record {
  told = omega arith;
  short = omega arith;
  ordered = are_ordered (g.S.Sheet.kept c.args.sheet.now).text 0 c.args.splices.now (omega arith) c.requires;
}

pub returns-then-len : goal.returns-then-len
returns-then-len g c =
    let text = (g.S.Sheet.kept c.args.sheet.now).text in
    let splices = c.args.splices.now in
    let l = c.loop-splice in
    let s = c.splice-item.result in
    let step = passed text splices l.from l.splice-index s c.loop-splice-test.true c.splice-item.is l.invariant.ordered in
    let long : TEXT_LIMIT < length (spliced_text text 0 splices) =
    omega (arith, l.invariant.told, step, c.from.ensures, c.in_ok-len.ensures.length, c.if-len.true) in
    sym (lt-ltb TEXT_LIMIT (length (spliced_text text 0 splices)) long)

pub loop-splice-preserved : goal.loop-splice-preserved
loop-splice-preserved g c =
    let text = (g.S.Sheet.kept c.args.sheet.now).text in
    let splices = c.args.splices.now in
    let l = c.loop-splice in
    let s = c.splice-item.result in
    let step = passed text splices l.from l.splice-index s c.loop-splice-test.true c.splice-item.is l.invariant.ordered in
    record {
      told = omega (arith, l.invariant.told, step, c.from.ensures, c.in_ok-len.ensures.length);
      short = omega (arith, c.if-len.false);
      ordered = ordered-next text splices l.from l.splice-index s c.loop-splice-test.true c.splice-item.is l.invariant.ordered;
    }
