use Rattle.std.proofs.Common.{arith}
use Rattle.std.proofs.lemmas.List.{length_push}
use Rattle.block_map.proofs.ShownTexts.{push-kind}
use Rattle.block_map.proofs.walking.push_texts.Goals as goal

pub loop-text-preserved : goal.loop-text-preserved
loop-text-preserved c = record {
  next = tt;
  finite = tt;
  row = omega (arith, c.loop-text.invariant.row, length_push c.loop-text.yielded c.in-Some.text);
  rows = push-kind c.args.shown.now.items c.loop-text.shown.items c.push.new.self.items (record { kind = c.kind_of.result; text = c.in-Some.text }) c.args.first c.loop-text.row c.loop-text.yielded c.in_ok-push.ensures.items c.loop-text.invariant.row c.kind_of.ensures c.loop-text.invariant.rows;
}
