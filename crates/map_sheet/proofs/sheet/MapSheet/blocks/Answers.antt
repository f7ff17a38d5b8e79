use Rattle.std.proofs.Common.{◌-◌, ◌+◌, List, map, sym, subst, arith}
use Rattle.plain_rows.specs.declared.plain.PlainBlock.{PlainBlock}
use Rattle.plain_rows.specs.Plain.{block_of}
use Rattle.blocked_rows.specs.Records.{row_texts}
use Rattle.map_sheet.specs.Listed.{AreListed}
use Rattle.map_sheet.proofs.ListedBlocks.{all-listed, as-many, none-listed, put-behind}
use Rattle.map_sheet.proofs.Sent.{sheet_sent}
use Rattle.map_sheet.proofs.sheet.MapSheet.blocks.Goals as goal

pub loop-listed-init : goal.loop-listed-init
loop-listed-init c = record {
  listed =
      subst (λ (items : List PlainBlock). AreListed c.args.self.now 0 0 (map block_of items)) (sym c.new-blocks.ensures.items)
      (none-listed c.args.self.now c.lawful.ensures.lawful.entries);
  some = omega arith;
  counted = omega arith;
}

pub returns-clause-blocks : goal.returns-clause-blocks
returns-clause-blocks c =
    let count = as-many c.blocked_laws.ensures.many c.args.self.now c.blocked.result.now c.blocked.ensures in
    all-listed c.args.self.now c.lawful.ensures.lawful.entries c.loop-listed.above (c.loop-listed.listed - c.loop-listed.above) (map block_of c.loop-listed.blocks.items) c.loop-listed.invariant.listed
    c.blocked_laws.ensures.many (row_texts c.args.self.now)
    (omega (arith, count, c.len-listed-end.ensures, c.loop-listed-test.false, c.loop-listed.invariant.some))

pub loop-listed-preserved : goal.loop-listed-preserved
loop-listed-preserved c =
    let next = c.in_ok-next.next in
    record {
      listed =
          put-behind c.args.self.now next.1 (c.loop-listed.above + (c.loop-listed.listed - c.loop-listed.above) + 1 - next.1) (c.loop-listed.listed + 1 - next.1)
          c.loop-listed.blocks.items _ next.0 (omega (arith, c.loop-listed.invariant.some)) c.in_ok-push.ensures.items
          (c.in_ok-next.ensures.next (map block_of c.loop-listed.blocks.items) c.loop-listed.invariant.listed);
      some = omega (arith, c.in_ok-next.ensures.above, c.loop-listed.invariant.some);
      counted = omega (arith, c.in_ok-next.ensures.counted, c.loop-listed.invariant.counted);
    }

pub len-listed-end-requires-send-R : goal.len-listed-end-requires-send-R
len-listed-end-requires-send-R c κs = search sheet_sent depth 12 fits 4000

pub len-listed-end-requires-sync-R : goal.len-listed-end-requires-sync-R
len-listed-end-requires-sync-R c κs = search sheet_sent depth 12 fits 4000
