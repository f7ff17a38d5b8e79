use Rattle.std.proofs.Common.{arith}
use Rattle.cell_units.specs.Record.{block_le}
use Rattle.cell_units.specs.Operation.{move_block}
use Rattle.plain_rows.specs.Plain.{block_of}
use Rattle.display_sheet.proofs.Entries.{moved-all, sorted-down}
use Rattle.display_sheet.proofs.blocks.moved.Goals as goal

pub returns : goal.returns
returns c =
    moved-all block_of block_le (move_block c.args.shift.start c.args.shift.end c.args.shift.count) c.args.blocks.now c.loop-i.moved.items c.reverse.new.self.items c.loop-i.i (omega arith) c.reverse.ensures.items c.loop-i.invariant

pub loop-i-preserved : goal.loop-i-preserved
loop-i-preserved c =
    sorted-down block_of block_le (λ z. move_block c.args.shift.start c.args.shift.end c.args.shift.count (block_of z)) c.args.blocks.now c.loop-i.i c.loop-i.moved.items c.put_in.new.falling.items c.in_ok-moved_one.field-0 c.index-blocks-i.result
    (omega arith) (omega arith) c.index-blocks-i.is c.in_ok-moved_one.ensures c.loop-i.invariant c.in_ok-put_in.ensures
