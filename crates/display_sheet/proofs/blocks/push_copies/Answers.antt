use Rattle.std.proofs.Common.{arith, sym}
use Rattle.plain_rows.specs.Plain.{block_of}
use Rattle.display_sheet.proofs.Entries.{copied-more}
use Rattle.display_sheet.proofs.blocks.push_copies.Goals as goal

pub loop-block-preserved : goal.loop-block-preserved
loop-block-preserved c =
    copied-more block_of c.args.copies.now.items c.args.blocks.now c.loop-block.copies.items c.push.new.self.items c.loop-block.block-index c.block-item.result c.in_ok-copied.field-0
    (omega arith) (sym c.block-item.is) c.in_ok-copied.ensures c.loop-block.invariant c.in_ok-push.ensures.items
