use Rattle.std.proofs.Common.{arith, sym}
use Rattle.plain_rows.specs.Plain.{inlay_of}
use Rattle.display_sheet.proofs.Entries.{copied-more}
use Rattle.display_sheet.proofs.inlays.push_copies.Goals as goal

pub loop-inlay-preserved : goal.loop-inlay-preserved
loop-inlay-preserved c =
    copied-more inlay_of c.args.copies.now.items c.args.inlays.now c.loop-inlay.copies.items c.push.new.self.items c.loop-inlay.inlay-index c.inlay-item.result c.in_ok-copied.field-0
    (omega arith) (sym c.inlay-item.is) c.in_ok-copied.ensures c.loop-inlay.invariant c.in_ok-push.ensures.items
