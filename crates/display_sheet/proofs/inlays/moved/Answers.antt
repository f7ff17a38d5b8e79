use Rattle.std.proofs.Common.{arith}
use Rattle.cell_units.specs.Record.{inlay_le}
use Rattle.cell_units.specs.Operation.{move_inlay}
use Rattle.plain_rows.specs.Plain.{inlay_of}
use Rattle.display_sheet.proofs.Entries.{moved-all, sorted-down}
use Rattle.display_sheet.proofs.inlays.moved.Goals as goal

pub returns : goal.returns
returns c =
    moved-all inlay_of inlay_le (move_inlay c.args.shift.start c.args.shift.end c.args.shift.count) c.args.inlays.now c.loop-i.moved.items c.reverse.new.self.items c.loop-i.i (omega arith) c.reverse.ensures.items c.loop-i.invariant

pub loop-i-preserved : goal.loop-i-preserved
loop-i-preserved c =
    sorted-down inlay_of inlay_le (λ z. move_inlay c.args.shift.start c.args.shift.end c.args.shift.count (inlay_of z)) c.args.inlays.now c.loop-i.i c.loop-i.moved.items c.put_in.new.falling.items c.in_ok-moved_one.field-0 c.index-inlays-i.result
    (omega arith) (omega arith) c.index-inlays-i.is c.in_ok-moved_one.ensures c.loop-i.invariant c.in_ok-put_in.ensures
