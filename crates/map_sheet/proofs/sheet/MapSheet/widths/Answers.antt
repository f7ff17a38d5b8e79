use Rattle.std.proofs.Common.{◌<◌, sym, subst, ◌∙◌, ap, length, arith}
use Rattle.kept_sheet.specs.Kept.{widths_of}
use Rattle.map_sheet.proofs.Listing.{pushed-plain}
use Rattle.map_sheet.proofs.Readings.{line-there, lines-long, width-there}
use Rattle.map_sheet.proofs.Sent.{sheet_sent}
use Rattle.map_sheet.proofs.sheet.MapSheet.widths.Goals as goal

pub mark-requires-after_bounds : goal.mark-requires-after_bounds
mark-requires-after_bounds c κs =
    let r = c.args.self.now in
    let lt : c.loop-line.line < length r.marks =
    omega (arith, c.loop-line-test.true, c.lines-count.ensures, ap length c.lines.ensures, lines-long r c.lawful.ensures.lawful c.lawful.ensures.short c.wrapped.result.now c.wrapped.ensures) in
    subst (λ s. c.loop-line.line < length s.lines) (sym c.rows.ensures)
    (line-there r c.lawful.ensures.lawful c.lawful.ensures.short c.wrapped-in-loop-line.result.now c.wrapped-in-loop-line.ensures c.loop-line.line lt)

pub loop-line-preserved : goal.loop-line-preserved
loop-line-preserved c =
    let r = c.args.self.now in
    let lt : c.loop-line.line < length r.marks =
    omega (arith, c.loop-line-test.true, c.lines-count.ensures, ap length c.lines.ensures, lines-long r c.lawful.ensures.lawful c.lawful.ensures.short c.wrapped.result.now c.wrapped.ensures) in
    record {
      listed =
          c.in_ok-push.ensures.items
          ∙ pushed-plain c.loop-line.widths.items (widths_of r) c.mark.result c.loop-line.line c.loop-line.invariant.listed
          (width-there r c.wrapped-in-loop-line.result.now c.wrapped-in-loop-line.ensures c.rows.result.now c.rows.ensures c.loop-line.line lt c.mark.result c.mark.ensures.mark);
      counted = omega (arith, c.loop-line.invariant.counted, c.mark.ensures.counted);
    }

pub lines-requires-send-L : goal.lines-requires-send-L
lines-requires-send-L c κs = search sheet_sent depth 12 fits 4000

pub lines-requires-sync-L : goal.lines-requires-sync-L
lines-requires-sync-L c κs = search sheet_sent depth 12 fits 4000

pub rows-requires-send-L : goal.rows-requires-send-L
rows-requires-send-L c κs = search sheet_sent depth 12 fits 4000

pub rows-requires-sync-L : goal.rows-requires-sync-L
rows-requires-sync-L c κs = search sheet_sent depth 12 fits 4000

pub mark-requires-send-N : goal.mark-requires-send-N
mark-requires-send-N c κs = search sheet_sent depth 12 fits 4000

pub mark-requires-sync-N : goal.mark-requires-sync-N
mark-requires-sync-N c κs = search sheet_sent depth 12 fits 4000
