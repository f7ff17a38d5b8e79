use Rattle.std.proofs.Common.{arith, ap, sym, ◌∙◌, map, reverse}
use Rattle.cell_units.specs.Record.{inlay_le}
use Rattle.plain_rows.specs.Plain.{inlay_of}
use Rattle.display_sheet.proofs.Entries.{put-behind, put-first}
use Rattle.display_sheet.proofs.inlays.put_in.Goals as goal
use Rattle.display_sheet.proofs.inlays.put_in.Goals.{then-loop-at-test+else-not-is_before, else-loop-at-test}

pub returns : goal.returns
returns c =
    ap (λ l. map inlay_of (reverse l)) c.in_ok-insert.ensures.items
    ∙ elim c.loop-at-test.branch [
      | then-loop-at-test+else-not-is_before w ↦ put-behind inlay_of inlay_le c.args.falling.now.items c.args.inlay w.index.result.now c.loop-at.at w.loop-at-test.true w.index.ensures (sym w.if-not-is_before.ensures) c.loop-at.invariant
      | else-loop-at-test w ↦ put-first inlay_of inlay_le c.args.falling.now.items c.args.inlay c.loop-at.at (omega arith) c.loop-at.invariant
    ]
