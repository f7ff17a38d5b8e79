use Rattle.std.proofs.Common.{arith, ap, sym, ◌∙◌, map, reverse}
use Rattle.cell_units.specs.Record.{fold_le}
use Rattle.plain_rows.specs.Plain.{fold_of}
use Rattle.display_sheet.proofs.Entries.{put-behind, put-first}
use Rattle.display_sheet.proofs.folds.put_in.Goals as goal
use Rattle.display_sheet.proofs.folds.put_in.Goals.{then-loop-at-test+else-not-is_before, else-loop-at-test}

pub returns : goal.returns
returns c =
    ap (λ l. map fold_of (reverse l)) c.in_ok-insert.ensures.items
    ∙ elim c.loop-at-test.branch [
      | then-loop-at-test+else-not-is_before w ↦ put-behind fold_of fold_le c.args.falling.now.items c.args.fold w.index.result.now c.loop-at.at w.loop-at-test.true w.index.ensures (sym w.if-not-is_before.ensures) c.loop-at.invariant
      | else-loop-at-test w ↦ put-first fold_of fold_le c.args.falling.now.items c.args.fold c.loop-at.at (omega arith) c.loop-at.invariant
    ]
