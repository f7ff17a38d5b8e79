use Rattle.std.proofs.Common.{map, ap, sym, ◌∙◌, arith}
use Rattle.cell_units.specs.Layers.{Source}
use Rattle.plain_rows.specs.declared.plain.PlainFold.{PlainFold}
use Rattle.plain_rows.specs.Plain.{fold_of}
use Rattle.map_sheet.proofs.Listing.{all-pushed, none-past, pushed}
use Rattle.map_sheet.proofs.Sent.{sheet_sent}
use Rattle.map_sheet.proofs.sheet.MapSheet.folds.Goals as goal

pub loop-at-preserved : goal.loop-at-preserved
loop-at-preserved c =
    let put : PlainFold = record { id = c.in-Some.range.id; start = c.in-Some.range.start; end = c.in-Some.range.end } in
    record {
      listed =
          ap (map fold_of) c.in_ok-push.ensures.items
          ∙ pushed fold_of c.loop-at.folds.items put c.layer-layer.result.now.folds c.loop-at.at c.loop-at.invariant.listed (sym c.in-Some.ensures.fold);
      counted = omega (arith, c.loop-at.invariant.counted, c.in-Some.ensures.counted);
    }

pub returns-clause-folds : goal.returns-clause-folds
returns-clause-folds c =
    all-pushed (map fold_of c.loop-at.folds.items) c.layer-layer.result.now.folds c.loop-at.at c.loop-at.invariant.listed (omega (arith, c.loop-at-test.false, c.count-at-end.ensures))
    ∙ ap (λ (s : Source). s.folds) (c.layer-layer.ensures ∙ c.text.ensures)

pub unreachable-requires : goal.unreachable-requires
unreachable-requires c =
    let past = none-past c.layer-layer.result.now.folds c.loop-at.at (sym c.in_default.ensures.fold) in
    omega (arith, past, c.loop-at-test.true, c.count-at-end.ensures)

pub count-at-end-requires-send-L : goal.count-at-end-requires-send-L
count-at-end-requires-send-L c κs = search sheet_sent depth 12 fits 4000

pub count-at-end-requires-sync-L : goal.count-at-end-requires-sync-L
count-at-end-requires-sync-L c κs = search sheet_sent depth 12 fits 4000

pub get-requires-send-L : goal.get-requires-send-L
get-requires-send-L c κs = search sheet_sent depth 12 fits 4000

pub get-requires-sync-L : goal.get-requires-sync-L
get-requires-sync-L c κs = search sheet_sent depth 12 fits 4000
