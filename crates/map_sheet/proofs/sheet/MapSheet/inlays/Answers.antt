use Rattle.std.proofs.Common.{[], map, ap, sym, ◌∙◌, arith}
use Rattle.std.specs.Prelude.{Some}
use Rattle.cell_units.specs.Layers.{Source}
use Rattle.inlay_map.specs.Maps.{inlay_with}
use Rattle.plain_rows.specs.declared.plain.PlainInlay.{PlainInlay}
use Rattle.plain_rows.specs.Plain.{inlay_of}
use Rattle.map_sheet.proofs.Listing.{all-pushed, pushed}
use Rattle.map_sheet.proofs.sheet.MapSheet.inlays.Goals as goal

pub loop-at-preserved : goal.loop-at-preserved
loop-at-preserved c =
    let put : PlainInlay = record { id = c.in-Some.id; offset = c.in-Some.offset; bias = c.in-Some.bias; text = c.in_ok-text.text } in
    record {
      listed =
          ap (map inlay_of) c.in_ok-push.ensures.items
          ∙ pushed inlay_of c.loop-at.inlays.items put c.inlaid-inlaid.result.now.inlays c.loop-at.at c.loop-at.invariant.listed
          (c.in-Some.ensures.inlay ∙ (λ i. Some (inlay_with c.in-Some.id c.in-Some.offset c.in-Some.bias (sym c.in_ok-text.ensures i))));
      counted = omega (arith, c.loop-at.invariant.counted, c.in-Some.ensures.counted);
    }

pub returns-clause-inlays : goal.returns-clause-inlays
returns-clause-inlays c =
    all-pushed (map inlay_of c.loop-at.inlays.items) c.inlaid-inlaid.result.now.inlays c.loop-at.at c.loop-at.invariant.listed (omega (arith, c.loop-at-test.false, c.count-at-end.ensures))
    ∙ ap (λ (s : Source). s.inlays) (c.inlaid-inlaid.ensures ∙ ap (λ (s : Source). record { text = s.text; inlays = s.inlays; folds = [] }) c.text.ensures)
