use Rattle.std.proofs.Common.{length, ap, ◌∙◌}
use Rattle.plain_rows.specs.Plain.{marks_of}
use Rattle.wrapped_lines.specs.WrappedSource.{WrappedSource}
use Rattle.map_sheet.proofs.Listing.{plain-record}
use Rattle.map_sheet.proofs.Sent.{sheet_sent}
use Rattle.map_sheet.proofs.sheet.MapSheet.listed.Goals as goal

pub returns-clause-same : goal.returns-clause-same
returns-clause-same c =
    (λ i. record {
      text = c.in_ok-text.ensures.text i;
      inlays = c.in_ok-inlays.ensures.inlays i;
      folds = c.in_ok-folds.ensures.folds i;
      blocks = c.in_ok-blocks.ensures.blocks i;
      tab = (c.tab.ensures ∙ ap (λ (w : WrappedSource). w.tab) c.wrapped.ensures) i;
      width = (c.width.ensures ∙ ap (λ (w : WrappedSource). w.width) c.wrapped-2.ensures) i;
      marks = marks_of (c.in_ok-marks.ensures.widths i);
      next_stamp = length (c.in_ok-marks.ensures.widths i);
    })
    ∙ plain-record c.args.self.now c.lawful.ensures.plain

pub tab-requires-send-L : goal.tab-requires-send-L
tab-requires-send-L c κs = search sheet_sent depth 12 fits 4000

pub tab-requires-sync-L : goal.tab-requires-sync-L
tab-requires-sync-L c κs = search sheet_sent depth 12 fits 4000

pub width-requires-send-L : goal.width-requires-send-L
width-requires-send-L c κs = search sheet_sent depth 12 fits 4000

pub width-requires-sync-L : goal.width-requires-sync-L
width-requires-sync-L c κs = search sheet_sent depth 12 fits 4000
