use Rattle.std.proofs.Common.{◌∙◌, ap, length, arith}
use Rattle.cell_units.specs.Folded.{folded}
use Rattle.cell_units.specs.Layers.{Source}
use Rattle.cell_units.specs.Text.{row_of}
use Rattle.std.specs.List.{slice_get}
use Rattle.inlay_map.proofs.SourceLayers.{span-at, start-within}
use Rattle.inlay_map.proofs.layer.InlaySnapshotLayer.span.Goals as goal

pub row-row-requires : goal.row-row-requires
row-row-requires c =
    let v = c.args.self.now in
    let e = c.text_len-len.ensures.lawful in
    let le = start-within v e.folds e.inlays e.text c.args.line c.requires in
    omega (
      arith,
      c.offset_at-offset.ensures.offset.within (omega (arith, le, c.row_start-start.ensures.start)),
      ap (λ (s : Source). length s.text) c.self.view_is,
    )

pub returns : goal.returns
returns c =
    let v = c.args.self.now in
    let e = c.text_len-len.ensures.lawful in
    let row = c.row-row.ensures.row ∙ ap (λ (s : Source). row_of s.text c.offset_at-offset.result) c.self.view_is in
    (λ i. (row i, row i))
    ∙ span-at v e.folds e.inlays e.text c.args.line c.offset_at-offset.result c.requires
    (λ t at. c.offset_at-offset.ensures.offset.token t (ap (slice_get (folded v.text v.inlays v.folds)) c.row_start-start.ensures.start ∙ at))
