-- A text, lines and blocks that are those of a record make that record.
use Rattle.std.proofs.Common.{◌≡◌, sym, subst, ◌∙◌}
use Rattle.std.proofs.lemmas.List.{length-map}
use Rattle.cell_units.specs.Layers.{Source}
use Rattle.cell_units.specs.Record.{Mark, Record}
use Rattle.plain_rows.specs.Plain.{marks_of}
use Rattle.kept_sheet.specs.Kept.{widths_of}
use Rattle.block_map.specs.Maps.{BlockState}
use Rattle.wrapped_lines.specs.WrappedSource.{WrappedSource}
use Rattle.blocked_rows.specs.Records.{row_texts}
use Rattle.map_sheet.specs.Kept.{Keeps, record_in}
use Rattle.map_sheet.proofs.Merged.{merged}

module _ (r : Record) (source : Source) (lines : WrappedSource) (blocks : BlockState) (k : Keeps r source lines blocks) where
  pub made : record_in source lines blocks ≡ r
  made =
      (λ i. record_in (k.source_is i) (k.lines_are i) (k.blocks_are i))
      ∙ (λ i. record {
        text = r.text;
        inlays = r.inlays;
        folds = r.folds;
        blocks = merged r (row_texts r) k.lawful.entries i;
        tab = r.tab;
        width = r.width;
        marks = marks_of (widths_of r);
        next_stamp = length-map r.marks (λ (m : Mark). m.width) i;
      })
      ∙ k.plain

  pub keeps : Keeps (record_in source lines blocks) source lines blocks
  keeps = subst (λ (q : Record). Keeps q source lines blocks) (sym made) k

-- parts that are equal keep the same record
pub alike : (r : Record) (s s' : Source) (w w' : WrappedSource) (b b' : BlockState) → s' ≡ s → w' ≡ w → b' ≡ b → Keeps r s w b → Keeps r s' w' b'
alike r s s' w w' b b' source lines blocks k = record {
  lawful = k.lawful;
  short = k.short;
  plain = k.plain;
  source_is = source ∙ k.source_is;
  lines_are = lines ∙ k.lines_are;
  blocks_are = blocks ∙ k.blocks_are;
}
