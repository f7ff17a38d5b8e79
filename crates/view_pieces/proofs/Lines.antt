-- What is read of a record's lines: where one begins, its pieces and how many rows it has, and the line of a block.
use Rattle.std.proofs.Common.{◌≡◌, ℕ, ◌+◌, ◌<◌, ◌≤◌, cond, List, [], length, sym, ap, ◌∙◌, arith}
use Rattle.std.specs.List.{All}
use Rattle.std.specs.Prelude.{Some, slice_get}
use Rattle.std.proofs.lemmas.List.{get_or-map, length-map}
use Rattle.cell_units.specs.declared.limits.TheConstants.{LAID_LIMIT}
use Rattle.cell_units.specs.declared.piece.Piece.{Piece}
use Rattle.cell_units.specs.declared.place.Bias.TheVariants.{Left, Right}
use Rattle.cell_units.specs.declared.place.Side.TheVariants.{Above, Below}
use Rattle.cell_units.specs.Folded.{line_of}
use Rattle.cell_units.specs.Layers.{Source, shown_lines}
use Rattle.cell_units.specs.Lawful.{IsLawful, source_of}
use Rattle.cell_units.specs.Record.{Block, Mark, Record, plain_mark}
use Rattle.cell_units.specs.Rows.{line_rows}
use Rattle.cell_units.specs.Text.{row_end, row_start}
use Rattle.cell_line.specs.declared.element.Element.{Element}
use Rattle.cell_line.specs.Elements.{bytes_in}
use Rattle.cell_line.specs.RowTexts.{row_texts_of}
use Rattle.cell_line.specs.Wrapping.{cuts_of}
use Rattle.cell_line.proofs.RowTexts.{length-row_texts_of}
use Rattle.plain_rows.specs.Rows.{is_above, line_elements, line_of_block, rows_by_line}
use Rattle.plain_rows.specs.Spots.{elements_at, mark_at}
use Rattle.plain_rows.proofs.LawfulSources.{lawful_source}
use Rattle.plain_rows.proofs.LineSizes.{pieces-size, read-some}
use Rattle.plain_rows.proofs.RowsOfLines.{elements-at, lines-marked}
use Rattle.plain_rows.proofs.SpotSizes.{length-elements}
use Rattle.kept_sheet.specs.Kept.{widths_of}
use Rattle.block_map.specs.Between as between
use Rattle.block_map.specs.Between.{Between, rows_to}
use Rattle.blocked_rows.specs.Laws.{ShowsLines}
use Rattle.blocked_rows.specs.Records.{row_texts, shown_of}
use Rattle.wrap_map.proofs.Standings.{pair-at, texts}
use Rattle.row_pieces.specs.Laws.{pieces_at}
use Rattle.row_pieces.specs.Pieces.{pieces_by_row}
use Rattle.row_pieces.specs.inside.Lines.{HasOffsets}
use Rattle.row_pieces.proofs.BuiltPieces.{have-offsets}
use Rattle.row_pieces.proofs.Columns.{length-line}

module _ (r : Record) (is : IsLawful r) (short : length r.text ≤ LAID_LIMIT) (line : ℕ) (lt : line < length r.marks) where
  pub shown : line < length (shown_lines (source_of r))
  shown = omega (arith, lt, lines-marked r is.marked)

  -- ---- as many rows as rows of pieces

  texts-are : line_rows (row_texts r) line ≡ row_texts_of (elements_at r line) (mark_at r line).width
  texts-are =
      let few : line < length (line_elements r) = omega (arith, lt, length-elements r is short) in
      pair-at texts (line_elements r) (widths_of r) line [] (omega (arith, length-map r.marks (λ (m : Mark). m.width), length-elements r is short)) few
      ∙ ap (row_texts_of (elements_at r line)) (get_or-map (λ (m : Mark). m.width) r.marks line (plain_mark 0) 0 lt)

  pub count-rows : length (line_rows (row_texts r) line) ≡ length (pieces_by_row (pieces_at r line) r.tab (mark_at r line).width)
  count-rows =
      let width = (mark_at r line).width in
      ap length texts-are
      ∙ length-row_texts_of (elements_at r line) width
      ∙ ap (λ (es : List Element). length (cuts_of es width) + 1) (elements-at r is.marked line lt)
      ∙ sym (length-line (pieces_at r line) r.tab width)

  -- ---- pieces that were read

  module _ (s : Source) (s_is : s ≡ source_of r) (ps : List Piece) (read : slice_get (shown_lines s) line ≡ Some ps) where
    same-read : slice_get (shown_lines (source_of r)) line ≡ Some ps
    same-read = ap (λ (x : Source). slice_get (shown_lines x) line) (sym s_is) ∙ read

    pub pieces-are : ps ≡ pieces_at r line
    pieces-are = sym (read-some (shown_lines (source_of r)) line [] ps same-read)

    pub pieces-few : bytes_in ps ≤ 134348801
    pieces-few = pieces-size (source_of r) (lawful_source (source_of r) is.entries.source short) line ps same-read

    pub pieces-offsets : All HasOffsets ps
    pieces-offsets = have-offsets (source_of r) is.entries.source (omega (arith, short)) line ps same-read shown

-- ---- where a line begins

pub begins-shown : ShowsLines → (r : Record) → IsLawful r → (b : Between) → b ≡ shown_of r → (line start : ℕ) → start ≡ rows_to line (between.rows_by_line b) → start ≡ rows_to line (rows_by_line r)
begins-shown shows r is b b_is line start e = e ∙ ap (λ (x : Between). rows_to line (between.rows_by_line x)) b_is ∙ ap (rows_to line) (shows r is)

-- ---- the line of a block

pub above-line : (r : Record) (b : Block) (o line : ℕ) → b.side ≡ Above → b.offset ≡ o → line ≡ line_of r.text r.inlays r.folds (row_start r.text o) Left → line ≡ line_of_block r b
above-line r b o line side offset is =
    is ∙ sym (λ i. cond (is_above (side i)) (line_of r.text r.inlays r.folds (row_start r.text (offset i)) Left) (line_of r.text r.inlays r.folds (row_end r.text (offset i)) Right))

pub below-line : (r : Record) (b : Block) (o line : ℕ) → b.side ≡ Below → b.offset ≡ o → line ≡ line_of r.text r.inlays r.folds (row_end r.text o) Right → line ≡ line_of_block r b
below-line r b o line side offset is =
    is ∙ sym (λ i. cond (is_above (side i)) (line_of r.text r.inlays r.folds (row_start r.text (offset i)) Left) (line_of r.text r.inlays r.folds (row_end r.text (offset i)) Right))
