-- The display line of a row, and the row among those of the line and of its blocks.
use Rattle.std.proofs.Common.{◌≡◌, ℕ, ◌+◌, ◌-◌, ◌<◌, ◌≤◌, List, [], ◌++◌, length, take, flat_map, get_or, ap, subst, ◌∙◌, inl, inr, arith, length-append}
use mathlib.Core.Logic.{◌⊎◌}
use Rattle.std.specs.Prelude.{slice_get}
use Rattle.std.proofs.lemmas.Bool.{cases_lt}
use Rattle.std.proofs.lemmas.List.{take_all}
use Rattle.cell_units.specs.declared.limits.TheConstants.{LAID_LIMIT}
use Rattle.cell_units.specs.declared.place.Side.TheVariants.{Above, Below}
use Rattle.cell_units.specs.Lawful.{IsLawful}
use Rattle.cell_units.specs.Record.{Record}
use Rattle.plain_rows.specs.Rows.{Row, blocks_at, line_rows, rows_by_line, rows_of}
use Rattle.plain_rows.specs.SpotRows.{IsLastBegun}
use Rattle.plain_rows.specs.Spots.{mark_at, rows_before}
use Rattle.plain_rows.proofs.RowsInOrder.{get_or-rows_by_line, length-rows_by_line, rows_upto-more}
use Rattle.plain_rows.proofs.SpotSizes.{length-elements}
use Rattle.block_map.specs.Between.{rows_to}
use Rattle.row_pieces.specs.declared.row_piece.RowPiece.{RowPiece}
use Rattle.row_pieces.specs.Laws.{pieces_at}
use Rattle.row_pieces.specs.Pieces.{block_pieces_at, pieces_by_line, pieces_by_row, pieces_in_rows}
use Rattle.row_pieces.proofs.BuiltPieces.{pieces-more}
use Rattle.row_pieces.proofs.ShownPieces.{length-blocks, length-by_line, line-at, rows-upto, whole-line}
use Rattle.view_pieces.specs.inside.Landing.{HoldsRow}
use Rattle.view_pieces.proofs.Lists.{append-left, append-past, flat-at}

module _ (r : Record) (is : IsLawful r) (short : length r.text ≤ LAID_LIMIT) where
  -- ---- the line

  -- a line's text rows begin after its blocks above, and before the next line
  pub begins-within : (line : ℕ) → line < length r.marks →
      (rows_to line (rows_by_line r) ≤ rows_before r line) × (rows_before r line ≤ rows_to (line + 1) (rows_by_line r))
  begins-within line lt =
      let long = length-elements r is short in (
        omega arith,
        omega (
          arith,
          rows_upto-more (rows_by_line r) line (omega (arith, lt, length-rows_by_line r long)),
          ap length (get_or-rows_by_line r line lt long),
          length-append (blocks_at r Above line) (get_or (line_rows r) line [] ++ blocks_at r Below line),
        ),
      )

  all-rows : rows_to (length r.marks) (rows_by_line r) ≡ length (rows_of r)
  unfolding rows_of
  all-rows =
      ap (λ (lines : List (List Row)). length (flat_map (λ rows. rows) lines))
      (take_all (length r.marks) (rows_by_line r) (omega (arith, length-rows_by_line r (length-elements r is short))))

  module _ (row begun next : ℕ) (there : row < length (rows_of r)) (last : IsLastBegun r row begun) (one : next ≡ begun + 1) where
    -- where the line after it begins at or before the row, there is one
    pub holds-next : rows_to next (rows_by_line r) ≤ row → HoldsRow r row next
    holds-next from = elim (cases_lt next (length r.marks)) [
      | inl lt ↦ record { within = lt; from = from; to = omega (arith, last.ends next (omega (arith, one)) lt, (begins-within next lt).1) }
      | inr ge ↦
          let end : next ≡ length r.marks = omega (arith, one, last.within, ge) in
          absurd (omega (arith, there, all-rows, from, ap (λ (n : ℕ). rows_to n (rows_by_line r)) end))
    ]

    pub holds-begun : row < rows_to next (rows_by_line r) → HoldsRow r row begun
    holds-begun to = record {
      within = last.within;
      from = from (cases_lt 0 begun);
      to = subst (λ (n : ℕ). row < rows_to n (rows_by_line r)) one to;
    } where
      from : (0 < begun) ⊎ (begun ≤ 0) → rows_to begun (rows_by_line r) ≤ row
      from (inl some) = omega (arith, last.begins some, (begins-within begun last.within).0)
      from (inr none) = let first : begun ≡ 0 = omega (arith, none) in omega (arith, ap (λ (n : ℕ). rows_to n (rows_by_line r)) first)

  -- ---- the row within it

  module _ (row line : ℕ) (h : HoldsRow r row line) where
    abbrev above : List (List RowPiece)
    above = block_pieces_at r Above line

    abbrev texts : List (List RowPiece)
    texts = pieces_by_row (pieces_at r line) r.tab (mark_at r line).width

    abbrev below : List (List RowPiece)
    below = block_pieces_at r Below line

    abbrev start : ℕ
    start = rows_to line (rows_by_line r)

    whole : get_or (pieces_by_line r) line [] ≡ above ++ (texts ++ below)
    whole = whole-line r is line h.within ∙ ap (λ (l : List (List RowPiece)). above ++ (l ++ below)) (line-at r is line h.within)

    long : rows_to (line + 1) (rows_by_line r) ≡ start + (length above + (length texts + length below))
    long =
        let before = flat_map (λ (rows : List (List RowPiece)). rows) (take line (pieces_by_line r)) in
        omega (
          arith,
          rows-upto r line,
          rows-upto r (line + 1),
          ap length (pieces-more r is line texts h.within (line-at r is line h.within)),
          length-append ((before ++ above) ++ texts) below,
          length-append (before ++ above) texts,
          length-append before above,
        )

    among : slice_get (pieces_in_rows r) row ≡ slice_get (above ++ (texts ++ below)) (row - start)
    unfolding pieces_in_rows
    among =
        let index : row ≡ length (flat_map (λ (rows : List (List RowPiece)). rows) (take line (pieces_by_line r))) + (row - start) =
        omega (arith, h.from, rows-upto r line) in
        ap (slice_get (flat_map (λ rows. rows) (pieces_by_line r))) index
        ∙ flat-at (pieces_by_line r) line (row - start) (omega (arith, h.within, length-by_line r is))
        (omega (arith, h.from, h.to, long, ap length whole, length-append above (texts ++ below), length-append texts below))
        ∙ ap (λ (l : List (List RowPiece)). slice_get l (row - start)) whole

    first-is : rows_before r line ≡ start + length above
    first-is = omega (arith, length-blocks r Above line)

    pub in-above : row < rows_before r line → slice_get (pieces_in_rows r) row ≡ slice_get above (row - start)
    in-above lt = among ∙ append-left above (texts ++ below) (row - start) (omega (arith, lt, first-is, h.from))

    after-above : rows_before r line ≤ row → slice_get (pieces_in_rows r) row ≡ slice_get (texts ++ below) (row - rows_before r line)
    after-above le =
        let same : row - start - length above ≡ row - rows_before r line = omega (arith, le, first-is) in
        among
        ∙ append-past above (texts ++ below) (row - start) (omega (arith, le, first-is))
        ∙ ap (slice_get (texts ++ below)) same

    pub in-texts : rows_before r line ≤ row → row - rows_before r line < length texts → slice_get (pieces_in_rows r) row ≡ slice_get texts (row - rows_before r line)
    in-texts le lt = after-above le ∙ append-left texts below (row - rows_before r line) lt

    pub in-below : rows_before r line ≤ row → length texts ≤ row - rows_before r line → slice_get (pieces_in_rows r) row ≡ slice_get below (row - rows_before r line - length texts)
    in-below le past = after-above le ∙ append-past texts below (row - rows_before r line) past
