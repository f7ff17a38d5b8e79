-- The lines of touched rows are touched, and those of one run are next to each other.
use Rattle.std.proofs.Common.{◌≡◌, ℕ, ◌+◌, ◌-◌, ◌<◌, ◌≤◌, true, false, List, [], ◌++◌, get_or, length, replicate, sym, ◌∙◌, arith, inl, inr, ◌⊎◌}
use Rattle.std.proofs.lemmas.Bool.{and_from, cases_lt, le-leb, true≢false}
use Rattle.std.proofs.lemmas.List.{get_or-append_right, get_or-map, get_or-replicate, get_or_append_left, length-map, length-replicate}
use Rattle.cell_units.specs.declared.place.Bias.{Bias}
use Rattle.cell_units.specs.declared.place.Bias.TheVariants.{Left, Right}
use Rattle.cell_units.specs.Folded.{display_lines, line_of, span_end, span_start}
use Rattle.cell_units.specs.Inlaid.{Token}
use Rattle.cell_units.specs.Lawful.{HasLawfulEntries, source_of}
use Rattle.cell_units.specs.Pieces.{pieces_of}
use Rattle.cell_units.specs.Record.{Record}
use Rattle.cell_units.specs.Text.{row_end, row_of, row_start}
use Rattle.cell_units.specs.Touched.{RowRange, is_touched, one_run, touched_lines}
use Rattle.cell_units.proofs.LineSpans.{span-has}
use Rattle.cell_units.proofs.RowsAway.{row_end-within, row_of-end, row_of-start}
use Rattle.cell_units.proofs.Sources.{ends_open}
use Rattle.block_map.proofs.RowsOfBlocks as of_blocks

module _ (r : Record) (is : HasLawfulEntries r) where
  abbrev lines : List (List Token)
  lines = display_lines r.text r.inlays r.folds

  -- the line of an offset is one of them
  line-within : (o : ℕ) (bias : Bias) → o ≤ length r.text → line_of r.text r.inlays r.folds o bias < length lines
  line-within o bias le = omega (arith, of_blocks.line-within (source_of r) is.source o bias le, length-map lines pieces_of)

  module _ (rows : RowRange) where
    spanned : (line : ℕ) → line < length lines → span_start r.text (get_or lines line []) ≤ rows.last → rows.first ≤ span_end r.text (get_or lines line [])
        → get_or (touched_lines rows r) line false ≡ true
    spanned line lt start end =
        get_or-map (is_touched r.text rows) lines line [] false lt
        ∙ and_from _ _ (le-leb (span_start r.text (get_or lines line [])) rows.last start) (le-leb rows.first (span_end r.text (get_or lines line [])) end)

    -- that of an offset in a touched row is touched
    touched-at : (o p : ℕ) (bias : Bias) → p ≤ length r.text → row_of r.text p ≡ row_of r.text o → rows.first ≤ row_of r.text o → row_of r.text o ≤ rows.last
        → get_or (touched_lines rows r) (line_of r.text r.inlays r.folds p bias) false ≡ true
    touched-at o p bias le same from to =
        let s = source_of r in
        let span = span-has s (ends_open s is.source) p bias le in
        spanned (line_of r.text r.inlays r.folds p bias) (line-within p bias le) (omega (arith, span.0, same, to)) (omega (arith, span.1, same, from))

    -- and so are those of its row's start and end
    pub start-touched : (o : ℕ) → o ≤ length r.text → rows.first ≤ row_of r.text o → row_of r.text o ≤ rows.last
        → get_or (touched_lines rows r) (line_of r.text r.inlays r.folds (row_start r.text o) Left) false ≡ true
    start-touched o le from to = touched-at o (row_start r.text o) Left (omega (arith, le)) (row_of-start r.text o le) from to

    pub end-touched : (o : ℕ) → o ≤ length r.text → rows.first ≤ row_of r.text o → row_of r.text o ≤ rows.last
        → get_or (touched_lines rows r) (line_of r.text r.inlays r.folds (row_end r.text o) Right) false ≡ true
    end-touched o le from to = touched-at o (row_end r.text o) Right (row_end-within r.text o le) (row_of-end r.text o le) from to

-- ---- one run

-- a line that isn't of the run lies before it or after it
pub run-apart : (front middle back line : ℕ) → get_or (one_run front middle back) line false ≡ false → (line < front) ⊎ (front + middle ≤ line)
run-apart front middle back line flag = elim (cases_lt line front) [
  | inl lt ↦ inl lt
  | inr from ↦ elim (cases_lt line (front + middle)) [
    | inr past ↦ inr past
    | inl within ↦
        let k = line - front in
        let long = length-replicate front false in
        let mid = length-replicate middle true in
        let inside : k < middle = omega (arith, from, within) in
        let at : get_or (one_run front middle back) line false ≡ true =
        get_or-append_right (replicate front false) (replicate middle true ++ replicate back false) front line false long from
        ∙ get_or_append_left (replicate middle true) (replicate back false) false k (omega (arith, inside, mid))
        ∙ get_or-replicate middle k true false inside in
        absurd (true≢false (sym at ∙ flag))
  ]
]
