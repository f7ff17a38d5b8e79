-- What is read of the lines and rows of a record.
use Rattle.std.proofs.Common.{◌≡◌, ◌≤◌, ◌+◌, ◌<◌, ℕ, Bool, true, false, List, [], flat_map, get_or, length, refl, sym, ap, subst, ◌∙◌, inl, inr, arith}
use mathlib.Core.Logic.{◌⊎◌}
use Rattle.std.specs.Prelude.{◌↔◌, IsTrue, Some, slice_get}
use Rattle.std.proofs.lemmas.Bool.{false≢true}
use Rattle.std.proofs.lemmas.List.{get_or-map, length-map, take_all}
use Rattle.std.proofs.lemmas.Option.{slice_get-get_or}
use Rattle.cell_units.specs.declared.limits.TheConstants.{LAID_LIMIT}
use Rattle.cell_units.specs.Lawful.{IsLawful, IsWidth, source_of}
use Rattle.cell_units.specs.Record.{Mark, Record, plain_mark}
use Rattle.cell_units.specs.Rows.{line_rows}
use Rattle.cell_units.proofs.Sources.{row-lt}
use Rattle.plain_rows.specs.Rows.{Row, line_elements, rows_by_line, rows_of}
use Rattle.plain_rows.specs.SpotRows as spots
use Rattle.cell_line.specs.declared.element.Element.{Element}
use Rattle.cell_line.specs.Lines.{line_at}
use Rattle.plain_rows.specs.Spots.{elements_at, mark_at, rows_before}
use Rattle.plain_rows.proofs.RowsInOrder.{length-rows_by_line, rows_upto, rows_upto-rises}
use Rattle.plain_rows.proofs.SpotSizes.{length-elements, lines-count_of, rows-step, text-rows}
use Rattle.kept_sheet.specs.Kept.{widths_of}
use Rattle.wrap_map.specs.Standing as standing
use Rattle.wrap_map.specs.Standing.{Standing}
use Rattle.wrap_map.proofs.Snapshots.{shown-have-rows}
use Rattle.wrap_map.proofs.Standings.{length-pairs, texts}
use Rattle.block_map.specs.Between as between
use Rattle.wrapped_lines.specs.WrappedSource as wrapped
use Rattle.wrapped_lines.specs.WrappedSource.{WrappedSource}
use Rattle.blocked_rows.specs.Laws.{FindsLines}
use Rattle.blocked_rows.specs.Records.{row_texts, shown_of}
use Rattle.map_sheet.specs.Kept.{lines_in}
use Rattle.map_sheet.proofs.Rooms.{marks-each}

module _ (r : Record) (is : IsLawful r) (short : length r.text ≤ LAID_LIMIT) where
  -- ---- lines

  pub lines-long : (w : WrappedSource) → w ≡ lines_in r → length (wrapped.lines_of w) ≡ length r.marks
  lines-long w same = ap (λ (x : WrappedSource). length (wrapped.lines_of x)) same ∙ length-elements r is short

  pub line-there : (w : WrappedSource) → w ≡ lines_in r → (line : ℕ) → line < length r.marks → line < length (wrapped.lines_of w)
  line-there w same line lt = omega (arith, lt, lines-long w same)

  pub mark-is : (w : WrappedSource) → w ≡ lines_in r → (line : ℕ) → line < length r.marks → standing.mark_at (wrapped.standing_lines w) line ≡ (mark_at r line).width
  mark-is w same line lt =
      ap (λ (x : WrappedSource). standing.mark_at (wrapped.standing_lines x) line) same
      ∙ get_or-map (λ (m : Mark). m.width) r.marks line (plain_mark 0) 0 lt

  pub width-is : (line : ℕ) → line < length r.marks → IsWidth (mark_at r line).width
  width-is line lt = is.widths line (plain_mark 0) lt

  -- ---- rows

  pub row-lines : (line : ℕ) → line < length r.marks → line < length (row_texts r)
  row-lines line lt = omega (arith, lt, length-elements r is short, length-pairs texts (line_elements r) (widths_of r) (marks-each r is short))

  pub has-row : (line : ℕ) → line < length r.marks → 0 < length (line_rows (row_texts r) line)
  has-row line lt =
      let stood : Standing = record { lines = line_elements r; marks = widths_of r } in
      omega (arith, shown-have-rows stood line [] (row-lines line lt))

  -- a line's first text row is one of all rows
  pub row-there : (line : ℕ) → line < length r.marks → rows_before r line < length (rows_of r)
  unfolding rows_of
  row-there line lt =
      let all : rows_upto (length r.marks) (rows_by_line r) ≡ length (rows_of r) =
      ap (λ (rows : List (List Row)). length (flat_map (λ xs. xs) rows))
      (take_all (length r.marks) (rows_by_line r) (omega (arith, length-rows_by_line r (length-elements r is short)))) in
      omega (
        arith,
        rows-step r is short line lt,
        text-rows r is short line lt,
        rows_upto-rises (rows_by_line r) (line + 1) (length r.marks) (omega (arith, lt)),
        all,
      )

  -- the line of a row past the last one is that of the last
  pub line-found : FindsLines → (row last line : ℕ) → (row ≡ last) ⊎ ((last ≤ row) × (length (rows_of r) ≤ last + 1)) →
      between.IsLastBegun (shown_of r) last line → spots.IsLastBegun r row line
  line-found finds row last line where_is found = go where_is (finds r is last line found) where
    go : (row ≡ last) ⊎ ((last ≤ row) × (length (rows_of r) ≤ last + 1)) → spots.IsLastBegun r last line → spots.IsLastBegun r row line
    go (inl e) l = subst (λ (n : ℕ). spots.IsLastBegun r n line) (sym e) l
    go (inr p) l = record {
      within = l.within;
      begins = λ some. omega (arith, l.begins some, p.0);
      ends = λ other behind lt. absurd (omega (arith, l.ends other behind lt, row-there other lt, p.1));
    }

-- two tests of one fact are the same
pub same-test : {P : Type 0} (a b : Bool) → (IsTrue a ↔ P) → (IsTrue b ↔ P) → a ≡ b
same-test true true p q = refl
same-test false false p q = refl
same-test true false p q = absurd (false≢true (q.1 (p.0 refl)))
same-test false true p q = absurd (false≢true (p.1 (q.0 refl)))

-- one line as it is read
pub line-elements : (r : Record) (w : WrappedSource) → w ≡ lines_in r → (lines : List (List Element)) → lines ≡ wrapped.lines_of w → (line : ℕ) (es : List Element) →
    es ≡ line_at lines line → es ≡ elements_at r line
line-elements r w w_is lines lines_are line es is =
    is ∙ ap (λ (ls : List (List Element)). line_at ls line) (lines_are ∙ ap wrapped.lines_of w_is)

pub line-width : (r : Record) → IsLawful r → length r.text ≤ LAID_LIMIT → (w : WrappedSource) → w ≡ lines_in r → (rows : Standing) → rows ≡ wrapped.standing_lines w →
    (line : ℕ) → line < length r.marks → (mark : ℕ) → mark ≡ standing.mark_at rows line → mark ≡ (mark_at r line).width
line-width r is short w w_is rows rows_are line lt mark at = at ∙ ap (λ (s : Standing). standing.mark_at s line) rows_are ∙ mark-is r is short w w_is line lt

-- there is a row
pub some-row : (r : Record) (is : IsLawful r) (short : length r.text ≤ LAID_LIMIT) → 0 < length (rows_of r)
some-row r is short =
    let one = row-lt (source_of r) is.entries.source 0 in
    omega (arith, row-there r is short 0 (omega (arith, one, lines-count_of r is short)))

pub width-there : (r : Record) (w : WrappedSource) → w ≡ lines_in r → (rows : Standing) → rows ≡ wrapped.standing_lines w → (line : ℕ) → line < length r.marks →
    (mark : ℕ) → mark ≡ standing.mark_at rows line → slice_get (widths_of r) line ≡ Some mark
width-there r w w_is rows rows_are line lt mark at =
    let same : mark ≡ get_or (widths_of r) line 0 = at ∙ ap (λ (s : Standing). standing.mark_at s line) rows_are ∙ ap (λ (x : WrappedSource). standing.mark_at (wrapped.standing_lines x) line) w_is in
    slice_get-get_or (widths_of r) line 0 (omega (arith, lt, length-map r.marks (λ (m : Mark). m.width))) ∙ ap Some (sym same)
