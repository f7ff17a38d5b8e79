-- The lines of a text by itself: how few and short they are, and what a replacement of the text owes to the map.
use Rattle.std.proofs.Common.{◌≡◌, ℕ, ◌+◌, ◌-◌, ◌≤◌, List, [], ◌∷◌, ◌++◌, All, length, map, take, drop, Some, refl, sym, ap, ◌∙◌, subst, arith}
use Rattle.std.specs.List.{count_by, sum_by}
use Rattle.std.proofs.lemmas.List.{length-take-le, take_at}
use Rattle.std.proofs.lemmas.List.Elements.{All-cons, All-nil}
use Rattle.std.proofs.lemmas.List.Sums.{sum_by-cons}
use Rattle.cell_units.specs.declared.limits.TheConstants.{LAID_LIMIT}
use Rattle.cell_units.specs.declared.piece.Piece.{Piece}
use Rattle.cell_units.specs.declared.place.Shift.{Shift}
use Rattle.cell_units.specs.BufferLines.{buffer_lines}
use Rattle.cell_units.specs.Layers.{Source, plain_source, shown_text}
use Rattle.cell_units.specs.Operation.{replaced_text}
use Rattle.cell_units.specs.Text.{is_feed, row_of}
use Rattle.cell_units.proofs.BufferLines.{bytes_of_lines, length-buffer_lines}
use Rattle.cell_units.proofs.PlainLayers.{text_of_plain}
use Rattle.cell_units.proofs.ReplacedLines.{lines_above-replaced, lines_below-replaced}
use Rattle.cell_units.proofs.ReplacedRows.{length-replaced_text, row_of-lt, row_of_end-replaced}
use Rattle.cell_units.proofs.Unfolded.{line_pieces, pieces_from, unfolded_lines}
use Rattle.cell_line.specs.declared.element.Element.{Element}
use Rattle.cell_line.specs.Elements.{bytes_in, elements_of}
use Rattle.cell_line.specs.Lines.{FitsU32, LineFitsU32}
use Rattle.cell_line.proofs.CellBounds.{length-elements_of, total_cells-le}
use Rattle.edit_patch.specs.Leads.{LeadsAt}
use Rattle.tab_map.specs.TabLines.{LiesWithin, LinesFollow, line_texts, lines_at}
use Rattle.tab_map.proofs.TabLemmas.{leads-map}

-- ---- few and short lines

abbrev elements_from : ℕ → ℕ → List (List ℕ) → List (List Element)
elements_from tab start lines = map (λ pieces. elements_of pieces tab) (pieces_from start lines)

abbrev long : List ℕ → ℕ
long line = length line + 1

abbrev wide : List Element → ℕ
wide elements = length elements + 1

bytes-line : (start : ℕ) (line : List ℕ) → bytes_in (line_pieces start line) ≡ length line
bytes-line start [] = refl
bytes-line start (b ∷ bs) = omega arith

elements-few : (tab start : ℕ) (lines : List (List ℕ)) → sum_by wide (elements_from tab start lines) ≤ sum_by long lines
elements-few tab start [] = omega arith
elements-few tab start (line ∷ lines) =
    let next = start + length line + 1 in
    let here = length-elements_of (line_pieces start line) tab in
    omega (
      arith,
      elements-few tab next lines,
      here,
      bytes-line start line,
      sum_by-cons wide (elements_of (line_pieces start line) tab) (elements_from tab next lines),
      sum_by-cons long line lines,
    )

-- the lines of a text and their elements are no more than its bytes and one
pub plain-few : (text : List ℕ) (tab : ℕ) → sum_by (λ elements. length elements + 1) (lines_at (plain_source text) tab) ≤ length text + 1
plain-few text tab =
    let are : lines_at (plain_source text) tab ≡ elements_from tab 0 (buffer_lines text) =
    ap (map (λ pieces. elements_of pieces tab)) (unfolded_lines text) in
    omega (arith, ap (sum_by wide) are, elements-few tab 0 (buffer_lines text), bytes_of_lines text)

elements-fit : (tab start : ℕ) (lines : List (List ℕ)) → tab ≤ 16 → sum_by long lines ≤ LAID_LIMIT + 1
    → All LineFitsU32 (elements_from tab start lines)
elements-fit tab start [] h few = All-nil LineFitsU32
elements-fit tab start (line ∷ lines) h few =
    let next = start + length line + 1 in
    let pieces = line_pieces start line in
    let sum = sum_by-cons long line lines in
    let bytes = bytes-line start line in
    let fits : LineFitsU32 (elements_of pieces tab) =
    (omega (arith, length-elements_of pieces tab, bytes, sum, few), omega (arith, total_cells-le pieces tab h, bytes, sum, few)) in
    All-cons LineFitsU32 (elements_of pieces tab) (elements_from tab next lines) fits
    (elements-fit tab next lines h (omega (arith, sum, few)))

count-le : (ls : List (List Element)) → length ls ≤ sum_by wide ls
count-le [] = omega arith
count-le (es ∷ ls) = omega (arith, count-le ls, sum_by-cons wide es ls)

-- a text's lines, elements and cells are u32
pub plain-fits : (text : List ℕ) (tab : ℕ) → tab ≤ 16 → length text ≤ LAID_LIMIT → FitsU32 (lines_at (plain_source text) tab)
plain-fits text tab h small =
    let lines = lines_at (plain_source text) tab in
    let are : lines ≡ elements_from tab 0 (buffer_lines text) =
    ap (map (λ pieces. elements_of pieces tab)) (unfolded_lines text) in (
      omega (arith, count-le lines, plain-few text tab, small),
      subst (All LineFitsU32) (sym are) (elements-fit tab 0 (buffer_lines text) h (omega (arith, bytes_of_lines text, small))),
    )

-- ---- a replacement

-- the texts of a line's pieces: it is one, or none where the line is empty
abbrev of_line : List ℕ → List (List ℕ)
of_line [] = []
of_line (b ∷ bs) = (b ∷ bs) ∷ []

abbrev texts : List Piece → List (List ℕ)
texts pieces = map (λ piece. piece.text) pieces

each-texts : (start : ℕ) (lines : List (List ℕ)) → map texts (pieces_from start lines) ≡ map of_line lines
each-texts start [] = refl
each-texts start ([] ∷ lines) = ap (λ (rest : List (List (List ℕ))). [] ∷ rest) (each-texts (start + 0 + 1) lines)
each-texts start ((b ∷ bs) ∷ lines) =
    ap (λ (rest : List (List (List ℕ))). ((b ∷ bs) ∷ []) ∷ rest) (each-texts (start + length (b ∷ bs) + 1) lines)

texts-plain : (text : List ℕ) → line_texts (plain_source text) ≡ map of_line (buffer_lines text)
texts-plain text = ap (map texts) (unfolded_lines text) ∙ each-texts 0 (buffer_lines text)

-- others took the place of the bytes from a to b of the text
module _ (text put : List ℕ) (a b : ℕ) (order : a ≤ b) (within : b ≤ length text) where
  abbrev made : List ℕ
  made = replaced_text text a b put

  bytes-lie : LiesWithin text made a b (length put)
  bytes-lie = record {
    within = within;
    reaches = omega (arith, length-replaced_text text a b put (omega (arith, order, within)));
    first = ap (count_by is_feed) (take_at (take a text) (put ++ drop b text) a (length-take-le a text (omega (arith, order, within))));
  }

  lines-lead : LeadsAt (buffer_lines text) (buffer_lines made) (row_of text a) (row_of text b + 1) (count_by is_feed put + 1)
  lines-lead =
      let end = row_of_end-replaced text a b put (omega (arith, order, within)) in
      record {
        within = omega (arith, row_of-lt text b, length-buffer_lines text);
        reaches = omega (arith, row_of-lt made (a + length put), end, length-buffer_lines made);
        before = lines_above-replaced text a b put;
        behind = lines_below-replaced text a b put;
      }

  texts-lead : LeadsAt (line_texts (plain_source text)) (line_texts (plain_source made)) (row_of text a) (row_of text b + 1)
      (row_of made (a + length put) + 1 - row_of text a)
  texts-lead =
      let count : count_by is_feed put + 1 ≡ row_of made (a + length put) + 1 - row_of text a =
      omega (arith, row_of_end-replaced text a b put (omega (arith, order, within))) in
      subst (λ (n : ℕ). LeadsAt (line_texts (plain_source text)) (line_texts (plain_source made)) (row_of text a) (row_of text b + 1) n) count
      (subst (λ (xs : List (List (List ℕ))). LeadsAt xs (line_texts (plain_source made)) (row_of text a) (row_of text b + 1) (count_by is_feed put + 1))
      (sym (texts-plain text))
      (subst (λ (xs : List (List (List ℕ))). LeadsAt (map of_line (buffer_lines text)) xs (row_of text a) (row_of text b + 1) (count_by is_feed put + 1))
      (sym (texts-plain made))
      (leads-map of_line (buffer_lines text) (buffer_lines made) (row_of text a) (row_of text b + 1) (count_by is_feed put + 1) lines-lead)))

-- what is owed, by the texts that both layers show
abbrev Follow : Source → Source → ℕ → ℕ → ℕ → List ℕ → List ℕ → Type 0
Follow old new a b n was is =
    LiesWithin was is a b n
    × LeadsAt (line_texts old) (line_texts new) (row_of was a) (row_of was b + 1) (row_of is (a + n) + 1 - row_of was a)

-- a replacement of the text lies within it and the new one, and its lines follow
pub plain-follow : (old new put : List ℕ) (s : Shift) → s.end ≤ length old → new ≡ replaced_text old s.start s.end put
    → s.count ≡ length put → LinesFollow (plain_source old) (plain_source new) (Some s)
plain-follow old new put s within is count =
    let made = replaced_text old s.start s.end put in
    let direct : Follow (plain_source old) (plain_source made) s.start s.end (length put) old made =
    (bytes-lie old put s.start s.end s.ordered within, texts-lead old put s.start s.end s.ordered within) in
    let counted : Follow (plain_source old) (plain_source made) s.start s.end s.count old made =
    subst (λ (n : ℕ). Follow (plain_source old) (plain_source made) s.start s.end n old made) (sym count) direct in
    let renamed : Follow (plain_source old) (plain_source new) s.start s.end s.count old new =
    subst (λ (t : List ℕ). Follow (plain_source old) (plain_source t) s.start s.end s.count old t) (sym is) counted in
    subst (λ (t : List ℕ). Follow (plain_source old) (plain_source new) s.start s.end s.count t (shown_text (plain_source new))) (sym (text_of_plain old))
    (subst (λ (t : List ℕ). Follow (plain_source old) (plain_source new) s.start s.end s.count old t) (sym (text_of_plain new)) renamed)
