-- How many rows a lawful record has at most.
use Rattle.std.proofs.Common.{below_more, ◌≡◌, None, Some, ℕ, ◌+◌, ◌<◌, ◌≤◌, Bool, true, false, cond, List, [], ◌∷◌, ◌++◌, zero, suc, length, take, get_or, refl, sym, ap, ◌∙◌, arith, length-append}
use Rattle.std.specs.List.{slice_get, sum_by}
use Rattle.std.proofs.lemmas.List.{get_or-map, get_or_append_left, length-map, length_push}
use Rattle.std.proofs.Math.Seq.{get_or-append_seam}
use Rattle.std.proofs.lemmas.List.Sums.{sum_by-cons, sum_by_more}
use Rattle.cell_units.specs.declared.piece.Piece.{Piece}
use Rattle.cell_units.specs.declared.place.Side.TheVariants.{Above, Below}
use Rattle.cell_units.specs.Cutting.{cut_lines, onto_line}
use Rattle.cell_units.specs.Inlaid.{Byte, Hidden, InlayByte, Token, is_break}
use Rattle.cell_units.specs.Folded.{display_lines, folded}
use Rattle.cell_units.specs.Pieces.{folded_lines, pieces_of}
use Rattle.cell_units.specs.Record.{Record, plain_mark}
use Rattle.cell_units.specs.Lawful.{IsLawful, IsWidth, source_of}
use Rattle.cell_units.proofs.ShownText.{bytes-pieces_of}
use Rattle.cell_line.specs.Elements.{bytes_in, elements_of, total_cells}
use Rattle.cell_line.specs.Wrapping.{cuts_of}
use Rattle.cell_line.proofs.CellBounds.{length-elements_of, total_cells-le}
use Rattle.plain_rows.specs.Rows.{blocks_at, line_elements, line_rows, rows_by_line}
use Rattle.plain_rows.specs.Spots.{elements_at, mark_at, rows_before}
use Rattle.plain_rows.specs.inside.SpotRows.{cells_limit}
use Rattle.plain_rows.proofs.LawfulSources.{lawful_source}
use Rattle.plain_rows.proofs.ShownSizes.{folded-size, size, size-append}
use Rattle.plain_rows.proofs.LineSizes.{bytes-in, front-size}
use Rattle.plain_rows.proofs.RowsInOrder.{get_or-line_rows, get_or-rows_by_line, length-rows_by_line, length-text_rows, rows_upto, rows_upto-more}
use Rattle.plain_rows.proofs.SpotBlocks.{blocks-few, sum_upto}
use Rattle.plain_rows.proofs.SpotLines.{cuts-few}

-- ---- lines of tokens

token-some : (t : Token) (ts : List Token) → 1 + size ts ≤ size (t ∷ ts)
token-some (Byte o b) ts = omega arith
token-some (InlayByte o id b) ts = omega arith
token-some (Hidden o) ts = omega arith

lines-size : (ts : List Token) → sum_by size (cut_lines is_break ts) ≡ size ts
lines-size [] = refl
lines-size (t ∷ ts) = go (is_break t) (cut_lines is_break ts) (lines-size ts) where
  go : (c : Bool) (ls : List (List Token)) → sum_by size ls ≡ size ts → sum_by size (cond c ((t ∷ []) ∷ ls) (onto_line t ls)) ≡ size (t ∷ ts)
  go true ls h = omega (arith, h, sum_by-cons size (t ∷ []) ls, size-append (t ∷ []) ts)
  go false [] h = omega (arith, h, sum_by-cons size (t ∷ []) [], size-append (t ∷ []) ts)
  go false (l ∷ ls) h = omega (arith, h, sum_by-cons size (t ∷ l) ls, sum_by-cons size l ls, size-append (t ∷ []) l, size-append (t ∷ []) ts)

lines-count : (ts : List Token) → length (cut_lines is_break ts) ≤ size ts
lines-count [] = omega arith
lines-count (t ∷ ts) = omega (arith, token-some t ts, go (is_break t) (cut_lines is_break ts) (lines-count ts)) where
  go : (c : Bool) (ls : List (List Token)) → length ls ≤ size ts → length (cond c ((t ∷ []) ∷ ls) (onto_line t ls)) ≤ 1 + size ts
  go true ls h = omega (arith, h)
  go false [] h = omega (arith, h)
  go false (l ∷ ls) h = omega (arith, h)

-- ---- rows

found : {X : Type 0} (xs : List (List X)) (k : ℕ) (x : List X) → slice_get xs k ≡ Some x → x ≡ get_or xs k []
found [] k x is = let no : None ≡ Some x = is in absurd (cc)
found (y ∷ ys) zero x is = let e : Some y ≡ Some x = is in cc
found (y ∷ ys) (suc k) x is = found ys k x is

module _ (r : Record) (lawful : IsLawful r) (short : length r.text ≤ 67108864) where
  abbrev lines : List (List Token)
  lines = display_lines r.text r.inlays r.folds

  shown : size (folded r.text r.inlays r.folds) ≤ 134348801
  shown = folded-size (source_of r) (lawful_source (source_of r) lawful.entries.source short)

  pub few-lines : length r.marks ≤ 134348801
  few-lines = omega (arith, lawful.marked, lines-count (folded r.text r.inlays r.folds), shown)

  pub length-elements : length (line_elements r) ≡ length r.marks
  length-elements =
      length-map (folded_lines r.text r.inlays r.folds) (λ (pieces : List Piece). elements_of pieces r.tab)
      ∙ length-map lines pieces_of
      ∙ sym lawful.marked

  pub elements-is : (line : ℕ) → line < length r.marks → elements_at r line ≡ elements_of (get_or (folded_lines r.text r.inlays r.folds) line []) r.tab
  elements-is line lt =
      get_or-map (λ (pieces : List Piece). elements_of pieces r.tab) (folded_lines r.text r.inlays r.folds) line [] []
      (omega (arith, lt, lawful.marked, length-map lines pieces_of))

  pub lines-count_of : length (folded_lines r.text r.inlays r.folds) ≡ length r.marks
  lines-count_of = length-map lines pieces_of ∙ sym lawful.marked

  -- pieces that were found are those of the line
  pub pieces-elements : (line : ℕ) (pieces : List Piece) → line < length r.marks → slice_get (folded_lines r.text r.inlays r.folds) line ≡ Some pieces → elements_of pieces r.tab ≡ elements_at r line
  pieces-elements line pieces lt is = ap (λ (ps : List Piece). elements_of ps r.tab) (found (folded_lines r.text r.inlays r.folds) line pieces is) ∙ sym (elements-is line lt)

  -- widths are lawful
  pub width-lawful : (line : ℕ) → line < length r.marks → IsWidth (mark_at r line).width
  width-lawful line lt = lawful.widths line (plain_mark 0) lt

  pieces-is : (line : ℕ) → line < length r.marks → get_or (folded_lines r.text r.inlays r.folds) line [] ≡ pieces_of (get_or lines line [])
  pieces-is line lt = get_or-map pieces_of lines line [] [] (omega (arith, lt, lawful.marked))

  line-bytes : (line : ℕ) → line < length r.marks → bytes_in (get_or (folded_lines r.text r.inlays r.folds) line []) ≤ size (get_or lines line [])
  line-bytes line lt =
      let l = get_or lines line [] in
      omega (arith, ap bytes_in (pieces-is line lt), bytes-in (pieces_of l), ap length (bytes-pieces_of l), front-size l)

  line-size : (line : ℕ) → line < length r.marks → size (get_or lines line []) ≤ 134348801
  line-size line lt =
      omega (
        arith,
        shown,
        lines-size (folded r.text r.inlays r.folds),
        sum_by_more size lines line [] (omega (arith, lt, lawful.marked)),
        sum_by-take_all size lines (line + 1),
      ) where
        sum_by-take_all : (f : List Token → ℕ) (ls : List (List Token)) (n : ℕ) → sum_by f (take n ls) ≤ sum_by f ls
        sum_by-take_all f ls zero = omega arith
        sum_by-take_all f [] (suc n) = omega arith
        sum_by-take_all f (l ∷ ls) (suc n) = omega (arith, sum_by-cons f l (take n ls), sum_by-cons f l ls, sum_by-take_all f ls n)

  -- a line has few elements, and few cells
  pub elements-few : (line : ℕ) → line < length r.marks → length (elements_at r line) ≤ size (get_or lines line [])
  elements-few line lt =
      omega (arith, ap length (elements-is line lt), length-elements_of (get_or (folded_lines r.text r.inlays r.folds) line []) r.tab, line-bytes line lt)

  pub elements-count : (line : ℕ) → line < length r.marks → length (elements_at r line) ≤ 134348801
  elements-count line lt = omega (arith, elements-few line lt, line-size line lt)

  pub cells-few : (line : ℕ) → line < length r.marks → total_cells (elements_at r line) ≤ cells_limit
  cells-few line lt =
      omega (arith, ap total_cells (elements-is line lt), total_cells-le (get_or (folded_lines r.text r.inlays r.folds) line []) r.tab lawful.entries.tab.1, line-bytes line lt, line-size line lt)

  abbrev texts : ℕ → ℕ
  texts k = sum_by (λ (l : List Token). size l) (take k lines)

  upto : (k : ℕ) → k ≤ length r.marks →
      rows_upto k (rows_by_line r) ≤ texts k + k + sum_upto (λ line. length (blocks_at r Above line)) k + sum_upto (λ line. length (blocks_at r Below line)) k
  upto zero le = omega arith
  upto (suc k) le =
      let next : k + 1 ≡ suc k = omega arith in
      omega (
        arith,
        ap (λ (n : ℕ). rows_upto n (rows_by_line r)) next,
        ap texts next,
        upto k (omega (arith, le)),
        rows_upto-more (rows_by_line r) k (omega (arith, le, length-rows_by_line r (length-elements))),
        ap length (get_or-rows_by_line r k (omega (arith, le)) length-elements),
        length-append (blocks_at r Above k) (get_or (line_rows r) k [] ++ blocks_at r Below k),
        length-append (get_or (line_rows r) k []) (blocks_at r Below k),
        ap length (get_or-line_rows r k (omega (arith, le, length-elements)) (omega (arith, le))),
        length-text_rows (elements_at r k) (mark_at r k).width,
        cuts-few (elements_at r k) (mark_at r k).width,
        elements-few k (omega (arith, le)),
        sum_by_more (λ (l : List Token). size l) lines k [] (omega (arith, le, lawful.marked)),
      )

  -- all rows are few
  pub rows-few : (k : ℕ) → k ≤ length r.marks → rows_upto k (rows_by_line r) ≤ 302252034
  rows-few k le =
      omega (
        arith,
        upto k le,
        few-lines,
        blocks-few r lawful Above k,
        blocks-few r lawful Below k,
        take_all k lines,
        lines-size (folded r.text r.inlays r.folds),
        shown,
      ) where
        take_all : (n : ℕ) (ls : List (List Token)) → sum_by (λ (l : List Token). size l) (take n ls) ≤ sum_by size ls
        take_all zero ls = omega arith
        take_all (suc n) [] = omega arith
        take_all (suc n) (l ∷ ls) = omega (arith, sum_by-cons (λ (l : List Token). size l) l (take n ls), sum_by-cons size l ls, take_all n ls)

  -- the rows of one line more
  pub rows-step : (line : ℕ) → line < length r.marks →
      rows_upto (line + 1) (rows_by_line r) ≡ rows_before r line + length (get_or (line_rows r) line []) + length (blocks_at r Below line)
  rows-step line lt =
      omega (
        arith,
        rows_upto-more (rows_by_line r) line (omega (arith, lt, length-rows_by_line r length-elements)),
        ap length (get_or-rows_by_line r line lt length-elements),
        length-append (blocks_at r Above line) (get_or (line_rows r) line [] ++ blocks_at r Below line),
        length-append (get_or (line_rows r) line []) (blocks_at r Below line),
      )

  pub text-rows : (line : ℕ) → line < length r.marks → length (get_or (line_rows r) line []) ≡ length (cuts_of (elements_at r line) (mark_at r line).width) + 1
  text-rows line lt = ap length (get_or-line_rows r line (omega (arith, lt, length-elements)) lt) ∙ length-text_rows (elements_at r line) (mark_at r line).width

  pub first-few : (line : ℕ) → line < length r.marks → rows_before r line + length (cuts_of (elements_at r line) (mark_at r line).width) ≤ 302252034
  first-few line lt = omega (arith, rows-step line lt, text-rows line lt, rows-few (line + 1) (omega (arith, lt)))

-- of the lines before that one the rows before their text rows, and the number of all rows up to there
abbrev pub HasRowsUpto : Record → ℕ → List ℕ → ℕ → Type 0
HasRowsUpto r line rows row =
    (row ≡ rows_upto line (rows_by_line r)) × (length rows ≡ line) × ((k : ℕ) → k < line → get_or rows k 0 ≡ rows_before r k)

pub upto-more : (r : Record) (lawful : IsLawful r) (short : length r.text ≤ 67108864) (line : ℕ) (rows : List ℕ) (row first next : ℕ) → line < length r.marks → HasRowsUpto r line rows row →
    first ≡ row + length (blocks_at r Above line) → next ≡ first + length (get_or (line_rows r) line []) + length (blocks_at r Below line) → HasRowsUpto r (line + 1) (rows ++ first ∷ []) next
upto-more r lawful short line rows row first next lt has is then = (
  omega (arith, has.0, is, then, rows-step r lawful short line lt),
  omega (arith, has.1, length_push rows first),
  below_more _ _
      (λ k h. get_or_append_left rows (first ∷ []) 0 k (omega (arith, h, has.1)) ∙ has.2 k h)
      (let e : get_or (rows ++ first ∷ []) line 0 ≡ first = ap (λ (n : ℕ). get_or (rows ++ first ∷ []) n 0) (sym has.1) ∙ get_or-append_seam rows first [] 0 in omega (arith, e, is, has.0)),
)

-- the rows before the text rows of the line fit, and so do those up to its end
pub first-fits : (r : Record) (lawful : IsLawful r) (short : length r.text ≤ 67108864) (line : ℕ) → line < length r.marks →
    rows_upto line (rows_by_line r) + length (blocks_at r Above line) + length (get_or (line_rows r) line []) + length (blocks_at r Below line) ≤ 302252034
first-fits r lawful short line lt = omega (arith, rows-step r lawful short line lt, rows-few r lawful short (line + 1) (omega (arith, lt)))
