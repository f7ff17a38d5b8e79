-- The texts of a row's pieces, joined, are the row's text, and the cells of pieces those of their elements.
use Rattle.std.proofs.Common.{◌≡◌, ℕ, ◌+◌, ◌-◌, ◌&&◌, zero, suc, Bool, true, false, cond, eqb, List, [], ◌∷◌, ◌++◌, length, map, filter, flat_map, take, drop, replicate, slice_range, zip, refl, sym, ap, ◌∙◌, arith, append-nil, append_assoc, length-append, length-drop, subst}
use Rattle.std.specs.List.{enumerate_from}
use Rattle.std.proofs.lemmas.Bool.Decides.{nat_tests}
use Rattle.std.proofs.lemmas.List.{length-map, map-append, take-append-drop}
use Rattle.std.proofs.lemmas.List.Sums.{sum_by-cons}
use Rattle.unicode_segmentation.specs.Grapheme.{graphemes}
use Rattle.cell_units.specs.declared.piece.Piece.{Piece}
use Rattle.cell_units.specs.declared.place.Side.{Side}
use Rattle.cell_units.specs.declared.place.Side.TheVariants.{Above, Below}
use Rattle.cell_units.specs.Record.{Block, Mark, Record}
use Rattle.cell_units.specs.Pieces.{folded_lines}
use Rattle.cell_line.specs.declared.element.Element.{Element}
use Rattle.cell_line.specs.Elements.{clusters, elements_of, total_cells}
use Rattle.cell_line.specs.RowTexts.{later_text, parted, row_texts_of, shown_element, shown_elements, texts_of_parts}
use Rattle.cell_line.specs.Wrapping.{cuts_of, indent_of}
use Rattle.cell_line.proofs.LineLaws.{texts_law}
use Rattle.plain_rows.specs.Rows.{Row, block_rows, blocks_at, head_and_more, is_on, line_of_block, more_row, rows_by_line, rows_of, text_rows}
use Rattle.row_pieces.specs.declared.row_piece.RowPiece.{RowPiece}
use Rattle.row_pieces.specs.Pieces.{bits, bits_in, block_piece, block_pieces_at, cells_in, count_in, head_and_later, indent_before, indent_piece, is_one, joined, line_pieces, merged, parts, piece_before, pieces_by_row, pieces_in_rows, pieces_of_block, start_of, text_of}

-- ---- joining

before-text : (p : RowPiece) (qs : List RowPiece) → text_of (piece_before p qs) ≡ p.text ++ text_of qs
before-text p [] = refl
before-text p (q ∷ qs) = go (is_one p.kind q.kind) where
  go : (b : Bool) → text_of (cond b (merged p q ∷ qs) (p ∷ q ∷ qs)) ≡ p.text ++ (q.text ++ text_of qs)
  go true = append_assoc p.text q.text (text_of qs)
  go false = refl

pub joined-text : (ps : List RowPiece) → text_of (joined ps) ≡ text_of ps
joined-text [] = refl
joined-text (p ∷ ps) = before-text p (joined ps) ∙ ap (λ (l : List ℕ). p.text ++ l) (joined-text ps)

pub cells-cons : (p : RowPiece) (ps : List RowPiece) → cells_in (p ∷ ps) ≡ p.cells + cells_in ps
cells-cons p ps = sum_by-cons (λ (q : RowPiece). q.cells) p ps

before-cells : (p : RowPiece) (qs : List RowPiece) → cells_in (piece_before p qs) ≡ p.cells + cells_in qs
before-cells p [] = cells-cons p []
before-cells p (q ∷ qs) = go (is_one p.kind q.kind) where
  go : (b : Bool) → cells_in (cond b (merged p q ∷ qs) (p ∷ q ∷ qs)) ≡ p.cells + cells_in (q ∷ qs)
  go true = omega (arith, cells-cons (merged p q) qs, cells-cons q qs)
  go false = cells-cons p (q ∷ qs)

pub joined-cells : (ps : List RowPiece) → cells_in (joined ps) ≡ cells_in ps
joined-cells [] = refl
joined-cells (p ∷ ps) = before-cells p (joined ps) ∙ ap (λ (n : ℕ). p.cells + n) (joined-cells ps) ∙ sym (cells-cons p ps)

-- ---- elements by themselves

-- they have the texts and the cells of the elements
abbrev pub AreSame : List RowPiece → List Element → Type 0
AreSame [] [] = Unit {0}
AreSame [] (e ∷ es) = ⊥
AreSame (p ∷ ps) [] = ⊥
AreSame (p ∷ ps) (e ∷ es) = (p.text ≡ shown_element e) × (p.cells ≡ e.cells) × AreSame ps es

bits_in-same : (p : Piece) (before : ℕ) (es : List Element) → AreSame (bits_in p before es) es
bits_in-same p before [] = tt
bits_in-same p before (e ∷ es) = (refl, refl, bits_in-same p (before + length e.text) es)

append-same : (ps qs : List RowPiece) (es fs : List Element) → AreSame ps es → AreSame qs fs → AreSame (ps ++ qs) (es ++ fs)
append-same [] qs [] fs h k = k
append-same [] qs (e ∷ es) fs h k = absurd h
append-same (p ∷ ps) qs [] fs h k = absurd h
append-same (p ∷ ps) qs (e ∷ es) fs h k = (h.0, h.1, append-same ps qs es fs h.2 k)

-- of as many elements as the pieces have clusters
pub bits-same : (ps : List Piece) (es : List Element) → length es ≡ length (clusters ps) → AreSame (bits ps es) es
bits-same [] [] h = tt
bits-same [] (e ∷ es) h = absurd (omega (arith, h))
bits-same (p ∷ ps) es h =
    subst (λ (l : List Element). AreSame (bits (p ∷ ps) es) l) (take-append-drop (count_in p) es)
    (append-same (bits_in p 0 (take (count_in p) es)) (bits ps (drop (count_in p) es)) (take (count_in p) es) (drop (count_in p) es)
    (bits_in-same p 0 (take (count_in p) es))
    (bits-same ps (drop (count_in p) es) (omega (arith, h, length-drop (count_in p) es, length-append (graphemes true p.text) (clusters ps)))))

length-clusters : (pieces : List Piece) (tab : ℕ) → length (elements_of pieces tab) ≡ length (clusters pieces)
length-clusters pieces tab =
    sym (length-map (elements_of pieces tab) (λ (e : Element). e.text)) ∙ ap length (texts_law pieces tab).0

-- of the elements of a line
pub line-same : (pieces : List Piece) (tab : ℕ) → AreSame (bits pieces (elements_of pieces tab)) (elements_of pieces tab)
line-same pieces tab = bits-same pieces (elements_of pieces tab) (length-clusters pieces tab)

pub take-same : (n : ℕ) (ps : List RowPiece) (es : List Element) → AreSame ps es → AreSame (take n ps) (take n es)
take-same zero ps es h = tt
take-same (suc n) [] [] h = tt
take-same (suc n) [] (e ∷ es) h = absurd h
take-same (suc n) (p ∷ ps) [] h = absurd h
take-same (suc n) (p ∷ ps) (e ∷ es) h = (h.0, h.1, take-same n ps es h.2)

pub drop-same : (n : ℕ) (ps : List RowPiece) (es : List Element) → AreSame ps es → AreSame (drop n ps) (drop n es)
drop-same zero ps es h = h
drop-same (suc n) [] [] h = tt
drop-same (suc n) [] (e ∷ es) h = absurd h
drop-same (suc n) (p ∷ ps) [] h = absurd h
drop-same (suc n) (p ∷ ps) (e ∷ es) h = drop-same n ps es h.2

pub slice-same : (a b : ℕ) (ps : List RowPiece) (es : List Element) → AreSame ps es → AreSame (slice_range ps a b) (slice_range es a b)
slice-same a b ps es h = take-same (b - a) (drop a ps) (drop a es) (drop-same a ps es h)

pub same-text : (ps : List RowPiece) (es : List Element) → AreSame ps es → text_of ps ≡ shown_elements es
same-text [] [] h = refl
same-text [] (e ∷ es) h = absurd h
same-text (p ∷ ps) [] h = absurd h
same-text (p ∷ ps) (e ∷ es) h = ap (λ (l : List ℕ). l ++ text_of ps) h.0 ∙ ap (λ (l : List ℕ). shown_element e ++ l) (same-text ps es h.2)

pub same-cells : (ps : List RowPiece) (es : List Element) → AreSame ps es → cells_in ps ≡ total_cells es
same-cells [] [] h = refl
same-cells [] (e ∷ es) h = absurd h
same-cells (p ∷ ps) [] h = absurd h
same-cells (p ∷ ps) (e ∷ es) h =
    cells-cons p ps
    ∙ (λ i. h.1 i + same-cells ps es h.2 i)
    ∙ sym (sum_by-cons (λ (x : Element). x.cells) e es)

-- ---- a line

indent-text : (indent : ℕ) (ps : List RowPiece) → text_of (indent_before indent ps) ≡ replicate indent 32 ++ text_of ps
indent-text zero ps = refl
indent-text (suc indent) ps =
    let some : eqb (suc indent) 0 ≡ false = grind (arith, nat_tests) in
    ap (λ (b : Bool). text_of (cond b ps (indent_piece (suc indent) (start_of ps) ∷ ps))) some

later_row : (indent : ℕ) (ps : List RowPiece) (es : List Element) → AreSame ps es → text_of (indent_before indent (joined ps)) ≡ later_text indent es
later_row indent ps es h = indent-text indent (joined ps) ∙ ap (λ (l : List ℕ). replicate indent 32 ++ l) (joined-text ps ∙ same-text ps es h)

later_rows : (indent : ℕ) (ps : List RowPiece) (es : List Element) (start : ℕ) (cuts : List ℕ) → AreSame ps es →
    map text_of (map (λ later. indent_before indent (joined later)) (parts ps start cuts)) ≡ map (later_text indent) (parted es start cuts)
later_rows indent ps es start [] h = ap (λ (l : List ℕ). l ∷ []) (later_row indent (drop start ps) (drop start es) (drop-same start ps es h))
later_rows indent ps es start (cut ∷ cuts) h =
    ap (λ (l : List ℕ). l ∷ map text_of (map (λ later. indent_before indent (joined later)) (parts ps cut cuts))) (later_row indent (slice_range ps start cut) (slice_range es start cut) (slice-same start cut ps es h))
    ∙ ap (λ (ls : List (List ℕ)). later_text indent (slice_range es start cut) ∷ ls) (later_rows indent ps es cut cuts h)

line_texts : (indent : ℕ) (ps : List RowPiece) (es : List Element) (start : ℕ) (cuts : List ℕ) → AreSame ps es →
    map text_of (head_and_later indent (parts ps start cuts)) ≡ texts_of_parts indent (parted es start cuts)
line_texts indent ps es start [] h = ap (λ (l : List ℕ). l ∷ []) (joined-text (drop start ps) ∙ same-text (drop start ps) (drop start es) (drop-same start ps es h))
line_texts indent ps es start (cut ∷ cuts) h =
    ap (λ (l : List ℕ). l ∷ map text_of (map (λ later. indent_before indent (joined later)) (parts ps cut cuts))) (joined-text (slice_range ps start cut) ∙ same-text (slice_range ps start cut) (slice_range es start cut) (slice-same start cut ps es h))
    ∙ ap (λ (ls : List (List ℕ)). shown_elements (slice_range es start cut) ∷ ls) (later_rows indent ps es cut cuts h)

texts_of_more : (texts : List (List ℕ)) → map (λ (row : Row). row.text) (map more_row texts) ≡ texts
texts_of_more [] = refl
texts_of_more (t ∷ ts) = ap (λ (ls : List (List ℕ)). t ∷ ls) (texts_of_more ts)

texts_of_rows : (texts : List (List ℕ)) → map (λ (row : Row). row.text) (head_and_more texts) ≡ texts
texts_of_rows [] = refl
texts_of_rows (t ∷ ts) = ap (λ (ls : List (List ℕ)). t ∷ ls) (texts_of_more ts)

-- the texts of a line's rows
pub line-texts : (pieces : List Piece) (tab width : ℕ) → map text_of (pieces_by_row pieces tab width) ≡ map (λ (row : Row). row.text) (text_rows (elements_of pieces tab) width)
line-texts pieces tab width =
    let es = elements_of pieces tab in
    line_texts (indent_of es width) (bits pieces es) es 0 (cuts_of es width) (line-same pieces tab)
    ∙ sym (texts_of_rows (row_texts_of es width))

-- ---- blocks

block_texts : (tab : ℕ) (b : Block) (lines : List (List ℕ)) →
    map text_of (map (λ line. block_piece tab b line ∷ []) lines) ≡ map (λ (row : Row). row.text) (map (λ line. record { kind = 98; text = line }) lines)
block_texts tab b [] = refl
block_texts tab b (l ∷ ls) =
    ap (λ (t : List ℕ). t ∷ map text_of (map (λ line. block_piece tab b line ∷ []) ls)) (append-nil l)
    ∙ ap (λ (ts : List (List ℕ)). l ∷ ts) (block_texts tab b ls)

pub blocks_texts : (tab : ℕ) (bs : List Block) → map text_of (flat_map (pieces_of_block tab) bs) ≡ map (λ (row : Row). row.text) (flat_map block_rows bs)
blocks_texts tab [] = refl
blocks_texts tab (b ∷ bs) =
    map-append text_of (pieces_of_block tab b) (flat_map (pieces_of_block tab) bs)
    ∙ ap (λ (ts : List (List ℕ)). ts ++ map text_of (flat_map (pieces_of_block tab) bs)) (block_texts tab b b.lines)
    ∙ ap (λ (ts : List (List ℕ)). map (λ (row : Row). row.text) (block_rows b) ++ ts) (blocks_texts tab bs)
    ∙ sym (map-append (λ (row : Row). row.text) (block_rows b) (flat_map block_rows bs))

-- ---- all rows

-- lines of the same texts
abbrev pub AreAlike : List (List (List RowPiece)) → List (List Row) → Type 0
AreAlike [] [] = Unit {0}
AreAlike [] (r ∷ rs) = ⊥
AreAlike (l ∷ ls) [] = ⊥
AreAlike (l ∷ ls) (r ∷ rs) = (map text_of l ≡ map (λ (row : Row). row.text) r) × AreAlike ls rs

pub lines_alike : (tab : ℕ) (lines : List (List Piece)) (marks : List Mark) →
    AreAlike (map (λ l. pieces_by_row l.0 tab l.1.width) (zip lines marks)) (map (λ l. text_rows l.0 l.1.width) (zip (map (λ pieces. elements_of pieces tab) lines) marks))
lines_alike tab [] marks = tt
lines_alike tab (l ∷ ls) [] = tt
lines_alike tab (l ∷ ls) (m ∷ ms) = (line-texts l tab m.width, lines_alike tab ls ms)

between : (r : Record) (n : ℕ) (ls : List (List (List RowPiece))) (rs : List (List Row)) → AreAlike ls rs →
    map text_of (flat_map (λ rows. rows) (map (λ n. block_pieces_at r Above n.0 ++ (n.1 ++ block_pieces_at r Below n.0)) (enumerate_from n ls)))
    ≡ map (λ (row : Row). row.text) (flat_map (λ rows. rows) (map (λ n. blocks_at r Above n.0 ++ (n.1 ++ blocks_at r Below n.0)) (enumerate_from n rs)))
between r n [] [] h = refl
between r n [] (y ∷ ys) h = absurd h
between r n (x ∷ xs) [] h = absurd h
between r n (x ∷ xs) (y ∷ ys) h =
    map-append text_of (block_pieces_at r Above n ++ (x ++ block_pieces_at r Below n)) others
    ∙ (λ i. row i ++ between r (n + 1) xs ys h.1 i)
    ∙ sym (map-append (λ (row : Row). row.text) (blocks_at r Above n ++ (y ++ blocks_at r Below n)) others') where
      others : List (List RowPiece)
      others = flat_map (λ rows. rows) (map (λ n. block_pieces_at r Above n.0 ++ (n.1 ++ block_pieces_at r Below n.0)) (enumerate_from (n + 1) xs))

      others' : List Row
      others' = flat_map (λ rows. rows) (map (λ n. blocks_at r Above n.0 ++ (n.1 ++ blocks_at r Below n.0)) (enumerate_from (n + 1) ys))

      at : (side : Side) → map text_of (block_pieces_at r side n) ≡ map (λ (row : Row). row.text) (blocks_at r side n)
      at side = blocks_texts r.tab (filter (λ b. is_on side b.side && eqb (line_of_block r b) n) r.blocks)

      row : map text_of (block_pieces_at r Above n ++ (x ++ block_pieces_at r Below n)) ≡ map (λ (row : Row). row.text) (blocks_at r Above n ++ (y ++ blocks_at r Below n))
      row =
          map-append text_of (block_pieces_at r Above n) (x ++ block_pieces_at r Below n)
          ∙ ap (λ (l : List (List ℕ)). map text_of (block_pieces_at r Above n) ++ l) (map-append text_of x (block_pieces_at r Below n))
          ∙ (λ i. at Above i ++ (h.0 i ++ at Below i))
          ∙ sym (map-append (λ (row : Row). row.text) (blocks_at r Above n) (y ++ blocks_at r Below n)
          ∙ ap (λ (l : List (List ℕ)). map (λ (row : Row). row.text) (blocks_at r Above n) ++ l) (map-append (λ (row : Row). row.text) y (blocks_at r Below n)))

-- the texts of a row's pieces, joined, are the row's text
pub rows-texts : (r : Record) → map text_of (pieces_in_rows r) ≡ map (λ (row : Row). row.text) (rows_of r)
unfolding pieces_in_rows rows_of rows_by_line
rows-texts r = between r 0 (line_pieces r) _ (lines_alike r.tab (folded_lines r.text r.inlays r.folds) r.marks)
