-- A change of lines is true where the text rows of the other lines look the same, and their blocks too.
use Rattle.std.proofs.Common.{◌≡◌, ℕ, ◌+◌, ◌<◌, ◌≤◌, zero, suc, List, [], ◌∷◌, ◌++◌, length, map, take, drop, get_or, replicate, zip, refl, sym, ap, ◌∙◌, arith, length-drop}
use Rattle.std.proofs.lemmas.List.{get_or-drop, get_or-map, length-map, map-append}
use Rattle.std.proofs.lemmas.Slice.Zip.{get_or-zip}
use Rattle.cell_units.specs.declared.piece.Piece.{Piece}
use Rattle.cell_units.specs.declared.place.Side.TheVariants.{Above, Below}
use Rattle.cell_units.specs.Lawful.{IsAllowed, IsLawful}
use Rattle.cell_units.specs.LineCounts.{TouchesOneRun}
use Rattle.cell_units.specs.Operation.{Operation, operated}
use Rattle.cell_units.specs.Record.{Record, plain_mark}
use Rattle.cell_units.specs.Touched.{touched}
use Rattle.cell_line.specs.declared.element.Element.{Element}
use Rattle.cell_line.specs.Elements.{elements_of}
use Rattle.cell_line.specs.RowTexts.{row_texts_of}
use Rattle.plain_rows.specs.Rows.{Row, blocks_at, head_and_more, more_row, rows_by_line, text_rows}
use Rattle.plain_rows.specs.Spots.{mark_at}
use Rattle.plain_rows.proofs.RowsInOrder.{length-text_rows}
use Rattle.plain_rows.proofs.RowsOfLines.{elements-at, length-rows_by_line, line_rows-at, rows_by_line-at}
use Rattle.display_sheet.specs.LineStep.{line_step}
use Rattle.display_sheet.proofs.StepLaws.{IsLawful-step}
use Rattle.row_pieces.specs.declared.row_piece.RowPiece.{RowPiece}
use Rattle.row_pieces.specs.Changed.{IsTrue, Look, RowLook, change, look_of, looks_by_line}
use Rattle.row_pieces.specs.Laws.{KeepsBlocks, KeepsLooks, LeavesBlocks, block_looks, line_looks, pieces_at}
use Rattle.row_pieces.specs.Pieces.{block_pieces_at, pieces_by_line, pieces_by_row}
use Rattle.row_pieces.proofs.Columns.{length-line}
use Rattle.row_pieces.proofs.LookCounts.{count-looks, seen, zip-long}
use Rattle.row_pieces.proofs.OperatedBlocks.{blocks-kept}
use Rattle.row_pieces.proofs.OperatedLooks.{looks-kept, marks-long, marks-stepped}
use Rattle.row_pieces.proofs.ShownPieces.{length-blocks, length-by_line, line-at, whole-line}

-- ---- lists that agree from a place on, or up to one

module _ {X : Type 0} (d : X) where
  pub take-agreeing : (n : ℕ) (xs ys : List X) → n ≤ length xs → n ≤ length ys → ((k : ℕ) → k < n → get_or xs k d ≡ get_or ys k d) → take n xs ≡ take n ys
  take-agreeing zero xs ys l m h = refl
  take-agreeing (suc n) [] ys l m h = absurd (omega (arith, l))
  take-agreeing (suc n) (x ∷ xs) [] l m h = absurd (omega (arith, m))
  take-agreeing (suc n) (x ∷ xs) (y ∷ ys) l m h = λ i. h 0 (omega arith) i ∷ take-agreeing n xs ys (omega (arith, l)) (omega (arith, m)) (λ k lt. h (suc k) (omega (arith, lt))) i

  all-same : (xs ys : List X) → length xs ≡ length ys → ((k : ℕ) → k < length xs → get_or xs k d ≡ get_or ys k d) → xs ≡ ys
  all-same [] [] l h = refl
  all-same [] (y ∷ ys) l h = absurd (omega (arith, l))
  all-same (x ∷ xs) [] l h = absurd (omega (arith, l))
  all-same (x ∷ xs) (y ∷ ys) l h = λ i. h 0 (omega arith) i ∷ all-same xs ys (omega (arith, l)) (λ k lt. h (suc k) (omega (arith, lt))) i

zip-append : {X Y : Type 0} (xs xs' : List X) (ys ys' : List Y) → length xs ≡ length ys → zip (xs ++ xs') (ys ++ ys') ≡ zip xs ys ++ zip xs' ys'
zip-append [] xs' [] ys' h = refl
zip-append [] xs' (y ∷ ys) ys' h = absurd (omega (arith, h))
zip-append (x ∷ xs) xs' [] ys' h = absurd (omega (arith, h))
zip-append (x ∷ xs) xs' (y ∷ ys) ys' h = λ i. (x, y) ∷ zip-append xs xs' ys ys' (omega (arith, h)) i

-- ---- what is seen of a line

abbrev kinds : List Row → List ℕ
kinds rows = map (λ row. row.kind) rows

seen-append : (p q : List Row) (u v : List (List RowPiece)) → length p ≡ length u → seen (p ++ q, u ++ v) ≡ seen (p, u) ++ seen (q, v)
seen-append p q u v h =
    (λ i. zip (map-append (λ (row : Row). row.kind) p q i) (map-append (map look_of) u v i))
    ∙ zip-append (kinds p) (kinds q) (map (map look_of) u) (map (map look_of) v) (length-map p (λ (row : Row). row.kind) ∙ h ∙ sym (length-map u (map look_of)))

-- the kinds of so many text rows of a line
abbrev kinds_of : ℕ → List ℕ
kinds_of zero = []
kinds_of (suc n) = 116 ∷ replicate n 119

more-kinds : (texts : List (List ℕ)) → kinds (map more_row texts) ≡ replicate (length texts) 119
more-kinds [] = refl
more-kinds (t ∷ ts) = ap (λ (l : List ℕ). 119 ∷ l) (more-kinds ts)

text-kinds : (texts : List (List ℕ)) → kinds (head_and_more texts) ≡ kinds_of (length (head_and_more texts))
text-kinds [] = refl
text-kinds (t ∷ ts) = ap (λ (l : List ℕ). 116 ∷ l) (more-kinds ts ∙ ap (λ (n : ℕ). replicate n 119) (sym (length-map ts more_row)))

-- text rows as they are seen: their kinds follow from how many they are
abbrev text_seen : List (List Look) → List RowLook
text_seen looks = zip (kinds_of (length looks)) looks

texts-seen : (pieces : List Piece) (tab width : ℕ) → seen (text_rows (elements_of pieces tab) width, pieces_by_row pieces tab width) ≡ text_seen (map (map look_of) (pieces_by_row pieces tab width))
texts-seen pieces tab width =
    let es = elements_of pieces tab in
    let rows = pieces_by_row pieces tab width in
    let count : length (text_rows es width) ≡ length (map (map look_of) rows) =
    length-text_rows es width ∙ sym (length-line pieces tab width) ∙ sym (length-map rows (map look_of)) in
    ap (λ (l : List ℕ). zip l (map (map look_of) rows)) (text-kinds (row_texts_of es width) ∙ ap kinds_of count)

module _ (r : Record) (lawful : IsLawful r) where
  -- the blocks above, the text rows, the blocks below
  pub line-parts : (line : ℕ) → line < length r.marks →
      get_or (looks_by_line r) line [] ≡ block_looks r Above line
      ++ (seen (text_rows (elements_of (pieces_at r line) r.tab) (mark_at r line).width, pieces_by_row (pieces_at r line) r.tab (mark_at r line).width) ++ block_looks r Below line)
  line-parts line lt =
      let ps = pieces_at r line in
      let width = (mark_at r line).width in
      let texts = text_rows (elements_of ps r.tab) width in
      let own = pieces_by_row ps r.tab width in
      let none : List Row × List (List RowPiece) = ([], []) in
      let rows : get_or (rows_by_line r) line [] ≡ blocks_at r Above line ++ (texts ++ blocks_at r Below line) =
      rows_by_line-at r lawful.marked line lt
      ∙ ap (λ (l : List Row). blocks_at r Above line ++ (l ++ blocks_at r Below line))
      (line_rows-at r lawful.marked line (plain_mark 0) lt ∙ ap (λ (es : List Element). text_rows es width) (elements-at r lawful.marked line lt)) in
      let pieces : get_or (pieces_by_line r) line [] ≡ block_pieces_at r Above line ++ (own ++ block_pieces_at r Below line) =
      whole-line r lawful line lt ∙ ap (λ (l : List (List RowPiece)). block_pieces_at r Above line ++ (l ++ block_pieces_at r Below line)) (line-at r lawful line lt) in
      let in_rows : line < length (rows_by_line r) = omega (arith, lt, length-rows_by_line r lawful.marked) in
      let in_pieces : line < length (pieces_by_line r) = omega (arith, lt, length-by_line r lawful) in
      let long = zip-long (rows_by_line r) (pieces_by_line r) (length-rows_by_line r lawful.marked ∙ sym (length-by_line r lawful)) in
      get_or-map seen (zip (rows_by_line r) (pieces_by_line r)) line none [] (omega (arith, in_rows, long))
      ∙ ap seen (get_or-zip (rows_by_line r) (pieces_by_line r) line none in_rows in_pieces)
      ∙ (λ i. seen (rows i, pieces i))
      ∙ seen-append (blocks_at r Above line) (texts ++ blocks_at r Below line) (block_pieces_at r Above line) (own ++ block_pieces_at r Below line) (sym (length-blocks r Above line))
      ∙ ap (λ (l : List RowLook). block_looks r Above line ++ l)
      (seen-append texts (blocks_at r Below line) own (block_pieces_at r Below line) (length-text_rows (elements_of ps r.tab) width ∙ sym (length-line ps r.tab width)))

  line-seen : (line : ℕ) → line < length r.marks →
      get_or (looks_by_line r) line [] ≡ block_looks r Above line ++ (text_seen (line_looks r line) ++ block_looks r Below line)
  line-seen line lt =
      line-parts line lt
      ∙ ap (λ (l : List RowLook). block_looks r Above line ++ (l ++ block_looks r Below line)) (texts-seen (pieces_at r line) r.tab (mark_at r line).width)

-- ---- two records

module _ (r s : Record) (lawful : IsLawful r) (lawful' : IsLawful s) (front before after back : ℕ) (long : length r.marks ≡ front + (before + back)) (long' : length s.marks ≡ front + (after + back))
    (texts : KeepsLooks front before after r s) (blocks : KeepsBlocks front before after r s) where
  same-above : (line : ℕ) → line < front → get_or (looks_by_line s) line [] ≡ get_or (looks_by_line r) line []
  same-above line lt =
      line-seen s lawful' line (omega (arith, lt, long'))
      ∙ (λ i. blocks.above Above line lt i ++ (text_seen (texts.above line lt i) ++ blocks.above Below line lt i))
      ∙ sym (line-seen r lawful line (omega (arith, lt, long)))

  same-below : (j : ℕ) → j < back → get_or (looks_by_line s) (front + after + j) [] ≡ get_or (looks_by_line r) (front + before + j) []
  same-below j lt =
      let within : front + before + j < length r.marks = omega (arith, lt, long) in
      line-seen s lawful' (front + after + j) (omega (arith, lt, long'))
      ∙ (λ i. blocks.below Above j within i ++ (text_seen (texts.below j within i) ++ blocks.below Below j within i))
      ∙ sym (line-seen r lawful (front + before + j) within)

  pub true-lines : IsTrue (change front (front + before) after) (looks_by_line r) (looks_by_line s)
  true-lines =
      let size = count-looks r lawful in
      let size' = count-looks s lawful' in
      record {
        order = omega arith;
        within_old = omega (arith, size, long);
        within_new = omega (arith, size', long');
        before = take-agreeing [] front (looks_by_line s) (looks_by_line r) (omega (arith, size', long')) (omega (arith, size, long)) (λ k lt. same-above k lt);
        after = all-same [] (drop (front + after) (looks_by_line s)) (drop (front + before) (looks_by_line r))
            (omega (arith, size, size', long, long', length-drop (front + after) (looks_by_line s), length-drop (front + before) (looks_by_line r)))
            (λ k lt.
            let within : k < back = omega (arith, lt, size', long', length-drop (front + after) (looks_by_line s)) in
            get_or-drop (front + after) (looks_by_line s) k [] ∙ same-below k within ∙ sym (get_or-drop (front + before) (looks_by_line r) k []));
      }

-- after an operation
pub operated-lines : (operation : Operation) (r : Record) (is : IsLawful r) (ok : IsAllowed operation r) → LeavesBlocks operation → (run : TouchesOneRun (touched operation r) r (operated operation r)) →
    IsTrue (change run.front (run.front + run.before) run.after) (looks_by_line r) (looks_by_line (line_step operation r))
operated-lines operation r is ok leaves run =
    true-lines r (line_step operation r) is (IsLawful-step operation r is ok) run.front run.before run.after run.back
    (marks-long operation r is ok run) (marks-stepped operation r is ok run) (looks-kept operation r is ok run) (blocks-kept operation r is ok run leaves)
