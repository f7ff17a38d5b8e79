-- Where only marks changed, the lines of the other marks look the same.
use Rattle.std.proofs.Common.{◌≡◌, ℕ, ◌+◌, ◌-◌, ◌≤◌, zero, suc, List, [], ◌∷◌, ◌++◌, length, map, take, drop, get_or, zip, refl, sym, ap, subst, ◌∙◌, arith}
use Rattle.std.specs.List.{enumerate_from}
use Rattle.std.proofs.lemmas.List.{length-map}
use Rattle.cell_units.specs.declared.place.Side.TheVariants.{Above, Below}
use Rattle.cell_units.specs.declared.piece.Piece.{Piece}
use Rattle.cell_units.specs.Folded.{display_lines}
use Rattle.cell_units.specs.Lawful.{IsMarked}
use Rattle.cell_units.specs.Pieces.{folded_lines, pieces_of}
use Rattle.cell_units.specs.Record.{Mark, Record}
use Rattle.cell_line.specs.declared.element.Element.{Element}
use Rattle.plain_rows.specs.Rows.{Row, blocks_at, line_elements, rows_by_line, text_rows}
use Rattle.plain_rows.proofs.RowsOfLines.{length-elements}
use Rattle.row_pieces.specs.declared.row_piece.RowPiece.{RowPiece}
use Rattle.row_pieces.specs.Changed.{IsLanded, IsTrue, RowLook, change, look_of, looks, looks_by_line, rows_of_lines}
use Rattle.row_pieces.specs.Pieces.{block_pieces_at, pieces_by_row}
use Rattle.row_pieces.proofs.Covering.{rows-replaced}

module _ (r : Record) where
  -- what is seen of lines of these marks, of which the first has this number
  abbrev seen : ℕ → List (List Piece) → List (List Element) → List Mark → List (List RowLook)
  seen n ts es ms =
      map (λ (l : List Row × List (List RowPiece)). zip (map (λ row. row.kind) l.0) (map (map look_of) l.1))
      (zip (map (λ n. blocks_at r Above n.0 ++ (n.1 ++ blocks_at r Below n.0)) (enumerate_from n (map (λ l. text_rows l.0 l.1.width) (zip es ms))))
      (map (λ n. block_pieces_at r Above n.0 ++ (n.1 ++ block_pieces_at r Below n.0)) (enumerate_from n (map (λ l. pieces_by_row l.0 r.tab l.1.width) (zip ts ms)))))

  front : (k n : ℕ) (ts : List (List Piece)) (es : List (List Element)) (ms new : List Mark) → length new ≡ length ms → take k new ≡ take k ms → take k (seen n ts es new) ≡ take k (seen n ts es ms)
  front zero n ts es ms new l h = refl
  front (suc k) n ts es [] [] l h = refl
  front (suc k) n ts es [] (m ∷ new) l h = absurd (omega (arith, l))
  front (suc k) n ts es (m ∷ ms) [] l h = absurd (omega (arith, l))
  front (suc k) n ts [] (m ∷ ms) (x ∷ new) l h = refl
  front (suc k) n [] (e ∷ es) (m ∷ ms) (x ∷ new) l h = refl
  front (suc k) n (t ∷ ts) (e ∷ es) (m ∷ ms) (x ∷ new) l h =
      let same : x ≡ m = ap (λ (l : List Mark). get_or l 0 m) h in
      let rest = front k (n + 1) ts es ms new (omega (arith, l)) (ap (drop 1) h) in
      λ i. zip (map (λ (row : Row). row.kind) (blocks_at r Above n ++ (text_rows e (same i).width ++ blocks_at r Below n))) (map (map look_of) (block_pieces_at r Above n ++ (pieces_by_row t r.tab (same i).width ++ block_pieces_at r Below n))) ∷ rest i

  back : (k n : ℕ) (ts : List (List Piece)) (es : List (List Element)) (ms new : List Mark) → length new ≡ length ms → drop k new ≡ drop k ms → drop k (seen n ts es new) ≡ drop k (seen n ts es ms)
  back zero n ts es ms new l h = ap (seen n ts es) h
  back (suc k) n ts es [] [] l h = refl
  back (suc k) n ts es [] (m ∷ new) l h = absurd (omega (arith, l))
  back (suc k) n ts es (m ∷ ms) [] l h = absurd (omega (arith, l))
  back (suc k) n ts [] (m ∷ ms) (x ∷ new) l h = refl
  back (suc k) n [] (e ∷ es) (m ∷ ms) (x ∷ new) l h = refl
  back (suc k) n (t ∷ ts) (e ∷ es) (m ∷ ms) (x ∷ new) l h = back k (n + 1) ts es ms new (omega (arith, l)) h

  all-seen : (n : ℕ) (ts : List (List Piece)) (es : List (List Element)) (ms : List Mark) → length ts ≡ length ms → length es ≡ length ms → length (seen n ts es ms) ≡ length ms
  all-seen n [] [] [] l k = refl
  all-seen n (t ∷ ts) es [] l k = absurd (omega (arith, l))
  all-seen n [] (e ∷ es) [] l k = absurd (omega (arith, k))
  all-seen n [] es (m ∷ ms) l k = absurd (omega (arith, l))
  all-seen n (t ∷ ts) [] (m ∷ ms) l k = absurd (omega (arith, k))
  all-seen n (t ∷ ts) (e ∷ es) (m ∷ ms) l k = ap suc (all-seen (n + 1) ts es ms (omega (arith, l)) (omega (arith, k)))

  -- lines whose marks are others make place for as many
  pub landed-rows : (new : List Mark) (first end : ℕ) → IsMarked r → length new ≡ length r.marks → first ≤ end → end ≤ length r.marks → take first new ≡ take first r.marks → drop end new ≡ drop end r.marks →
      IsTrue (rows_of_lines (change first end (end - first)) (looks_by_line r) (looks_by_line (record r { marks = new }))) (looks r) (looks (record r { marks = new }))
  unfolding rows_by_line
  landed-rows new first end marked long order within same_front same_back =
      let ts = folded_lines r.text r.inlays r.folds in
      let es = line_elements r in
      let lines : length ts ≡ length r.marks = length-map (display_lines r.text r.inlays r.folds) pieces_of ∙ sym marked in
      let old_long = all-seen 0 ts es r.marks lines (length-elements r marked) in
      let new_long = all-seen 0 ts es new (lines ∙ sym long) (length-elements r marked ∙ sym long) in
      let whole : first + (end - first) ≡ end = omega (arith, order) in
      rows-replaced (change first end (end - first)) (seen 0 ts es r.marks) (seen 0 ts es new) (record {
        order = order;
        within_old = omega (arith, old_long, within);
        within_new = omega (arith, new_long, long, within, whole);
        before = front first 0 ts es r.marks new long same_front;
        after = ap (λ (k : ℕ). drop k (seen 0 ts es new)) whole ∙ back end 0 ts es r.marks new long same_back;
      })

-- the same of two records that differ in these marks alone
pub landed-between : (r s : Record) (first end : ℕ) → IsMarked r → IsLanded r s first end →
    IsTrue (rows_of_lines (change first end (end - first)) (looks_by_line r) (looks_by_line s)) (looks r) (looks s)
landed-between r s first end marked l =
    subst (λ (q : Record). IsTrue (rows_of_lines (change first end (end - first)) (looks_by_line r) (looks_by_line q)) (looks r) (looks q)) (sym l.same)
    (landed-rows r s.marks first end marked l.long l.order l.within l.before l.after)
