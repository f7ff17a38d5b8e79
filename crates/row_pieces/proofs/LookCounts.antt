-- How many rows are seen of lines: as many as they have.
use Rattle.std.proofs.Common.{◌≡◌, ℕ, ◌+◌, zero, suc, List, [], ◌∷◌, ◌++◌, length, map, flat_map, take, zip, refl, sym, ap, ◌∙◌, arith, length-append}
use Rattle.std.specs.List.{enumerate_from}
use Rattle.std.proofs.lemmas.List.{length-map, take_all}
use Rattle.cell_units.specs.declared.place.Side.TheVariants.{Above, Below}
use Rattle.cell_units.specs.Lawful.{IsLawful}
use Rattle.cell_units.specs.Pieces.{folded_lines}
use Rattle.cell_units.specs.Record.{Record}
use Rattle.plain_rows.specs.Plain.{row_pairs}
use Rattle.plain_rows.specs.Rows.{Row, blocks_at, line_rows, rows_by_line, rows_of}
use Rattle.plain_rows.proofs.RowsInOrder.{rows_upto}
use Rattle.plain_rows.proofs.RowsOfLines.{length-rows_by_line}
use Rattle.row_pieces.specs.declared.row_piece.RowPiece.{RowPiece}
use Rattle.row_pieces.specs.Changed.{RowLook, look_of, looks_by_line, rows_to}
use Rattle.row_pieces.specs.Pieces.{block_pieces_at, line_pieces, pieces_by_line}
use Rattle.row_pieces.proofs.PieceTexts.{AreAlike, lines_alike}
use Rattle.row_pieces.proofs.ShownPieces.{alike-length, length-blocks, length-by_line}

-- lines of as many rows
abbrev EachLong : List (List Row) → List (List (List RowPiece)) → Type 0
EachLong [] [] = Unit {0}
EachLong [] (q ∷ qs) = ⊥
EachLong (p ∷ ps) [] = ⊥
EachLong (p ∷ ps) (q ∷ qs) = (length p ≡ length q) × EachLong ps qs

each-long : (r : Record) (n : ℕ) (ls : List (List (List RowPiece))) (rs : List (List Row)) → AreAlike ls rs →
    EachLong (map (λ n. blocks_at r Above n.0 ++ (n.1 ++ blocks_at r Below n.0)) (enumerate_from n rs))
    (map (λ n. block_pieces_at r Above n.0 ++ (n.1 ++ block_pieces_at r Below n.0)) (enumerate_from n ls))
each-long r n [] [] h = tt
each-long r n [] (y ∷ ys) h = absurd h
each-long r n (x ∷ xs) [] h = absurd h
each-long r n (x ∷ xs) (y ∷ ys) h = (
  omega (
    arith,
    length-append (block_pieces_at r Above n) (x ++ block_pieces_at r Below n),
    length-append x (block_pieces_at r Below n),
    length-append (blocks_at r Above n) (y ++ blocks_at r Below n),
    length-append y (blocks_at r Below n),
    length-blocks r Above n,
    length-blocks r Below n,
    alike-length x y h.0,
  ),
  each-long r (n + 1) xs ys h.1,
)

-- rows with their pieces, as they are seen
abbrev pub seen : List Row × List (List RowPiece) → List RowLook
seen l = zip (map (λ row. row.kind) l.0) (map (map look_of) l.1)

pub zip-long : {X Y : Type 0} (xs : List X) (ys : List Y) → length xs ≡ length ys → length (zip xs ys) ≡ length xs
zip-long [] ys h = refl
zip-long (x ∷ xs) [] h = absurd (omega (arith, h))
zip-long (x ∷ xs) (y ∷ ys) h = ap suc (zip-long xs ys (omega (arith, h)))

pub seen-long : (rows : List Row) (pieces : List (List RowPiece)) → length rows ≡ length pieces → length (seen (rows, pieces)) ≡ length rows
seen-long rows pieces h =
    zip-long (map (λ row. row.kind) rows) (map (map look_of) pieces) (length-map rows (λ row. row.kind) ∙ h ∙ sym (length-map pieces (map look_of)))
    ∙ length-map rows (λ row. row.kind)

count-seen : (k : ℕ) (ps : List (List Row)) (qs : List (List (List RowPiece))) → EachLong ps qs →
    length (flat_map (λ rows. rows) (take k (map seen (zip ps qs)))) ≡ length (flat_map (λ rows. rows) (take k ps))
count-seen zero ps qs h = refl
count-seen (suc k) [] [] h = refl
count-seen (suc k) [] (q ∷ qs) h = absurd h
count-seen (suc k) (p ∷ ps) [] h = absurd h
count-seen (suc k) (p ∷ ps) (q ∷ qs) h =
    omega (
      arith,
      length-append (seen (p, q)) (flat_map (λ rows. rows) (take k (map seen (zip ps qs)))),
      length-append p (flat_map (λ rows. rows) (take k ps)),
      seen-long p q h.0,
      count-seen k ps qs h.1,
    )

pub rows-to : (r : Record) (k : ℕ) → rows_to k (looks_by_line r) ≡ rows_upto k (rows_by_line r)
unfolding rows_by_line
rows-to r k = count-seen k _ (pieces_by_line r) (each-long r 0 (line_pieces r) (line_rows r) (lines_alike r.tab (folded_lines r.text r.inlays r.folds) r.marks))

pub all-rows : (r : Record) → IsLawful r → length (rows_of r) ≡ rows_upto (length r.marks) (rows_by_line r)
unfolding rows_of
all-rows r lawful =
    ap (λ (lines : List (List Row)). length (flat_map (λ rows. rows) lines))
    (sym (take_all (length r.marks) (rows_by_line r) (omega (arith, length-rows_by_line r lawful.marked))))

-- ... and of as many lines as there are
pub count-looks : (r : Record) → IsLawful r → length (looks_by_line r) ≡ length r.marks
count-looks r lawful =
    length-map (zip (rows_by_line r) (pieces_by_line r)) seen
    ∙ zip-long (rows_by_line r) (pieces_by_line r) (length-rows_by_line r lawful.marked ∙ sym (length-by_line r lawful))
    ∙ length-rows_by_line r lawful.marked

pub length-pairs : (rows : List Row) → length (row_pairs rows) ≡ length rows
length-pairs [] = refl
length-pairs (row ∷ rows) = ap suc (length-pairs rows)
