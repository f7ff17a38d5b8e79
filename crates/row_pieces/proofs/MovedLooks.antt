-- A line whose pieces moved looks the same.
use Rattle.std.proofs.Common.{◌≡◌, ℕ, ◌+◌, ◌-◌, zero, suc, Bool, true, false, cond, eqb, List, [], ◌∷◌, ◌++◌, length, map, take, drop, get_or, slice_range, refl, ap, subst, ◌∙◌, arith}
use Rattle.unicode_segmentation.specs.Grapheme.{graphemes}
use Rattle.cell_units.specs.declared.piece.Piece.{Piece}
use Rattle.cell_units.specs.declared.piece.PieceKind.{PieceKind}
use Rattle.cell_line.specs.declared.element.Element.{Element}
use Rattle.cell_line.specs.Elements.{clusters, elements_of, placed}
use Rattle.cell_line.specs.RowTexts.{shown_element}
use Rattle.cell_line.specs.Wrapping.{cuts_of, indent_of}
use Rattle.row_pieces.specs.declared.row_piece.RowPiece.{RowPiece}
use Rattle.row_pieces.specs.Changed.{Look, look_of}
use Rattle.row_pieces.specs.Laws.{unplaced}
use Rattle.row_pieces.specs.Pieces.{bits, bits_in, count_in, head_and_later, indent_before, indent_piece, is_one, joined, kind_in, merged, parts, piece_before, pieces_by_row, start_of}

-- pieces that look the same, one by one
abbrev Alike : List RowPiece → List RowPiece → Type 0
Alike [] [] = Unit {0}
Alike [] (q ∷ qs) = ⊥
Alike (p ∷ ps) [] = ⊥
Alike (p ∷ ps) (q ∷ qs) = (look_of p ≡ look_of q) × Alike ps qs

alike-looks : (ps qs : List RowPiece) → Alike ps qs → map look_of ps ≡ map look_of qs
alike-looks [] [] h = refl
alike-looks [] (q ∷ qs) h = absurd h
alike-looks (p ∷ ps) [] h = absurd h
alike-looks (p ∷ ps) (q ∷ qs) h = λ i. h.0 i ∷ alike-looks ps qs h.1 i

-- ---- elements by themselves

-- two lists of pieces of the same kinds and texts
module _ (p q : Piece) (ps qs : List Piece) (h : unplaced (p ∷ ps) ≡ unplaced (q ∷ qs)) where
  kind_same : p.kind ≡ q.kind
  kind_same = ap (λ (l : List (PieceKind × List ℕ)). (get_or l 0 (p.kind, p.text)).0) h

  text_same : p.text ≡ q.text
  text_same = ap (λ (l : List (PieceKind × List ℕ)). (get_or l 0 (p.kind, p.text)).1) h

  rest_same : unplaced ps ≡ unplaced qs
  rest_same = ap (λ (l : List (PieceKind × List ℕ)). drop 1 l) h

append-alike : (ps qs us vs : List RowPiece) → Alike ps qs → Alike us vs → Alike (ps ++ us) (qs ++ vs)
append-alike [] [] us vs h k = k
append-alike [] (q ∷ qs) us vs h k = absurd h
append-alike (p ∷ ps) [] us vs h k = absurd h
append-alike (p ∷ ps) (q ∷ qs) us vs h k = (h.0, append-alike ps qs us vs h.1 k)

bits_in-alike : (p q : Piece) (a b : ℕ) (es : List Element) → p.kind ≡ q.kind → Alike (bits_in p a es) (bits_in q b es)
bits_in-alike p q a b [] h = tt
bits_in-alike p q a b (e ∷ es) h =
    (λ i. record { kind = kind_in (h i) e; text = shown_element e; cells = e.cells }, bits_in-alike p q (a + length e.text) (b + length e.text) es h)

bits-moved : (ps qs : List Piece) (es : List Element) → unplaced ps ≡ unplaced qs → Alike (bits ps es) (bits qs es)
bits-moved [] [] es h = tt
bits-moved [] (q ∷ qs) es h = absurd (omega (arith, ap length h))
bits-moved (p ∷ ps) [] es h = absurd (omega (arith, ap length h))
bits-moved (p ∷ ps) (q ∷ qs) es h =
    let count : count_in p ≡ count_in q = ap (λ (t : List ℕ). length (graphemes true t)) (text_same p q ps qs h) in
    subst (λ (n : ℕ). Alike (bits (p ∷ ps) es) (bits_in q 0 (take n es) ++ bits qs (drop n es))) count
    (append-alike (bits_in p 0 (take (count_in p) es)) (bits_in q 0 (take (count_in p) es)) (bits ps (drop (count_in p) es)) (bits qs (drop (count_in p) es))
    (bits_in-alike p q 0 0 (take (count_in p) es) (kind_same p q ps qs h))
    (bits-moved ps qs (drop (count_in p) es) (rest_same p q ps qs h)))

clusters-moved : (ps qs : List Piece) → unplaced ps ≡ unplaced qs → clusters ps ≡ clusters qs
clusters-moved [] [] h = refl
clusters-moved [] (q ∷ qs) h = absurd (omega (arith, ap length h))
clusters-moved (p ∷ ps) [] h = absurd (omega (arith, ap length h))
clusters-moved (p ∷ ps) (q ∷ qs) h = λ i. graphemes true (text_same p q ps qs h i) ++ clusters-moved ps qs (rest_same p q ps qs h) i

-- they make the same elements
pub elements-moved : (ps qs : List Piece) (tab : ℕ) → unplaced ps ≡ unplaced qs → elements_of ps tab ≡ elements_of qs tab
elements-moved ps qs tab h = ap (placed tab 0) (clusters-moved ps qs h)

-- ---- joining, parting and indents

kind-alike : (p q : RowPiece) → look_of p ≡ look_of q → p.kind ≡ q.kind
kind-alike p q e = ap (λ (l : Look). l.kind) e

before-alike : (p q : RowPiece) (ps qs : List RowPiece) → look_of p ≡ look_of q → Alike ps qs → Alike (piece_before p ps) (piece_before q qs)
before-alike p q [] [] e h = (e, tt)
before-alike p q [] (x ∷ xs) e h = absurd h
before-alike p q (x ∷ xs) [] e h = absurd h
before-alike p q (x ∷ xs) (y ∷ ys) e h =
    subst (λ (b : Bool). Alike (piece_before p (x ∷ xs)) (cond b (merged q y ∷ ys) (q ∷ y ∷ ys)))
    same (go (is_one p.kind x.kind)) where
      same : is_one p.kind x.kind ≡ is_one q.kind y.kind
      same = λ i. is_one (kind-alike p q e i) (kind-alike x y h.0 i)

      go : (b : Bool) → Alike (cond b (merged p x ∷ xs) (p ∷ x ∷ xs)) (cond b (merged q y ∷ ys) (q ∷ y ∷ ys))
      go true = (λ i. record { kind = (e i).kind; text = (e i).text ++ (h.0 i).text; cells = (e i).cells + (h.0 i).cells }, h.1)
      go false = (e, h)

joined-alike : (ps qs : List RowPiece) → Alike ps qs → Alike (joined ps) (joined qs)
joined-alike [] [] h = tt
joined-alike [] (q ∷ qs) h = absurd h
joined-alike (p ∷ ps) [] h = absurd h
joined-alike (p ∷ ps) (q ∷ qs) h = before-alike p q (joined ps) (joined qs) h.0 (joined-alike ps qs h.1)

take-alike : (n : ℕ) (ps qs : List RowPiece) → Alike ps qs → Alike (take n ps) (take n qs)
take-alike zero ps qs h = tt
take-alike (suc n) [] [] h = tt
take-alike (suc n) [] (q ∷ qs) h = absurd h
take-alike (suc n) (p ∷ ps) [] h = absurd h
take-alike (suc n) (p ∷ ps) (q ∷ qs) h = (h.0, take-alike n ps qs h.1)

drop-alike : (n : ℕ) (ps qs : List RowPiece) → Alike ps qs → Alike (drop n ps) (drop n qs)
drop-alike zero ps qs h = h
drop-alike (suc n) [] [] h = tt
drop-alike (suc n) [] (q ∷ qs) h = absurd h
drop-alike (suc n) (p ∷ ps) [] h = absurd h
drop-alike (suc n) (p ∷ ps) (q ∷ qs) h = drop-alike n ps qs h.1

indent-alike : (indent : ℕ) (ps qs : List RowPiece) → Alike ps qs → Alike (indent_before indent ps) (indent_before indent qs)
indent-alike indent ps qs h = go (eqb indent 0) where
  go : (b : Bool) → Alike (cond b ps (indent_piece indent (start_of ps) ∷ ps)) (cond b qs (indent_piece indent (start_of qs) ∷ qs))
  go true = h
  go false = (refl, h)

slice-alike : (a b : ℕ) (ps qs : List RowPiece) → Alike ps qs → Alike (slice_range ps a b) (slice_range qs a b)
slice-alike a b ps qs h = take-alike (b - a) (drop a ps) (drop a qs) (drop-alike a ps qs h)

later-looks : (indent : ℕ) (ps qs : List RowPiece) (start : ℕ) (cuts : List ℕ) → Alike ps qs →
    map (map look_of) (map (λ later. indent_before indent (joined later)) (parts ps start cuts)) ≡ map (map look_of) (map (λ later. indent_before indent (joined later)) (parts qs start cuts))
later-looks indent ps qs start [] h =
    ap (λ (l : List Look). l ∷ []) (alike-looks _ _ (indent-alike indent (joined (drop start ps)) (joined (drop start qs)) (joined-alike (drop start ps) (drop start qs) (drop-alike start ps qs h))))
later-looks indent ps qs start (cut ∷ cuts) h = λ i.
    alike-looks _ _ (indent-alike indent (joined (slice_range ps start cut)) (joined (slice_range qs start cut)) (joined-alike (slice_range ps start cut) (slice_range qs start cut) (slice-alike start cut ps qs h))) i
    ∷ later-looks indent ps qs cut cuts h i

line-looks : (indent : ℕ) (ps qs : List RowPiece) (start : ℕ) (cuts : List ℕ) → Alike ps qs →
    map (map look_of) (head_and_later indent (parts ps start cuts)) ≡ map (map look_of) (head_and_later indent (parts qs start cuts))
line-looks indent ps qs start [] h =
    ap (λ (l : List Look). l ∷ []) (alike-looks _ _ (joined-alike (drop start ps) (drop start qs) (drop-alike start ps qs h)))
line-looks indent ps qs start (cut ∷ cuts) h = λ i.
    alike-looks _ _ (joined-alike (slice_range ps start cut) (slice_range qs start cut) (slice-alike start cut ps qs h)) i
    ∷ later-looks indent ps qs cut cuts h i

-- the rows of a line look the same where its pieces moved
pub looks-moved : (ps qs : List Piece) (tab width : ℕ) → unplaced ps ≡ unplaced qs →
    map (map look_of) (pieces_by_row ps tab width) ≡ map (map look_of) (pieces_by_row qs tab width)
looks-moved ps qs tab width h =
    let es = elements_of ps tab in
    line-looks (indent_of es width) (bits ps es) (bits qs es) 0 (cuts_of es width) (bits-moved ps qs es h)
    ∙ ap (λ (l : List Element). map (map look_of) (head_and_later (indent_of l width) (parts (bits qs l) 0 (cuts_of l width)))) (elements-moved ps qs tab h)
