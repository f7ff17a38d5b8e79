-- The pieces of a part of a line, by those of the line. With them the pieces of a folded line follow from those of the
-- lines of the lower layer.
use Rattle.std.proofs.Common.{◌≡◌, ℕ, ◌+◌, ◌-◌, ◌<◌, ◌≤◌, ◌⊎◌, suc, Bool, true, false, cond, eqb, List, [], ◌∷◌, ◌++◌, length, take, drop, flat_map, append-nil, refl, sym, ap, ◌∙◌, inl, inr, arith, length-append}
use Rattle.std.proofs.lemmas.Bool.{cases_lt, false≢true, le-leb, lt-leb, ne_eqb}
use Rattle.cell_units.specs.declared.piece.Piece.{Piece}
use Rattle.cell_units.specs.declared.piece.PieceKind.TheVariants.{Buffer, Inlay, Placeholder}
use Rattle.cell_units.specs.Inlaid.{Token, Byte, InlayByte, Hidden, offset_of, bytes_of, placeholder}
use Rattle.cell_units.specs.Pieces.{pieces_of, piece_before, is_one_piece, kind_of}
use Rattle.cell_units.specs.Folding.{front_pieces, rest_pieces, piece_front, piece_rest, offset_in}
use Rattle.cell_units.proofs.BufferPieces.{Every, First, Goes, Next, first-piece, one_kind}
use Rattle.cell_units.proofs.PieceSplits.{Some, before_both, before_other, some_before}

-- ---- around a placeholder

hidden_alone : (x : Token) (s : ℕ) → is_one_piece x (Hidden s) ≡ false
hidden_alone (Byte o b) s = refl
hidden_alone (InlayByte o id b) s = refl
hidden_alone (Hidden o) s = refl

-- the piece of a placeholder before what is at the offset
abbrev hidden_piece : ℕ → ℕ → Piece
hidden_piece s e = record { kind = Placeholder; text = placeholder; start = s; end = e }

-- the pieces before a placeholder, the placeholder, and those after it
pub pieces-around : (xs : List Token) (s : ℕ) (v : Token) (vs : List Token) →
    pieces_of (xs ++ Hidden s ∷ v ∷ vs) ≡ pieces_of (xs ++ Hidden s ∷ []) ++ (hidden_piece s (offset_of v) ∷ pieces_of (v ∷ vs))
pieces-around [] s v vs = before_other (Hidden s) (offset_of v) (pieces_of (v ∷ vs))
pieces-around (x ∷ []) s v vs =
    ap (piece_before (is_one_piece x (Hidden s)) x s) (pieces-around [] s v vs)
    ∙ ap (λ (c : Bool). piece_before c x s (hidden_piece s (offset_of v) ∷ pieces_of (v ∷ vs))) (hidden_alone x s)
pieces-around (x ∷ y ∷ ys) s v vs =
    ap (piece_before (is_one_piece x y) x (offset_of y)) (pieces-around (y ∷ ys) s v vs)
    ∙ before_both (is_one_piece x y) x (offset_of y) (pieces_of (y ∷ ys ++ Hidden s ∷ [])) (hidden_piece s (offset_of v) ∷ pieces_of (v ∷ vs)) (some ys) where
      some : (ys : List Token) → Some (pieces_of (y ∷ ys ++ Hidden s ∷ []))
      some [] = some_before (is_one_piece y (Hidden s)) y s []
      some (z ∷ zs) = some_before (is_one_piece y z) y (offset_of z) (pieces_of (z ∷ zs ++ Hidden s ∷ []))

-- what closes a part counts by its offset alone
pub pieces-closed : (xs : List Token) (u v : Token) → offset_of u ≡ offset_of v → pieces_of (xs ++ u ∷ []) ≡ pieces_of (xs ++ v ∷ [])
pieces-closed [] u v e = refl
pieces-closed (x ∷ []) u v e = ap {A = ℕ} {B = List Piece} (λ (o : ℕ). record { kind = kind_of x; text = bytes_of x; start = offset_of x; end = o } ∷ []) e
pieces-closed (x ∷ y ∷ ys) u v e = ap (piece_before (is_one_piece x y) x (offset_of y)) (pieces-closed (y ∷ ys) u v e)

-- ---- pieces have bytes

abbrev HasBytes : Piece → Type 0
HasBytes p = 0 < length p.text

token-bytes : (t : Token) → 0 < length (bytes_of t)
token-bytes (Byte o b) = omega arith
token-bytes (InlayByte o id b) = omega arith
token-bytes (Hidden o) = omega arith

pieces-bytes : (ts : List Token) → Every HasBytes (pieces_of ts)
pieces-bytes [] = tt
pieces-bytes (t ∷ []) = tt
pieces-bytes (t ∷ u ∷ us) = go (is_one_piece t u) (pieces_of (u ∷ us)) (pieces-bytes (u ∷ us)) where
  go : (c : Bool) (ps : List Piece) → Every HasBytes ps → Every HasBytes (piece_before c t (offset_of u) ps)
  go c [] h = (token-bytes t, tt)
  go true (p ∷ ps) h = (omega (arith, h.0, length-append (bytes_of t) p.text), h.1)
  go false (p ∷ ps) h = (token-bytes t, h)

front-none : (ps : List Piece) → Every HasBytes ps → front_pieces 0 ps ≡ []
front-none [] h = refl
front-none (p ∷ ps) h = ap (λ (c : Bool). cond c (p ∷ front_pieces (0 - length p.text) ps) []) (lt-leb (length p.text) 0 h.0)

rest-all : (ps : List Piece) → Every HasBytes ps → rest_pieces 0 ps ≡ ps
rest-all [] h = refl
rest-all (p ∷ ps) h = ap (λ (c : Bool). cond c (rest_pieces (0 - length p.text) ps) (p ∷ ps)) (lt-leb (length p.text) 0 h.0)

-- ---- one piece kept, or cut

front-kept : (n : ℕ) (p : Piece) (ps : List Piece) → length p.text ≤ n → front_pieces n (p ∷ ps) ≡ p ∷ front_pieces (n - length p.text) ps
front-kept n p ps le = ap (λ (c : Bool). cond c (p ∷ front_pieces (n - length p.text) ps) (cond (eqb n 0) [] (piece_front n p ∷ []))) (le-leb (length p.text) n le)

front-cut : (n : ℕ) (p : Piece) (ps : List Piece) → n < length p.text → 0 < n → front_pieces n (p ∷ ps) ≡ piece_front n p ∷ []
front-cut n p ps lt some =
    ap (λ (c : Bool). cond c (p ∷ front_pieces (n - length p.text) ps) (cond (eqb n 0) [] (piece_front n p ∷ []))) (lt-leb (length p.text) n lt)
    ∙ ap (λ (c : Bool). cond c [] (piece_front n p ∷ [])) (ne_eqb n 0 (λ e. omega (arith, e, some)))

rest-kept : (n : ℕ) (p : Piece) (ps : List Piece) → length p.text ≤ n → rest_pieces n (p ∷ ps) ≡ rest_pieces (n - length p.text) ps
rest-kept n p ps le = ap (λ (c : Bool). cond c (rest_pieces (n - length p.text) ps) (cond (eqb n 0) (p ∷ ps) (piece_rest n p ∷ ps))) (le-leb (length p.text) n le)

rest-cut : (n : ℕ) (p : Piece) (ps : List Piece) → n < length p.text → 0 < n → rest_pieces n (p ∷ ps) ≡ piece_rest n p ∷ ps
rest-cut n p ps lt some =
    ap (λ (c : Bool). cond c (rest_pieces (n - length p.text) ps) (cond (eqb n 0) (p ∷ ps) (piece_rest n p ∷ ps))) (lt-leb (length p.text) n lt)
    ∙ ap (λ (c : Bool). cond c (p ∷ ps) (piece_rest n p ∷ ps)) (ne_eqb n 0 (λ e. omega (arith, e, some)))

-- ---- a token of one piece with the next

-- a token that is of one piece with the next has one byte, and the next piece starts where the token says
record Joins (t : Token) (q : Piece) : Type 0 where
  byte : ℕ
  is : bytes_of t ≡ byte ∷ []
  moves : (n : ℕ) → offset_in q.kind (offset_of t) (suc n) ≡ offset_in q.kind q.start n

joins : (text : List ℕ) (t u : Token) (q : Piece) → is_one_piece t u ≡ true → Next text t u → q.start ≡ offset_of u → q.kind ≡ kind_of u → Joins t q
joins text (Byte o b) (Byte p c) q e n at kind = record {
  byte = b;
  is = refl;
  moves = λ k.
      ap (λ k'. offset_in k' o (suc k)) kind
      ∙ (let same : o + suc k ≡ q.start + k = omega (arith, at, n.2) in same)
      ∙ ap (λ k'. offset_in k' q.start k) (sym kind);
}
joins text (InlayByte o id b) (InlayByte p id' c) q e n at kind = record {
  byte = b;
  is = refl;
  moves = λ k.
      ap (λ k'. offset_in k' o (suc k)) kind
      ∙ (let same : o ≡ q.start = sym (at ∙ n) in same)
      ∙ ap (λ k'. offset_in k' q.start k) (sym kind);
}
joins text (Byte o b) (InlayByte p id c) q e n at kind = absurd (false≢true e)
joins text (Byte o b) (Hidden p) q e n at kind = absurd (false≢true e)
joins text (InlayByte o id b) (Byte p c) q e n at kind = absurd (false≢true e)
joins text (InlayByte o id b) (Hidden p) q e n at kind = absurd (false≢true e)
joins text (Hidden o) u q e n at kind = absurd (false≢true e)

offset_none : (q : Piece) → offset_in q.kind q.start 0 ≡ q.start
offset_none q = go q.kind where
  go : (k : _) → offset_in k q.start 0 ≡ q.start
  go Buffer = omega arith
  go (Inlay id) = refl
  go Placeholder = refl

-- the piece of a token by itself, and joined to the next piece
abbrev lone : Token → ℕ → Piece
lone t end = record { kind = kind_of t; text = bytes_of t; start = offset_of t; end = end }

abbrev merged : Token → Piece → Piece
merged t q = record { kind = q.kind; text = bytes_of t ++ q.text; start = offset_of t; end = q.end }

length-merged : (t : Token) (q : Piece) → Joins t q → length (merged t q).text ≡ 1 + length q.text
length-merged t q j = ap (λ (l : List ℕ). length (l ++ q.text)) j.is ∙ (let e : suc (length q.text) ≡ 1 + length q.text = omega arith in e)

front-merged : (t : Token) (q : Piece) (m : ℕ) → Joins t q → piece_front (suc m) (merged t q) ≡ record { kind = q.kind; text = bytes_of t ++ take m q.text; start = offset_of t; end = offset_in q.kind q.start m }
front-merged t q m j = λ i. record { kind = q.kind; text = text i; start = offset_of t; end = j.moves m i } where
  text : take (suc m) (bytes_of t ++ q.text) ≡ bytes_of t ++ take m q.text
  text = ap (λ (l : List ℕ). take (suc m) (l ++ q.text)) j.is ∙ ap (λ (l : List ℕ). l ++ take m q.text) (sym j.is)

rest-merged : (t : Token) (q : Piece) (m : ℕ) → Joins t q → piece_rest (suc m) (merged t q) ≡ piece_rest m q
rest-merged t q m j = λ i. record { kind = q.kind; text = text i; start = j.moves m i; end = q.end } where
  text : drop (suc m) (bytes_of t ++ q.text) ≡ drop m q.text
  text = ap (λ (l : List ℕ). drop (suc m) (l ++ q.text)) j.is

module _ (text : List ℕ) where
  one_byte : (t : Token) (q : Piece) → Joins t q → length (bytes_of t) ≡ 1
  one_byte t q j = ap length j.is

  -- ---- one token more

  front-more : (x y : Token) → Next text x y → (c : Bool) → is_one_piece x y ≡ c → (m n : ℕ) → n ≡ length (bytes_of x) + m → 0 < m → (ps : List Piece) → First y ps →
      piece_before c x (offset_of y) (front_pieces m ps) ≡ front_pieces n (piece_before c x (offset_of y) ps)
  front-more x y next c e m n sum some [] f = sym (front-kept n (lone x (offset_of y)) [] (omega arith))
  front-more x y next false e m n sum some (q ∷ qs) f =
      let left : n - length (bytes_of x) ≡ m = omega arith in
      before_other x (offset_of y) (front_pieces m (q ∷ qs))
      ∙ ap (λ (k : ℕ). lone x (offset_of y) ∷ front_pieces k (q ∷ qs)) (sym left)
      ∙ sym (front-kept n (lone x (offset_of y)) (q ∷ qs) (omega arith))
  front-more x y next true e m n sum some (q ∷ qs) f = go (cases_lt m (length q.text)) where
    j : Joins x q
    j = joins text x y q e next f.0 f.1

    go : (m < length q.text) ⊎ (length q.text ≤ m) → piece_before true x (offset_of y) (front_pieces m (q ∷ qs)) ≡ front_pieces n (merged x q ∷ qs)
    go (inr le) =
        let left : m - length q.text ≡ n - length (merged x q).text = omega (arith, sum, one_byte x q j, length-merged x q j) in
        ap (piece_before true x (offset_of y)) (front-kept m q qs le)
        ∙ ap (λ (k : ℕ). merged x q ∷ front_pieces k qs) left
        ∙ sym (front-kept n (merged x q) qs (omega (arith, sum, one_byte x q j, length-merged x q j, le)))
    go (inl lt) =
        let next_m : n ≡ suc m = omega (arith, sum, one_byte x q j) in
        ap (piece_before true x (offset_of y)) (front-cut m q qs lt some)
        ∙ ap (λ (p : Piece). p ∷ []) (sym (front-merged x q m j))
        ∙ ap (λ (k : ℕ). piece_front k (merged x q) ∷ []) (sym next_m)
        ∙ sym (front-cut n (merged x q) qs (omega (arith, sum, one_byte x q j, length-merged x q j, lt)) (omega (arith, sum, some)))

  rest-more : (x y : Token) → Next text x y → (c : Bool) → is_one_piece x y ≡ c → (m n : ℕ) → n ≡ length (bytes_of x) + m → 0 < m → (ps : List Piece) → First y ps →
      rest_pieces m ps ≡ rest_pieces n (piece_before c x (offset_of y) ps)
  rest-more x y next c e m n sum some [] f = sym (rest-kept n (lone x (offset_of y)) [] (omega arith))
  rest-more x y next false e m n sum some (q ∷ qs) f =
      let left : m ≡ n - length (bytes_of x) = omega arith in
      ap (λ (k : ℕ). rest_pieces k (q ∷ qs)) left ∙ sym (rest-kept n (lone x (offset_of y)) (q ∷ qs) (omega arith))
  rest-more x y next true e m n sum some (q ∷ qs) f = go (cases_lt m (length q.text)) where
    j : Joins x q
    j = joins text x y q e next f.0 f.1

    go : (m < length q.text) ⊎ (length q.text ≤ m) → rest_pieces m (q ∷ qs) ≡ rest_pieces n (merged x q ∷ qs)
    go (inr le) =
        let left : m - length q.text ≡ n - length (merged x q).text = omega (arith, sum, one_byte x q j, length-merged x q j) in
        rest-kept m q qs le
        ∙ ap (λ (k : ℕ). rest_pieces k qs) left
        ∙ sym (rest-kept n (merged x q) qs (omega (arith, sum, one_byte x q j, length-merged x q j, le)))
    go (inl lt) =
        let next_m : n ≡ suc m = omega (arith, sum, one_byte x q j) in
        rest-cut m q qs lt some
        ∙ ap (λ (p : Piece). p ∷ qs) (sym (rest-merged x q m j))
        ∙ ap (λ (k : ℕ). piece_rest k (merged x q) ∷ qs) (sym next_m)
        ∙ sym (rest-cut n (merged x q) qs (omega (arith, sum, one_byte x q j, length-merged x q j, lt)) (omega (arith, sum, some)))

  -- ---- the first token

  front-one : (x u : Token) → Next text x u → (c : Bool) → is_one_piece x u ≡ c → (n : ℕ) → n ≡ length (bytes_of x) → (ps : List Piece) → Every HasBytes ps → First u ps →
      lone x (offset_of u) ∷ [] ≡ front_pieces n (piece_before c x (offset_of u) ps)
  front-one x u next c e n sum [] h f = sym (front-kept n (lone x (offset_of u)) [] (omega arith))
  front-one x u next false e n sum (q ∷ qs) h f =
      let none : n - length (bytes_of x) ≡ 0 = omega arith in
      ap (λ (l : List Piece). lone x (offset_of u) ∷ l) (sym (front-none (q ∷ qs) h) ∙ ap (λ (k : ℕ). front_pieces k (q ∷ qs)) (sym none))
      ∙ sym (front-kept n (lone x (offset_of u)) (q ∷ qs) (omega arith))
  front-one x u next true e n sum (q ∷ qs) h f =
      let j = joins text x u q e next f.0 f.1 in
      let one : n ≡ suc 0 = omega (arith, sum, one_byte x q j) in
      let kind : kind_of x ≡ q.kind = one_kind x u e ∙ sym f.1 in
      let end : offset_of u ≡ offset_in q.kind q.start 0 = sym f.0 ∙ sym (offset_none q) in
      let text_is : bytes_of x ≡ bytes_of x ++ take 0 q.text = sym (append-nil (bytes_of x)) in
      (λ i. record { kind = kind i; text = text_is i; start = offset_of x; end = end i } ∷ [])
      ∙ ap (λ (p : Piece). p ∷ []) (sym (front-merged x q 0 j))
      ∙ ap (λ (k : ℕ). piece_front k (merged x q) ∷ []) (sym one)
      ∙ sym (front-cut n (merged x q) qs (omega (arith, one, length-merged x q j, h.0)) (omega (arith, one)))

  rest-one : (x u : Token) → Next text x u → (c : Bool) → is_one_piece x u ≡ c → (n : ℕ) → n ≡ length (bytes_of x) → (ps : List Piece) → Every HasBytes ps → First u ps →
      ps ≡ rest_pieces n (piece_before c x (offset_of u) ps)
  rest-one x u next c e n sum [] h f = sym (rest-kept n (lone x (offset_of u)) [] (omega arith))
  rest-one x u next false e n sum (q ∷ qs) h f =
      let none : n - length (bytes_of x) ≡ 0 = omega arith in
      sym (rest-all (q ∷ qs) h) ∙ ap (λ (k : ℕ). rest_pieces k (q ∷ qs)) (sym none) ∙ sym (rest-kept n (lone x (offset_of u)) (q ∷ qs) (omega arith))
  rest-one x u next true e n sum (q ∷ qs) h f =
      let j = joins text x u q e next f.0 f.1 in
      let one : n ≡ suc 0 = omega (arith, sum, one_byte x q j) in
      (λ i. record { kind = q.kind; text = q.text; start = sym (offset_none q) i; end = q.end } ∷ qs)
      ∙ ap (λ (p : Piece). p ∷ qs) (sym (rest-merged x q 0 j))
      ∙ ap (λ (k : ℕ). piece_rest k (merged x q) ∷ qs) (sym one)
      ∙ sym (rest-cut n (merged x q) qs (omega (arith, one, length-merged x q j, h.0)) (omega (arith, one)))

  -- ---- a line cut in two

  abbrev size : List Token → ℕ
  size ts = length (flat_map bytes_of ts)

  some_size : (y : Token) (ys : List Token) → 0 < size (y ∷ ys)
  some_size y ys = omega (arith, token-bytes y, length-append (bytes_of y) (flat_map bytes_of ys))

  one_size : (x : Token) → size (x ∷ []) ≡ length (bytes_of x)
  one_size x = ap length (append-nil (bytes_of x))

  -- the pieces of a line's prefix are those of the line up to as many bytes
  pub front-pieces : (xs : List Token) (u : Token) (us : List Token) → Goes text (xs ++ u ∷ us) →
      pieces_of (xs ++ u ∷ []) ≡ front_pieces (size xs) (pieces_of (xs ++ u ∷ us))
  front-pieces [] u us g = sym (front-none (pieces_of (u ∷ us)) (pieces-bytes (u ∷ us)))
  front-pieces (x ∷ []) u us g =
      front-one x u g.0 (is_one_piece x u) refl (size (x ∷ [])) (one_size x) (pieces_of (u ∷ us)) (pieces-bytes (u ∷ us)) (first-piece u us)
  front-pieces (x ∷ y ∷ ys) u us g =
      ap (piece_before (is_one_piece x y) x (offset_of y)) (front-pieces (y ∷ ys) u us g.1)
      ∙ front-more x y g.0 (is_one_piece x y) refl (size (y ∷ ys)) (size (x ∷ y ∷ ys)) (length-append (bytes_of x) (flat_map bytes_of (y ∷ ys))) (some_size y ys) (pieces_of (y ∷ ys ++ u ∷ us)) (first-piece y (ys ++ u ∷ us))

  -- and those of the rest are those from there on
  pub rest-pieces : (xs : List Token) (u : Token) (us : List Token) → Goes text (xs ++ u ∷ us) →
      pieces_of (u ∷ us) ≡ rest_pieces (size xs) (pieces_of (xs ++ u ∷ us))
  rest-pieces [] u us g = sym (rest-all (pieces_of (u ∷ us)) (pieces-bytes (u ∷ us)))
  rest-pieces (x ∷ []) u us g =
      rest-one x u g.0 (is_one_piece x u) refl (size (x ∷ [])) (one_size x) (pieces_of (u ∷ us)) (pieces-bytes (u ∷ us)) (first-piece u us)
  rest-pieces (x ∷ y ∷ ys) u us g =
      rest-pieces (y ∷ ys) u us g.1
      ∙ rest-more x y g.0 (is_one_piece x y) refl (size (y ∷ ys)) (size (x ∷ y ∷ ys)) (length-append (bytes_of x) (flat_map bytes_of (y ∷ ys))) (some_size y ys) (pieces_of (y ∷ ys ++ u ∷ us)) (first-piece y (ys ++ u ∷ us))
