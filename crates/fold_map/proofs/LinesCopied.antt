-- What is copied of a line's pieces from one place to another: the prefix of the rest of them.
use Rattle.std.proofs.Common.{◌≡◌, ℕ, ◌+◌, ◌-◌, ◌<◌, ◌≤◌, ◌⊎◌, min, max, Bool, cond, eqb, ltb, List, [], ◌∷◌, ◌++◌, length, take, drop, flat_map, refl, sym, ap, ◌∙◌, subst, inl, inr, arith, append-nil, append_assoc, length-append, take_all}
use Rattle.std.proofs.lemmas.Bool.{cases_lt, le-leb, le-ltb, lt-leb, lt-ltb, ne_eqb}
use Rattle.std.proofs.lemmas.List.{length-drop}
use Rattle.cell_units.specs.declared.piece.Piece.{Piece}
use Rattle.cell_units.specs.declared.piece.PieceKind.TheVariants.{Buffer, Inlay, Placeholder}
use Rattle.cell_units.specs.Folding.{front_pieces, offset_in, piece_front, piece_rest, rest_pieces}
use Rattle.cell_units.proofs.CutLists.{Every}
use Rattle.fold_map.specs.LinePieces.{cut_piece}

abbrev pub HasBytes : Piece → Type 0
HasBytes p = 0 < length p.text

-- of the piece that begins at a place
abbrev pub copied_one : ℕ → ℕ → ℕ → Piece → List Piece
copied_one from to begin p = cond (ltb (max from begin) (min to (begin + length p.text))) (cut_piece (max from begin - begin) (min to (begin + length p.text) - begin) p ∷ []) []

-- of the pieces of which the first begins there
abbrev pub copied : ℕ → ℕ → ℕ → List Piece → List Piece
copied from to begin [] = []
copied from to begin (p ∷ ps) = copied_one from to begin p ++ copied from to (begin + length p.text) ps

pub copied-more : (from to begin : ℕ) (ps : List Piece) (p : Piece) → copied from to begin (ps ++ p ∷ []) ≡ copied from to begin ps ++ copied_one from to (begin + length (flat_map (λ q. q.text) ps)) p
copied-more from to begin [] p =
    let same : begin ≡ begin + 0 = omega arith in
    append-nil (copied_one from to begin p) ∙ ap (λ (k : ℕ). copied_one from to k p) same
copied-more from to begin (q ∷ qs) p =
    let same : begin + length q.text + length (flat_map (λ r. r.text) qs) ≡ begin + length (flat_map (λ r. r.text) (q ∷ qs)) = omega (arith, length-append q.text (flat_map (λ r. r.text) qs)) in
    ap (λ (l : List Piece). copied_one from to begin q ++ l) (copied-more from to (begin + length q.text) qs p ∙ ap (λ (k : ℕ). copied from to (begin + length q.text) qs ++ copied_one from to k p) same)
    ∙ sym (append_assoc (copied_one from to begin q) (copied from to (begin + length q.text) qs) (copied_one from to (begin + length (flat_map (λ r. r.text) (q ∷ qs))) p))

none-one : (from to begin : ℕ) (p : Piece) → min to (begin + length p.text) ≤ max from begin → copied_one from to begin p ≡ []
none-one from to begin p le = ap (λ (b : Bool). cond b (cut_piece (max from begin - begin) (min to (begin + length p.text) - begin) p ∷ []) []) (le-ltb (max from begin) (min to (begin + length p.text)) le)

some-one : (from to begin : ℕ) (p : Piece) → max from begin < min to (begin + length p.text) → copied_one from to begin p ≡ cut_piece (max from begin - begin) (min to (begin + length p.text) - begin) p ∷ []
some-one from to begin p lt = ap (λ (b : Bool). cond b (cut_piece (max from begin - begin) (min to (begin + length p.text) - begin) p ∷ []) []) (lt-ltb (max from begin) (min to (begin + length p.text)) lt)

none-copied : (from to begin : ℕ) (ps : List Piece) → to ≤ begin → copied from to begin ps ≡ []
none-copied from to begin [] le = refl
none-copied from to begin (p ∷ ps) le = (λ i. none-one from to begin p (omega (arith, le)) i ++ none-copied from to (begin + length p.text) ps (omega (arith, le)) i)

-- ---- prefixes and rests

front-none : (ps : List Piece) → Every HasBytes ps → front_pieces 0 ps ≡ []
front-none [] h = refl
front-none (p ∷ ps) h = ap (λ (c : Bool). cond c (p ∷ front_pieces (0 - length p.text) ps) []) (lt-leb (length p.text) 0 h.0)

rest-all : (ps : List Piece) → Every HasBytes ps → rest_pieces 0 ps ≡ ps
rest-all [] h = refl
rest-all (p ∷ ps) h = ap (λ (c : Bool). cond c (rest_pieces (0 - length p.text) ps) (p ∷ ps)) (lt-leb (length p.text) 0 h.0)

front-kept : (n : ℕ) (p : Piece) (ps : List Piece) → length p.text ≤ n → front_pieces n (p ∷ ps) ≡ p ∷ front_pieces (n - length p.text) ps
front-kept n p ps le = ap (λ (c : Bool). cond c (p ∷ front_pieces (n - length p.text) ps) (cond (eqb n 0) [] (piece_front n p ∷ []))) (le-leb (length p.text) n le)

front-cut : (n : ℕ) (p : Piece) (ps : List Piece) → n < length p.text → 0 < n → front_pieces n (p ∷ ps) ≡ piece_front n p ∷ []
front-cut n p ps lt some =
    ap (λ (c : Bool). cond c (p ∷ front_pieces (n - length p.text) ps) (cond (eqb n 0) [] (piece_front n p ∷ []))) (lt-leb (length p.text) n lt)
    ∙ ap (λ (c : Bool). cond c [] (piece_front n p ∷ [])) (ne_eqb n 0 (λ e. omega (arith, e, some)))

rest-kept : (n : ℕ) (p : Piece) (ps : List Piece) → length p.text ≤ n → rest_pieces n (p ∷ ps) ≡ rest_pieces (n - length p.text) ps
rest-kept n p ps le = ap (λ (c : Bool). cond c (rest_pieces (n - length p.text) ps) (cond (eqb n 0) (p ∷ ps) (piece_rest n p ∷ ps))) (le-leb (length p.text) n le)

rest-cut : (n : ℕ) (p : Piece) (ps : List Piece) → n < length p.text → 0 < n → rest_pieces n (p ∷ ps) ≡ piece_rest n p ∷ ps
rest-cut n p ps lt some =
    ap (λ (c : Bool). cond c (rest_pieces (n - length p.text) ps) (cond (eqb n 0) (p ∷ ps) (piece_rest n p ∷ ps))) (lt-leb (length p.text) n lt)
    ∙ ap (λ (c : Bool). cond c (p ∷ ps) (piece_rest n p ∷ ps)) (ne_eqb n 0 (λ e. omega (arith, e, some)))

-- ---- a piece cut out

offset-none : (p : Piece) → offset_in p.kind p.start 0 ≡ p.start
offset-none p = go p.kind where
  go : (k : _) → offset_in k p.start 0 ≡ p.start
  go Buffer = omega arith
  go (Inlay id) = refl
  go Placeholder = refl

offset-more : (p : Piece) (a b : ℕ) → a ≤ b → offset_in p.kind p.start b ≡ offset_in p.kind (offset_in p.kind p.start a) (b - a)
offset-more p a b le = go p.kind where
  go : (k : _) → offset_in k p.start b ≡ offset_in k (offset_in k p.start a) (b - a)
  go Buffer = omega (arith, le)
  go (Inlay id) = refl
  go Placeholder = refl

cut-all : (p : Piece) → cut_piece 0 (length p.text) p ≡ p
cut-all p = λ i. record { kind = p.kind; text = text i; start = offset-none p i; end = ap (λ (b : Bool). cond b (offset_in p.kind p.start (length p.text)) p.end) (le-ltb (length p.text) (length p.text) (omega arith)) i } where
  text : take (length p.text - 0) (drop 0 p.text) ≡ p.text
  text = take_all (length p.text - 0) p.text (omega arith)

cut-front : (p : Piece) (b : ℕ) → b < length p.text → cut_piece 0 b p ≡ piece_front b p
cut-front p b lt =
    let none : b - 0 ≡ b = omega arith in
    λ i. record { kind = p.kind; text = take (none i) p.text; start = offset-none p i; end = ap (λ (c : Bool). cond c (offset_in p.kind p.start b) p.end) (lt-ltb b (length p.text) lt) i }

cut-rest : (p : Piece) (a : ℕ) → a ≤ length p.text → cut_piece a (length p.text) p ≡ piece_rest a p
cut-rest p a le =
    λ i. record {
      kind = p.kind;
      text = take_all (length p.text - a) (drop a p.text) (omega (arith, length-drop a p.text)) i;
      start = offset_in p.kind p.start a;
      end = ap (λ (c : Bool). cond c (offset_in p.kind p.start (length p.text)) p.end) (le-ltb (length p.text) (length p.text) (omega arith)) i;
    }

cut-both : (p : Piece) (a b : ℕ) → a ≤ b → b < length p.text → cut_piece a b p ≡ piece_front (b - a) (piece_rest a p)
cut-both p a b le lt =
    λ i. record {
      kind = p.kind;
      text = take (b - a) (drop a p.text);
      start = offset_in p.kind p.start a;
      end = (ap (λ (c : Bool). cond c (offset_in p.kind p.start b) p.end) (lt-ltb b (length p.text) lt) ∙ offset-more p a b le) i;
    }

-- ---- and so

pub copied-is : (from to begin : ℕ) (ps : List Piece) → from ≤ to → Every HasBytes ps → copied from to begin ps ≡ front_pieces (to - max from begin) (rest_pieces (from - begin) ps)
copied-is from to begin [] order h = refl
copied-is from to begin (p ∷ ps) order h = go (cases_lt from (begin + length p.text)) (cases_lt begin from) (cases_lt to (begin + length p.text)) (cases_lt begin to) (copied-is from to (begin + length p.text) ps order h.1) where
  go : (from < begin + length p.text) ⊎ (begin + length p.text ≤ from) → (begin < from) ⊎ (from ≤ begin) → (to < begin + length p.text) ⊎ (begin + length p.text ≤ to) → (begin < to) ⊎ (to ≤ begin)
      → copied from to (begin + length p.text) ps ≡ front_pieces (to - max from (begin + length p.text)) (rest_pieces (from - (begin + length p.text)) ps)
      → copied_one from to begin p ++ copied from to (begin + length p.text) ps ≡ front_pieces (to - max from begin) (rest_pieces (from - begin) (p ∷ ps))
  -- the piece is before what is copied
  go (inr past) _ _ _ next =
      let one = none-one from to begin p (omega (arith, past)) in
      let left : from - (begin + length p.text) ≡ from - begin - length p.text = omega arith in
      let far : to - max from (begin + length p.text) ≡ to - max from begin = omega (arith, past) in
      (λ i. one i ++ next i)
      ∙ (λ i. front_pieces (far i) (rest_pieces (left i) ps))
      ∙ ap (front_pieces (to - max from begin)) (sym (rest-kept (from - begin) p ps (omega (arith, past))))
  -- what is copied begins inside it
  go (inl here) (inl inside) (inl short) _ next = by (cases_lt from to) where
    rest-is : rest_pieces (from - begin) (p ∷ ps) ≡ piece_rest (from - begin) p ∷ ps
    rest-is = rest-cut (from - begin) p ps (omega (arith, here, inside)) (omega (arith, inside))

    behind : copied from to (begin + length p.text) ps ≡ []
    behind = none-copied from to (begin + length p.text) ps (omega (arith, short))

    by : (from < to) ⊎ (to ≤ from) → copied_one from to begin p ++ copied from to (begin + length p.text) ps ≡ front_pieces (to - max from begin) (rest_pieces (from - begin) (p ∷ ps))
    by (inr none) =
        let zero-left : to - max from begin ≡ 0 = omega (arith, none) in
        (λ i. none-one from to begin p (omega (arith, none, inside)) i ++ behind i)
        ∙ sym (front-none (rest_pieces (from - begin) (p ∷ ps)) (subst (Every HasBytes) (sym rest-is) (omega (arith, length-drop (from - begin) p.text, here, inside), h.1)))
        ∙ (λ i. front_pieces (sym zero-left i) (rest_pieces (from - begin) (p ∷ ps)))
    by (inl some) =
        let first : max from begin - begin ≡ from - begin = omega (arith, inside) in
        let last : min to (begin + length p.text) - begin ≡ to - begin = omega (arith, short) in
        let count : to - begin - (from - begin) ≡ to - max from begin = omega (arith, inside) in
        (λ i. (some-one from to begin p (omega (arith, some, inside, short, here)) ∙ (λ j. cut_piece (first j) (last j) p ∷ []) ∙ ap (λ (q : Piece). q ∷ []) (cut-both p (from - begin) (to - begin) (omega (arith, some)) (omega (arith, short, some, inside)))) i ++ behind i)
        ∙ ap (λ (k : ℕ). piece_front k (piece_rest (from - begin) p) ∷ []) count
        ∙ sym (front-cut (to - max from begin) (piece_rest (from - begin) p) ps (omega (arith, length-drop (from - begin) p.text, short, some, inside)) (omega (arith, some, inside)))
        ∙ ap (front_pieces (to - max from begin)) (sym rest-is)
  go (inl here) (inl inside) (inr full) _ next =
      let rest-is = rest-cut (from - begin) p ps (omega (arith, here, inside)) (omega (arith, inside)) in
      let first : max from begin - begin ≡ from - begin = omega (arith, inside) in
      let last : min to (begin + length p.text) - begin ≡ length p.text = omega (arith, full) in
      let none : from - (begin + length p.text) ≡ 0 = omega (arith, here) in
      let far : to - max from (begin + length p.text) ≡ to - max from begin - length (drop (from - begin) p.text) = omega (arith, here, inside, length-drop (from - begin) p.text) in
      (λ i. (some-one from to begin p (omega (arith, inside, here, full)) ∙ (λ j. cut_piece (first j) (last j) p ∷ []) ∙ ap (λ (q : Piece). q ∷ []) (cut-rest p (from - begin) (omega (arith, here, inside)))) i ++ (next ∙ (λ j. front_pieces (far j) ((ap (λ (k : ℕ). rest_pieces k ps) none ∙ rest-all ps h.1) j))) i)
      ∙ sym (front-kept (to - max from begin) (piece_rest (from - begin) p) ps (omega (arith, length-drop (from - begin) p.text, full, inside)))
      ∙ ap (front_pieces (to - max from begin)) (sym rest-is)
  -- or before it
  go (inl here) (inr before) _ (inr none) next =
      let zero-left : to - max from begin ≡ 0 = omega (arith, none) in
      let zero-rest : from - begin ≡ 0 = omega (arith, before) in
      (λ i. none-one from to begin p (omega (arith, none)) i ++ none-copied from to (begin + length p.text) ps (omega (arith, none)) i)
      ∙ sym (front-none (p ∷ ps) h)
      ∙ (λ i. front_pieces (sym zero-left i) ((sym (rest-all (p ∷ ps) h) ∙ ap (λ (k : ℕ). rest_pieces k (p ∷ ps)) (sym zero-rest)) i))
  go (inl here) (inr before) (inl short) (inl some) next =
      let zero-rest : from - begin ≡ 0 = omega (arith, before) in
      let first : max from begin - begin ≡ 0 = omega (arith, before) in
      let last : min to (begin + length p.text) - begin ≡ to - begin = omega (arith, short) in
      let count : to - begin ≡ to - max from begin = omega (arith, before) in
      (λ i. (some-one from to begin p (omega (arith, before, short, some)) ∙ (λ j. cut_piece (first j) (last j) p ∷ []) ∙ ap (λ (q : Piece). q ∷ []) (cut-front p (to - begin) (omega (arith, short, some)))) i ++ none-copied from to (begin + length p.text) ps (omega (arith, short)) i)
      ∙ ap (λ (k : ℕ). piece_front k p ∷ []) count
      ∙ sym (front-cut (to - max from begin) p ps (omega (arith, short, some, before)) (omega (arith, some, before)))
      ∙ ap (front_pieces (to - max from begin)) (sym (rest-all (p ∷ ps) h) ∙ ap (λ (k : ℕ). rest_pieces k (p ∷ ps)) (sym zero-rest))
  go (inl here) (inr before) (inr full) (inl some) next =
      let zero-rest : from - begin ≡ 0 = omega (arith, before) in
      let first : max from begin - begin ≡ 0 = omega (arith, before) in
      let last : min to (begin + length p.text) - begin ≡ length p.text = omega (arith, full) in
      let none : from - (begin + length p.text) ≡ 0 = omega (arith, here) in
      let far : to - max from (begin + length p.text) ≡ to - max from begin - length p.text = omega (arith, before, here) in
      (λ i. (some-one from to begin p (omega (arith, before, full, h.0, some)) ∙ (λ j. cut_piece (first j) (last j) p ∷ []) ∙ ap (λ (q : Piece). q ∷ []) (cut-all p)) i ++ (next ∙ (λ j. front_pieces (far j) ((ap (λ (k : ℕ). rest_pieces k ps) none ∙ rest-all ps h.1) j))) i)
      ∙ sym (front-kept (to - max from begin) p ps (omega (arith, full, before)))
      ∙ ap (front_pieces (to - max from begin)) (sym (rest-all (p ∷ ps) h) ∙ ap (λ (k : ℕ). rest_pieces k (p ∷ ps)) (sym zero-rest))
