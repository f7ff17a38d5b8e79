-- A place between two tokens of a line parts its pieces, where the offset of the later one is the place's.
use Rattle.std.proofs.Common.{◌≡◌, ◌⊎◌, ℕ, ◌+◌, ◌<◌, ◌≤◌, Bool, true, false, List, [], ◌∷◌, ◌++◌, length, refl, sym, ap, subst, ◌∙◌, inl, inr, arith, length-append}
use Rattle.std.specs.List.{flat_map}
use Rattle.std.proofs.lemmas.Bool.{false≢true}
use Rattle.cell_units.specs.declared.piece.Piece.{Piece}
use Rattle.cell_units.specs.declared.piece.PieceKind.TheVariants.{Buffer, Inlay, Placeholder}
use Rattle.cell_units.specs.Inlaid.{Byte, Hidden, InlayByte, Token, bytes_of, offset_of}
use Rattle.cell_units.specs.Pieces.{is_one_piece, kind_of, piece_before, pieces_of}
use Rattle.cell_units.proofs.BufferPieces.{First, Goes, Next, first-piece}
use Rattle.cell_units.proofs.CutLists.{Every}
use Rattle.row_pieces.proofs.SplitPieces.{AtStart, Inside, Past, Splits}

-- ---- pieces begin at or after an offset, and none is empty

after-before : (o : ℕ) (b : Bool) (t : Token) (end : ℕ) (ps : List Piece) → o ≤ offset_of t → Every (λ p. o ≤ p.start) ps → Every (λ p. o ≤ p.start) (piece_before b t end ps)
after-before o b t end [] le h = (le, tt)
after-before o true t end (p ∷ ps) le h = (le, h.1)
after-before o false t end (p ∷ ps) le h = (le, h)

pieces-after : (o : ℕ) (ts : List Token) → Every (λ t. o ≤ offset_of t) ts → Every (λ p. o ≤ p.start) (pieces_of ts)
pieces-after o [] h = tt
pieces-after o (t ∷ []) h = tt
pieces-after o (t ∷ u ∷ us) h = after-before o (is_one_piece t u) t (offset_of u) (pieces_of (u ∷ us)) h.0 (pieces-after o (u ∷ us) h.1)

some-bytes : (t : Token) → 0 < length (bytes_of t)
some-bytes (Byte o b) = omega arith
some-bytes (InlayByte o id b) = omega arith
some-bytes (Hidden o) = omega arith

-- ---- a token before pieces

buffer-end : (text : List ℕ) (t u : Token) (o : ℕ) → Next text t u → offset_of u ≤ o → kind_of t ≡ Buffer → offset_of t + length (bytes_of t) ≤ o
buffer-end text (Byte a b) u o next le is = omega (arith, next.2, le)
buffer-end text (InlayByte a id b) u o next le is = absurd (cc is)
buffer-end text (Hidden a) u o next le is = absurd (cc is)

module _ (text : List ℕ) (o : ℕ) where
  abbrev one : Token → ℕ → Piece
  one t end = record { kind = kind_of t; text = bytes_of t; start = offset_of t; end = end }

  alone : (t u : Token) (ps : List Piece) (n : ℕ) → Next text t u → offset_of u ≤ o → Splits o ps n → Splits o (one t (offset_of u) ∷ ps) (length (bytes_of t) + n)
  alone t u ps n next le s = Past (one t (offset_of u)) ps n le (buffer-end text t u o next le) s

  abbrev with : Token → Piece → Piece
  with t q = record { kind = q.kind; text = bytes_of t ++ q.text; start = offset_of t; end = q.end }

  byte-joins : (a b : ℕ) (u : Token) (q : Piece) (qs : List Piece) (n : ℕ) → Next text (Byte a b) u → offset_of u ≤ o → q.kind ≡ Buffer → q.start ≡ offset_of u → 0 < length q.text →
      Splits o (q ∷ qs) n → Splits o (with (Byte a b) q ∷ qs) (1 + n)
  byte-joins a b u q qs n next le is first some (AtStart _ h) =
      Inside (with (Byte a b) q) qs 1 is (omega (arith, next.2, le, first, h.0)) (omega (arith, some)) h.1
  byte-joins a b u q qs n next le is first some (Inside _ _ _ _ at lt h) =
      Inside (with (Byte a b) q) qs (1 + n) is (omega (arith, at, first, next.2)) (omega (arith, lt)) h
  byte-joins a b u q qs n next le is first some (Past _ _ k end from s) =
      let size : length (b ∷ q.text) + k ≡ 1 + (length q.text + k) = omega arith in
      subst (Splits o (with (Byte a b) q ∷ qs)) size
      (Past (with (Byte a b) q) qs k end (λ same. omega (arith, from same, first, next.2)) s)

  inlay-joins : (a id b : ℕ) (q : Piece) (qs : List Piece) (n : ℕ) → (q.kind ≡ Buffer → ⊥) → (n ≡ 0 → ⊥) →
      Splits o (q ∷ qs) n → Splits o (with (InlayByte a id b) q ∷ qs) (1 + n)
  inlay-joins a id b q qs n other some (AtStart _ h) = absurd (some refl)
  inlay-joins a id b q qs n other some (Inside _ _ _ is at lt h) = absurd (other is)
  inlay-joins a id b q qs n other some (Past _ _ k end from s) =
      let size : length (b ∷ q.text) + k ≡ 1 + (length q.text + k) = omega arith in
      subst (Splits o (with (InlayByte a id b) q ∷ qs)) size
      (Past (with (InlayByte a id b) q) qs k end (λ same. absurd (other same)) s)

  joins : (t u : Token) (q : Piece) (qs : List Piece) (n : ℕ) → is_one_piece t u ≡ true → Next text t u → offset_of u ≤ o → q.kind ≡ kind_of u → q.start ≡ offset_of u → 0 < length q.text → (n ≡ 0 → kind_of t ≡ Buffer) →
      Splits o (q ∷ qs) n → Splits o (with t q ∷ qs) (length (bytes_of t) + n)
  joins (Byte a b) (Byte p c) q qs n e next le is first some start s = byte-joins a b (Byte p c) q qs n next le is first some s
  joins (InlayByte a id b) (InlayByte p id' c) q qs n e next le is first some start s =
      inlay-joins a id b q qs n (λ same. cc (sym is ∙ same)) (λ none. cc (start none)) s
  joins (Byte a b) (InlayByte p id c) q qs n e next le is first some start s = absurd (false≢true e)
  joins (Byte a b) (Hidden p) q qs n e next le is first some start s = absurd (false≢true e)
  joins (InlayByte a id b) (Byte p c) q qs n e next le is first some start s = absurd (false≢true e)
  joins (InlayByte a id b) (Hidden p) q qs n e next le is first some start s = absurd (false≢true e)
  joins (Hidden a) u q qs n e next le is first some start s = absurd (false≢true e)

  put : (t u : Token) (ps : List Piece) (n : ℕ) → First u ps → Every (λ p. 0 < length p.text) ps → Next text t u → offset_of u ≤ o → (n ≡ 0 → is_one_piece t u ≡ true → kind_of t ≡ Buffer) → Splits o ps n →
      Splits o (piece_before (is_one_piece t u) t (offset_of u) ps) (length (bytes_of t) + n)
  put t u ps n first some next le start s = go (is_one_piece t u) refl ps first some s where
    go : (b : Bool) → is_one_piece t u ≡ b → (ps : List Piece) → First u ps → Every (λ p. 0 < length p.text) ps → Splits o ps n → Splits o (piece_before b t (offset_of u) ps) (length (bytes_of t) + n)
    go b e [] first some s = alone t u [] n next le s
    go false e (q ∷ qs) first some s = alone t u (q ∷ qs) n next le s
    go true e (q ∷ qs) first some s = joins t u q qs n e next le first.1 first.0 some.0 (λ none. start none e) s

-- no piece is empty
some-before : (b : Bool) (t : Token) (end : ℕ) (ps : List Piece) → Every (λ p. 0 < length p.text) ps → Every (λ p. 0 < length p.text) (piece_before b t end ps)
some-before b t end [] h = (some-bytes t, tt)
some-before true t end (p ∷ ps) h = (omega (arith, some-bytes t, length-append (bytes_of t) p.text), h.1)
some-before false t end (p ∷ ps) h = (some-bytes t, h)

some-pieces : (ts : List Token) → Every (λ p. 0 < length p.text) (pieces_of ts)
some-pieces [] = tt
some-pieces (t ∷ []) = tt
some-pieces (t ∷ u ∷ us) = some-before (is_one_piece t u) t (offset_of u) (pieces_of (u ∷ us)) (some-pieces (u ∷ us))

-- ---- a place between tokens

-- the token is of no inlay
abbrev pub IsOwn : Token → Type 0
IsOwn (Byte o b) = Unit {0}
IsOwn (InlayByte o id b) = ⊥
IsOwn (Hidden o) = Unit {0}

-- a token that is one piece with the one at the place is a byte of the buffer
byte-there : (text : List ℕ) (t z : Token) (o : ℕ) → Next text t z → offset_of z ≡ o → (IsOwn z ⊎ (offset_of t < o)) → is_one_piece t z ≡ true → kind_of t ≡ Buffer
byte-there text (Byte a b) z o next at own e = refl
byte-there text (InlayByte a id b) (InlayByte p id' c) o next at (inl own) e = absurd own
byte-there text (InlayByte a id b) (InlayByte p id' c) o next at (inr less) e = absurd (omega (arith, next, at, less))
byte-there text (InlayByte a id b) (Byte p c) o next at own e = absurd (false≢true e)
byte-there text (InlayByte a id b) (Hidden p) o next at own e = absurd (false≢true e)
byte-there text (Hidden a) z o next at own e = absurd (false≢true e)

abbrev bytes : List Token → ℕ
bytes ts = length (flat_map bytes_of ts)

-- tokens before the place, of which those that come last have lesser offsets or it has a token of its own
pub split : (text : List ℕ) (o : ℕ) (before : List Token) (z : Token) (rest : List Token) → Goes text (before ++ z ∷ rest) → offset_of z ≡ o → Every (λ t. offset_of t ≤ o) before → Every (λ t. o ≤ offset_of t) rest →
    (IsOwn z ⊎ Every (λ t. offset_of t < o) before) → Splits o (pieces_of (before ++ z ∷ rest)) (length (flat_map bytes_of before))
split text o [] z rest goes at low high own = AtStart (pieces_of (z ∷ rest)) (pieces-after o (z ∷ rest) (omega (arith, at), high))
split text o (t ∷ []) z rest goes at low high own =
    let size : length (bytes_of t) + 0 ≡ length (bytes_of t ++ []) = omega (arith, length-append (bytes_of t) []) in
    subst (Splits o (piece_before (is_one_piece t z) t (offset_of z) (pieces_of (z ∷ rest)))) size
    (put text o t z (pieces_of (z ∷ rest)) 0 (first-piece z rest) (some-pieces (z ∷ rest)) goes.0 (omega (arith, at)) (λ none e. byte-there text t z o goes.0 at (last own) e)
    (split text o [] z rest goes.1 at tt high (none own))) where
      last : (IsOwn z ⊎ Every (λ t. offset_of t < o) (t ∷ [])) → IsOwn z ⊎ (offset_of t < o)
      last (inl is) = inl is
      last (inr less) = inr less.0

      none : (IsOwn z ⊎ Every (λ t. offset_of t < o) (t ∷ [])) → IsOwn z ⊎ Every (λ t. offset_of t < o) []
      none (inl is) = inl is
      none (inr less) = inr tt
split text o (t ∷ v ∷ vs) z rest goes at low high own =
    let n = bytes (v ∷ vs) in
    let some : 0 < n = omega (arith, some-bytes v, length-append (bytes_of v) (flat_map bytes_of vs)) in
    let size : length (bytes_of t) + n ≡ length (bytes_of t ++ flat_map bytes_of (v ∷ vs)) = sym (length-append (bytes_of t) (flat_map bytes_of (v ∷ vs))) in
    subst (Splits o (piece_before (is_one_piece t v) t (offset_of v) (pieces_of (v ∷ (vs ++ z ∷ rest))))) size
    (put text o t v (pieces_of (v ∷ (vs ++ z ∷ rest))) n (first-piece v (vs ++ z ∷ rest)) (some-pieces (v ∷ (vs ++ z ∷ rest))) goes.0 low.1.0 (λ none e. absurd (omega (arith, none, some)))
    (split text o (v ∷ vs) z rest goes.1 at low.1 high (fewer own))) where
      fewer : (IsOwn z ⊎ Every (λ t. offset_of t < o) (t ∷ v ∷ vs)) → IsOwn z ⊎ Every (λ t. offset_of t < o) (v ∷ vs)
      fewer (inl is) = inl is
      fewer (inr less) = inr less.1
