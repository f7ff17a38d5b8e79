-- The pieces of a line are its longest runs of tokens of one piece.
use Rattle.std.proofs.Common.{◌≡◌, ℕ, ◌<◌, Bool, true, false, List, [], ◌∷◌, ◌++◌, length, length-append, map, take, refl, ap, sym, ◌∙◌, append-nil, arith}
use Rattle.std.specs.List.{All, flat_map}
use Rattle.std.proofs.lemmas.Bool.{false≢true, eqb-true}
use Rattle.cell_units.specs.declared.piece.Piece.{Piece}
use Rattle.cell_units.specs.declared.piece.PieceKind.TheVariants.{Inlay}
use Rattle.cell_units.specs.Inlaid.{Token, Byte, InlayByte, Hidden, bytes_of, offset_of}
use Rattle.cell_units.specs.Pieces.{AreNeighbours, ArePiecesOf, IsRun, IsSeam, before_break, is_one_piece, kind_of, piece_before, pieces_of}
use Rattle.cell_units.proofs.CutLists.{Every}
use Rattle.cell_units.proofs.FoundEntries.{All-from_Every, some_is}

-- a run by its first token and the others
record Run : Type 0 where
  head : Token
  rest : List Token

abbrev tokens_of : Run → List Token
tokens_of run = run.head ∷ run.rest

abbrev before : Bool → Token → List Run → List Run
before is_one t [] = record { head = t; rest = [] } ∷ []
before true t (r ∷ rs) = record { head = t; rest = tokens_of r } ∷ rs
before false t (r ∷ rs) = record { head = t; rest = [] } ∷ r ∷ rs

abbrev runs_of : List Token → List Run
runs_of [] = []
runs_of (t ∷ []) = []
runs_of (t ∷ u ∷ us) = before (is_one_piece t u) t (runs_of (u ∷ us))

abbrev lists : List Run → List (List Token)
lists runs = map tokens_of runs

-- if there are runs, the first begins with the token
data Begin (u : Token) : List Run → Type 0 where
  NoRun : Begin u []
  With : (r : Run) (rs : List Run) → r.head ≡ u → Begin u (r ∷ rs)

begin : (u : Token) (us : List Token) → Begin u (runs_of (u ∷ us))
begin u [] = NoRun
begin u (v ∷ vs) = go (is_one_piece u v) (runs_of (v ∷ vs)) where
  go : (b : Bool) (rs : List Run) → Begin u (before b u rs)
  go b [] = With (record { head = u; rest = [] }) [] refl
  go true (r ∷ rs) = With (record { head = u; rest = tokens_of r }) rs refl
  go false (r ∷ rs) = With (record { head = u; rest = [] }) (r ∷ rs) refl

-- ---- the tokens of the runs

tokens-before : (b : Bool) (t : Token) (rs : List Run) → flat_map (λ run. run) (lists (before b t rs)) ≡ t ∷ flat_map (λ run. run) (lists rs)
tokens-before b t [] = refl
tokens-before true t (r ∷ rs) = refl
tokens-before false t (r ∷ rs) = refl

tokens-are : (ts : List Token) → flat_map (λ run. run) (lists (runs_of ts)) ≡ before_break ts
tokens-are [] = refl
tokens-are (t ∷ []) = refl
tokens-are (t ∷ u ∷ us) = tokens-before (is_one_piece t u) t (runs_of (u ∷ us)) ∙ ap (λ (l : List Token). t ∷ l) (tokens-are (u ∷ us))

-- ---- each is one, as long as can be

each-before : (b : Bool) (t u : Token) (rs : List Run) → is_one_piece t u ≡ b → Begin u rs → Every IsRun (lists rs) → Every IsRun (lists (before b t rs))
each-before b t u [] e s h = ((omega arith, tt), tt)
each-before true t u (r ∷ rs) e (With _ _ same) h = ((omega arith, (ap (is_one_piece t) same ∙ e, h.0.1)), h.1)
each-before false t u (r ∷ rs) e s h = ((omega arith, tt), h)

each-run : (ts : List Token) → Every IsRun (lists (runs_of ts))
each-run [] = tt
each-run (t ∷ []) = tt
each-run (t ∷ u ∷ us) = each-before (is_one_piece t u) t u (runs_of (u ∷ us)) refl (begin u us) (each-run (u ∷ us))

seam : (t u : Token) (us : List Token) → is_one_piece t u ≡ false → IsSeam (t ∷ []) (u ∷ us)
seam t u us e t' u' last first =
    (λ i. is_one_piece (sym (some_is t t' last) i) (sym (some_is u u' first) i)) ∙ e

apart-before : (b : Bool) (t u : Token) (rs : List Run) → is_one_piece t u ≡ b → Begin u rs → AreNeighbours IsSeam (lists rs) → AreNeighbours IsSeam (lists (before b t rs))
apart-before b t u [] e s h = tt
apart-before true t u (r ∷ []) e s h = tt
apart-before true t u (r ∷ r' ∷ rs) e s h = (h.0, h.1)
apart-before false t u (r ∷ rs) e (With _ _ same) h = (seam t r.head r.rest (ap (is_one_piece t) same ∙ e), h)

apart-runs : (ts : List Token) → AreNeighbours IsSeam (lists (runs_of ts))
apart-runs [] = tt
apart-runs (t ∷ []) = tt
apart-runs (t ∷ u ∷ us) = apart-before (is_one_piece t u) t u (runs_of (u ∷ us)) refl (begin u us) (apart-runs (u ∷ us))

-- ---- a piece has its run's kind and bytes

same_kind : (t u : Token) → is_one_piece t u ≡ true → kind_of u ≡ kind_of t
same_kind (Byte o b) (Byte p c) e = refl
same_kind (InlayByte o i b) (InlayByte p j c) e = ap Inlay (sym (eqb-true i j e))
same_kind (Byte o b) (InlayByte p j c) e = absurd (false≢true e)
same_kind (Byte o b) (Hidden p) e = absurd (false≢true e)
same_kind (InlayByte o i b) (Byte p c) e = absurd (false≢true e)
same_kind (InlayByte o i b) (Hidden p) e = absurd (false≢true e)
same_kind (Hidden o) (Byte p c) e = absurd (false≢true e)
same_kind (Hidden o) (InlayByte p j c) e = absurd (false≢true e)
same_kind (Hidden o) (Hidden p) e = absurd (false≢true e)

abbrev AreAs : List Piece → List Run → Type 0
AreAs [] [] = Unit {0}
AreAs [] (r ∷ rs) = ⊥
AreAs (p ∷ ps) [] = ⊥
AreAs (p ∷ ps) (r ∷ rs) = (p.text ≡ flat_map bytes_of (tokens_of r)) × (p.kind ≡ kind_of r.head) × AreAs ps rs

as-before : (b : Bool) (t u : Token) (end : ℕ) (ps : List Piece) (rs : List Run) → is_one_piece t u ≡ b → Begin u rs → AreAs ps rs → AreAs (piece_before b t end ps) (before b t rs)
as-before b t u end [] [] e s h = (sym (append-nil (bytes_of t)), refl, tt)
as-before b t u end [] (r ∷ rs) e s h = absurd h
as-before b t u end (p ∷ ps) [] e s h = absurd h
as-before true t u end (p ∷ ps) (r ∷ rs) e (With _ _ same) h = (ap (λ (l : List ℕ). bytes_of t ++ l) h.0, h.1 ∙ ap kind_of same ∙ same_kind t u e, h.2)
as-before false t u end (p ∷ ps) (r ∷ rs) e s h = (sym (append-nil (bytes_of t)), refl, h)

as-runs : (ts : List Token) → AreAs (pieces_of ts) (runs_of ts)
as-runs [] = tt
as-runs (t ∷ []) = tt
as-runs (t ∷ u ∷ us) = as-before (is_one_piece t u) t u (offset_of u) (pieces_of (u ∷ us)) (runs_of (u ∷ us)) refl (begin u us) (as-runs (u ∷ us))

texts-are : (ps : List Piece) (rs : List Run) → AreAs ps rs → map (λ p. p.text) ps ≡ map (flat_map bytes_of) (lists rs)
texts-are [] [] h = refl
texts-are [] (r ∷ rs) h = absurd h
texts-are (p ∷ ps) [] h = absurd h
texts-are (p ∷ ps) (r ∷ rs) h = λ i. h.0 i ∷ texts-are ps rs h.2 i

kinds-are : (ps : List Piece) (rs : List Run) → AreAs ps rs → map (λ p. p.kind ∷ []) ps ≡ map (λ run. map kind_of (take 1 run)) (lists rs)
kinds-are [] [] h = refl
kinds-are [] (r ∷ rs) h = absurd h
kinds-are (p ∷ ps) [] h = absurd h
kinds-are (p ∷ ps) (r ∷ rs) h = λ i. (h.1 i ∷ []) ∷ kinds-are ps rs h.2 i

pub are_pieces : (line : List Token) → ArePiecesOf (before_break line) (pieces_of line)
are_pieces line = record {
  runs = lists (runs_of line);
  tokens_are = tokens-are line;
  each = All-from_Every IsRun (lists (runs_of line)) (each-run line);
  apart = apart-runs line;
  texts = texts-are (pieces_of line) (runs_of line) (as-runs line);
  kinds = kinds-are (pieces_of line) (runs_of line) (as-runs line);
}

-- ---- none is empty

some_bytes : (t : Token) → 0 < length (bytes_of t)
some_bytes (Byte o b) = omega arith
some_bytes (InlayByte o i b) = omega arith
some_bytes (Hidden o) = omega arith

some-before : (b : Bool) (t : Token) (end : ℕ) (ps : List Piece) → Every (λ p. 0 < length p.text) ps → Every (λ p. 0 < length p.text) (piece_before b t end ps)
some-before b t end [] h = (some_bytes t, tt)
some-before true t end (p ∷ ps) h = (omega (arith, some_bytes t, length-append (bytes_of t) p.text), h.1)
some-before false t end (p ∷ ps) h = (some_bytes t, h)

some-pieces : (ts : List Token) → Every (λ p. 0 < length p.text) (pieces_of ts)
some-pieces [] = tt
some-pieces (t ∷ []) = tt
some-pieces (t ∷ u ∷ us) = some-before (is_one_piece t u) t (offset_of u) (pieces_of (u ∷ us)) (some-pieces (u ∷ us))

pub none_empty : (line : List Token) → All (λ p. 0 < length p.text) (pieces_of line)
none_empty line = All-from_Every (λ (p : Piece). 0 < length p.text) (pieces_of line) (some-pieces line)
