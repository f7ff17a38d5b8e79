-- The parts of each display line.
use Rattle.std.proofs.Common.{◌≡◌, ℕ, ◌+◌, ◌<◌, Bool, true, false, cond, eqb, List, [], ◌∷◌, ◌++◌, length, map, get_or, refl, sym, ap, ◌∙◌, subst, arith}
use Rattle.std.specs.List.{slice_range}
use Rattle.std.proofs.lemmas.Bool.{eq-eqb, false≢true, ne_eqb, true≢false}
use Rattle.cell_units.specs.declared.piece.Piece.{Piece}
use Rattle.cell_units.specs.declared.piece.PieceKind.{PieceKind}
use Rattle.cell_units.specs.declared.piece.PieceKind.TheVariants as kinds
use Rattle.cell_units.specs.Cutting.{cut_lines, onto_line}
use Rattle.cell_units.specs.Text.{is_feed}
use Rattle.cell_units.specs.Inlaid.{Byte, Hidden, InlayByte, Token, bytes_of, is_break, offset_of, placeholder}
use Rattle.cell_units.specs.Pieces.{is_one_piece, kind_of, piece_before, pieces_of}
use Rattle.cell_units.specs.Layers.{Source}
use Rattle.cell_units.proofs.CutLists.{Every, at_break, lines-cons}
use Rattle.cell_units.proofs.PieceSplits.{before_other}
use Rattle.plain_rows.specs.declared.folded_lines.Part.{Part}
use Rattle.plain_rows.specs.declared.folded_lines.Part.TheVariants.{Buffer, Feed, Inlay, InlayFeed, Placeholder}
use Rattle.plain_rows.specs.FoldedLines.{EachLies, IsApart, IsChain, IsLawfulSource, IsRun, Lies, bytes_from, inlay_at, is_end, last_part, no_inlay, part_end, part_start, part_tokens}
use Rattle.plain_rows.specs.inside.Laying.{tokens_of}
use Rattle.plain_rows.specs.inside.PartPieces.{before_end, piece_in}
use Rattle.plain_rows.proofs.LaidParts.{length-run, run-free}

-- ---- runs of tokens that are of one piece

module _ (f : ℕ → ℕ → Token) (kind : PieceKind) (one : (o b c : ℕ) → is_one_piece (f o b) (f (o + 1) c) ≡ true) (of_kind : (o b : ℕ) → kind_of (f o b) ≡ kind) (own : (o b : ℕ) → bytes_of (f o b) ≡ b ∷ []) where
  abbrev pub each : ℕ → List ℕ → List Token
  each o [] = []
  each o (b ∷ bs) = f o b ∷ each (o + 1) bs

  abbrev piece : ℕ → List ℕ → ℕ → Piece
  piece o bs end = record { kind = kind; text = bs; start = offset_of (f o 0); end = end }

  single : (o b end : ℕ) → offset_of (f o b) ≡ offset_of (f o 0) →
      record { kind = kind_of (f o b); text = bytes_of (f o b); start = offset_of (f o b); end = end } ≡ piece o (b ∷ []) end
  single o b end at = λ i. record { kind = of_kind o b i; text = own o b i; start = at i; end = end }

  module _ (at : (o b : ℕ) → offset_of (f o b) ≡ offset_of (f o 0)) where
    -- before a token of another piece
    pub run-other : (o b : ℕ) (bs : List ℕ) (u : Token) (us : List Token) → ((o b : ℕ) → is_one_piece (f o b) u ≡ false) →
        pieces_of (each o (b ∷ bs) ++ u ∷ us) ≡ piece o (b ∷ bs) (offset_of u) ∷ pieces_of (u ∷ us)
    run-other o b [] u us other =
        ap (λ (c : Bool). piece_before c (f o b) (offset_of u) (pieces_of (u ∷ us))) (other o b)
        ∙ before_other (f o b) (offset_of u) (pieces_of (u ∷ us))
        ∙ ap (λ (p : Piece). p ∷ pieces_of (u ∷ us)) (single o b (offset_of u) (at o b))
    run-other o b (c ∷ cs) u us other =
        ap (λ (t : Bool). piece_before t (f o b) (offset_of (f (o + 1) c)) (pieces_of (each (o + 1) (c ∷ cs) ++ u ∷ us))) (one o b c)
        ∙ ap (piece_before true (f o b) (offset_of (f (o + 1) c))) (run-other (o + 1) c cs u us other)
        ∙ (λ i. record { kind = kind; text = own o b i ++ (c ∷ cs); start = at o b i; end = offset_of u } ∷ pieces_of (u ∷ us))

    -- before the line's end
    pub run-last : (o b : ℕ) (bs : List ℕ) (u : Token) → pieces_of (each o (b ∷ bs) ++ u ∷ []) ≡ piece o (b ∷ bs) (offset_of u) ∷ []
    run-last o b [] u = ap (λ (p : Piece). p ∷ []) (single o b (offset_of u) (at o b))
    run-last o b (c ∷ cs) u =
        ap (λ (t : Bool). piece_before t (f o b) (offset_of (f (o + 1) c)) (pieces_of (each (o + 1) (c ∷ cs) ++ u ∷ []))) (one o b c)
        ∙ ap (piece_before true (f o b) (offset_of (f (o + 1) c))) (run-last (o + 1) c cs u)
        ∙ (λ i. record { kind = kind; text = own o b i ++ (c ∷ cs); start = at o b i; end = offset_of u } ∷ [])

-- ---- parts

-- a list that has a first element
record Begins (t : Token) (ts : List Token) : Type 0 where
  rest : List Token
  is : ts ≡ t ∷ rest

some-bytes : (text : List ℕ) (start end : ℕ) → IsRun text start end → (b : ℕ) × (bs : List ℕ) × (slice_range text start end ≡ b ∷ bs)
some-bytes text start end run = go (slice_range text start end) refl where
  go : (l : List ℕ) → slice_range text start end ≡ l → (b : ℕ) × (bs : List ℕ) × (slice_range text start end ≡ b ∷ bs)
  go [] e = absurd (omega (arith, length-run text start end run, ap length e, run.some))
  go (b ∷ bs) e = (b, bs, e)

-- the first token of a part that lies
abbrev first_of : Source → Part → Token
first_of s (Buffer start end) = Byte start (get_or (slice_range s.text start end) 0 0)
first_of s (Inlay number offset start end) = InlayByte offset (inlay_at s number).id (get_or (slice_range (inlay_at s number).text start end) 0 0)
first_of s (Placeholder start end) = Hidden start
first_of s (Feed offset) = Byte offset 10
first_of s (InlayFeed number offset) = InlayByte offset (inlay_at s number).id 10

begins : (s : Source) (p : Part) → Lies s p → Begins (first_of s p) (part_tokens s p)
begins s (Buffer start end) lies =
    let r = some-bytes s.text start end lies in
    record { rest = bytes_from (start + 1) r.1; is = ap (bytes_from start) r.2 ∙ (λ i. Byte start (get_or (sym r.2 i) 0 0) ∷ bytes_from (start + 1) r.1) }
begins s (Inlay number offset start end) lies =
    let r = some-bytes (inlay_at s number).text start end lies.1 in
    let mk = InlayByte offset (inlay_at s number).id in
    record { rest = map mk r.1; is = ap (map mk) r.2 ∙ (λ i. mk (get_or (sym r.2 i) 0 0) ∷ map mk r.1) }
begins s (Placeholder start end) lies = record { rest = []; is = refl }
begins s (Feed offset) lies = record { rest = []; is = refl }
begins s (InlayFeed number offset) lies = record { rest = []; is = refl }

first-at : (s : Source) (p : Part) → offset_of (first_of s p) ≡ part_start p
first-at s (Buffer start end) = refl
first-at s (Inlay number offset start end) = refl
first-at s (Placeholder start end) = refl
first-at s (Feed offset) = refl
first-at s (InlayFeed number offset) = refl

-- ---- a line of parts: a chain of which the last, and no other, is an end

abbrev pub IsLine : Source → Part → List Part → Type 0
IsLine s q [] = ⊥
IsLine s q (p ∷ []) = (is_end p ≡ true) × (part_end q ≡ part_start p) × IsApart q p × Lies s p
IsLine s q (p ∷ o ∷ os) = (is_end p ≡ false) × (part_end q ≡ part_start p) × IsApart q p × Lies s p × IsLine s p (o ∷ os)

inlay-tokens : (o id : ℕ) (k : ℕ) (bs : List ℕ) → map (InlayByte o id) bs ≡ each (λ _ b. InlayByte o id b) (kinds.Inlay id) (λ _ _ _. eq-eqb id id refl) (λ _ _. refl) (λ _ _. refl) k bs
inlay-tokens o id k [] = refl
inlay-tokens o id k (b ∷ bs) = ap (λ (l : List Token). InlayByte o id b ∷ l) (inlay-tokens o id (k + 1) bs)

buffer-tokens : (o : ℕ) (bs : List ℕ) → bytes_from o bs ≡ each Byte kinds.Buffer (λ _ _ _. refl) (λ _ _. refl) (λ _ _. refl) o bs
buffer-tokens o [] = refl
buffer-tokens o (b ∷ bs) = ap (λ (l : List Token). Byte o b ∷ l) (buffer-tokens (o + 1) bs)

-- the last part before a line's end
pieces-last : (s : Source) (p : Part) (u : Token) → is_end p ≡ false → part_end p ≡ offset_of u → Lies s p → pieces_of (part_tokens s p ++ u ∷ []) ≡ piece_in s p ∷ []
pieces-last s (Buffer start end) u off at lies =
    let r = some-bytes s.text start end lies in
    ap (λ (bs : List ℕ). pieces_of (bytes_from start bs ++ u ∷ [])) r.2
    ∙ ap (λ (l : List Token). pieces_of (l ++ u ∷ [])) (buffer-tokens start (r.0 ∷ r.1))
    ∙ run-last Byte kinds.Buffer (λ _ _ _. refl) (λ _ _. refl) (λ _ _. refl) (λ _ _. refl) start r.0 r.1 u
    ∙ (λ i. record { kind = kinds.Buffer; text = sym r.2 i; start = start; end = sym at i } ∷ [])
pieces-last s (Inlay number offset start end) u off at lies =
    let r = some-bytes (inlay_at s number).text start end lies.1 in
    let id : ℕ = (inlay_at s number).id in
    ap (λ (bs : List ℕ). pieces_of (map (InlayByte offset id) bs ++ u ∷ [])) r.2
    ∙ ap (λ (l : List Token). pieces_of (l ++ u ∷ [])) (inlay-tokens offset id 0 (r.0 ∷ r.1))
    ∙ run-last (λ _ b. InlayByte offset id b) (kinds.Inlay id) (λ _ _ _. eq-eqb id id refl) (λ _ _. refl) (λ _ _. refl) (λ _ _. refl) 0 r.0 r.1 u
    ∙ (λ i. record { kind = kinds.Inlay id; text = sym r.2 i; start = offset; end = sym at i } ∷ [])
pieces-last s (Placeholder start end) u off at lies = λ i. record { kind = kinds.Placeholder; text = placeholder; start = start; end = sym at i } ∷ []
pieces-last s (Feed offset) u off at lies = absurd (true≢false off)
pieces-last s (InlayFeed number offset) u off at lies = absurd (true≢false off)

hidden-other : (o : ℕ) (u : Token) → is_one_piece (Hidden o) u ≡ false
hidden-other o (Byte p b) = refl
hidden-other o (InlayByte p id b) = refl
hidden-other o (Hidden p) = refl

-- two inlays have two ids
ids-apart : (s : Source) → IsLawfulSource s → (i j : ℕ) → i < j → j < length s.inlays → eqb (inlay_at s i).id (inlay_at s j).id ≡ false
ids-apart s lawful i j lt within = ne_eqb (inlay_at s i).id (inlay_at s j).id (lawful.inlays_distinct i j no_inlay lt within)

buffer-other : (s : Source) (o : Part) (start end : ℕ) → is_end o ≡ false → IsApart (Buffer start end) o → (k b : ℕ) → is_one_piece (Byte k b) (first_of s o) ≡ false
buffer-other s (Buffer a z) start end off apart k b = absurd (true≢false apart)
buffer-other s (Inlay number offset a z) start end off apart k b = refl
buffer-other s (Placeholder a z) start end off apart k b = refl
buffer-other s (Feed offset) start end off apart k b = absurd (true≢false off)
buffer-other s (InlayFeed number offset) start end off apart k b = absurd (true≢false off)

inlay-other : (s : Source) → IsLawfulSource s → (o : Part) (number offset start end : ℕ) → is_end o ≡ false → IsApart (Inlay number offset start end) o → Lies s o → (k b : ℕ) →
    is_one_piece (InlayByte offset (inlay_at s number).id b) (first_of s o) ≡ false
inlay-other s lawful (Buffer a z) number offset start end off apart lies k b = refl
inlay-other s lawful (Inlay other at a z) number offset start end off apart lies k b = ids-apart s lawful number other (omega (arith, apart)) lies.0
inlay-other s lawful (Placeholder a z) number offset start end off apart lies k b = refl
inlay-other s lawful (Feed at) number offset start end off apart lies k b = absurd (true≢false off)
inlay-other s lawful (InlayFeed other at) number offset start end off apart lies k b = absurd (true≢false off)

-- a part before another
pieces-other : (s : Source) → IsLawfulSource s → (p o : Part) (us : List Token) → is_end p ≡ false → is_end o ≡ false → part_end p ≡ part_start o → IsApart p o → Lies s p → Lies s o →
    pieces_of (part_tokens s p ++ first_of s o ∷ us) ≡ piece_in s p ∷ pieces_of (first_of s o ∷ us)
pieces-other s lawful (Buffer start end) o us off also at apart lies next =
    let r = some-bytes s.text start end lies in
    let u = first_of s o in
    let to : offset_of u ≡ end = first-at s o ∙ sym at in
    ap (λ (bs : List ℕ). pieces_of (bytes_from start bs ++ u ∷ us)) r.2
    ∙ ap (λ (l : List Token). pieces_of (l ++ u ∷ us)) (buffer-tokens start (r.0 ∷ r.1))
    ∙ run-other Byte kinds.Buffer (λ _ _ _. refl) (λ _ _. refl) (λ _ _. refl) (λ _ _. refl) start r.0 r.1 u us (buffer-other s o start end also apart)
    ∙ (λ i. record { kind = kinds.Buffer; text = sym r.2 i; start = start; end = to i } ∷ pieces_of (u ∷ us))
pieces-other s lawful (Inlay number offset start end) o us off also at apart lies next =
    let r = some-bytes (inlay_at s number).text start end lies.1 in
    let id : ℕ = (inlay_at s number).id in
    let u = first_of s o in
    let to : offset_of u ≡ offset = first-at s o ∙ sym at in
    ap (λ (bs : List ℕ). pieces_of (map (InlayByte offset id) bs ++ u ∷ us)) r.2
    ∙ ap (λ (l : List Token). pieces_of (l ++ u ∷ us)) (inlay-tokens offset id 0 (r.0 ∷ r.1))
    ∙ run-other (λ _ b. InlayByte offset id b) (kinds.Inlay id) (λ _ _ _. eq-eqb id id refl) (λ _ _. refl) (λ _ _. refl) (λ _ _. refl) 0 r.0 r.1 u us (inlay-other s lawful o number offset start end also apart next)
    ∙ (λ i. record { kind = kinds.Inlay id; text = sym r.2 i; start = offset; end = to i } ∷ pieces_of (u ∷ us))
pieces-other s lawful (Placeholder start end) o us off also at apart lies next =
    let u = first_of s o in
    let to : offset_of u ≡ end = first-at s o ∙ sym at in
    ap (λ (c : Bool). piece_before c (Hidden start) (offset_of u) (pieces_of (u ∷ us))) (hidden-other start u)
    ∙ before_other (Hidden start) (offset_of u) (pieces_of (u ∷ us))
    ∙ (λ i. record { kind = kinds.Placeholder; text = placeholder; start = start; end = to i } ∷ pieces_of (u ∷ us))
pieces-other s lawful (Feed offset) o us off also at apart lies next = absurd (true≢false off)
pieces-other s lawful (InlayFeed number offset) o us off also at apart lies next = absurd (true≢false off)

-- an end shows its one token
pub end-token : (s : Source) (p : Part) → is_end p ≡ true → (part_tokens s p ≡ first_of s p ∷ []) × (is_break (first_of s p) ≡ true)
end-token s (Buffer start end) is = absurd (false≢true is)
end-token s (Inlay number offset start end) is = absurd (false≢true is)
end-token s (Placeholder start end) is = absurd (false≢true is)
end-token s (Feed offset) is = (refl, refl)
end-token s (InlayFeed number offset) is = (refl, refl)

-- the pieces of a line are its parts
pub pieces-line : (s : Source) → IsLawfulSource s → (q : Part) (l : List Part) → IsLine s q l → pieces_of (tokens_of s l) ≡ map (piece_in s) (before_end l)
pieces-line s lawful q [] line = absurd line
pieces-line s lawful q (p ∷ []) line =
    ap (λ (l : List Token). pieces_of (l ++ [])) (end-token s p line.0).0
pieces-line s lawful q (p ∷ o ∷ []) line =
    let is = (end-token s o line.4.0).0 in
    ap (λ (l : List Token). pieces_of (part_tokens s p ++ (l ++ []))) is
    ∙ pieces-last s p (first_of s o) line.0 (line.4.1 ∙ sym (first-at s o)) line.3
pieces-line s lawful q (p ∷ o ∷ x ∷ xs) line =
    let b = begins s o line.4.3 in
    let us : List Token = b.rest ++ tokens_of s (x ∷ xs) in
    ap (λ (l : List Token). pieces_of (part_tokens s p ++ (l ++ tokens_of s (x ∷ xs)))) b.is
    ∙ pieces-other s lawful p o us line.0 line.4.0 line.4.1 line.4.2 line.3 line.4.3
    ∙ ap (λ (l : List Token). piece_in s p ∷ pieces_of (l ++ tokens_of s (x ∷ xs))) (sym b.is)
    ∙ ap (λ (l : List Piece). piece_in s p ∷ l) (pieces-line s lawful p (o ∷ x ∷ xs) line.4)

-- ---- a chain of parts is lines

abbrev pub EachLine : Source → List (List Part) → Type 0
EachLine s ls = Every (λ l. (q : Part) × IsLine s q l) ls

abbrev FirstLine : Source → Part → List (List Part) → Type 0
FirstLine s q [] = Unit {0}
FirstLine s q (l ∷ ls) = IsLine s q l × EachLine s ls

all-lines : (s : Source) (q : Part) (ls : List (List Part)) → FirstLine s q ls → EachLine s ls
all-lines s q [] f = tt
all-lines s q (l ∷ ls) f = ((q, f.0), f.1)

first-lines : (s : Source) (q : Part) (ps : List Part) → IsChain q ps → EachLies s ps → is_end (last_part q ps) ≡ true → FirstLine s q (cut_lines is_end ps)
first-lines s q [] chain lie closed = tt
first-lines s q (p ∷ ps) chain lie closed =
    at_break is_end (FirstLine s q) p (cut_lines is_end ps)
    (λ is. ((is, chain.0, chain.1, lie.0), all-lines s p (cut_lines is_end ps) (first-lines s p ps chain.2 lie.1 closed)))
    (λ off. onto off ps closed (first-lines s p ps chain.2 lie.1 closed)) where
      onto : is_end p ≡ false → (ps : List Part) → is_end (last_part p ps) ≡ true → FirstLine s p (cut_lines is_end ps) → FirstLine s q (onto_line p (cut_lines is_end ps))
      onto off [] closed f = absurd (false≢true (sym off ∙ closed))
      onto off (o ∷ os) closed f = let c = lines-cons is_end o os in subst (λ (ls : List (List Part)). FirstLine s q (onto_line p ls)) (sym c.2) (put c.0 c.1 (subst (FirstLine s p) c.2 f)) where
        put : (l : List Part) (ls : List (List Part)) → FirstLine s p (l ∷ ls) → FirstLine s q (onto_line p (l ∷ ls))
        put [] ls f = absurd f.0
        put (o ∷ os) ls f = ((off, chain.0, chain.1, lie.0, f.0), f.1)

pub each-line : (s : Source) (q : Part) (ps : List Part) → IsChain q ps → EachLies s ps → is_end (last_part q ps) ≡ true → EachLine s (cut_lines is_end ps)
each-line s q ps chain lie closed = all-lines s q (cut_lines is_end ps) (first-lines s q ps chain lie closed)

-- ---- the lines of tokens

ontos : List Token → List (List Token) → List (List Token)
ontos [] ls = ls
ontos (t ∷ ts) ls = onto_line t (ontos ts ls)

cut-free : (ts rest : List Token) → Every (λ t. is_break t ≡ false) ts → cut_lines is_break (ts ++ rest) ≡ ontos ts (cut_lines is_break rest)
unfolding ontos
cut-free [] rest free = refl
cut-free (t ∷ ts) rest free =
    ap (λ (c : Bool). cond c ((t ∷ []) ∷ cut_lines is_break (ts ++ rest)) (onto_line t (cut_lines is_break (ts ++ rest)))) free.0
    ∙ ap (onto_line t) (cut-free ts rest free.1)

ontos-cons : (ts m : List Token) (ms : List (List Token)) → ontos ts (m ∷ ms) ≡ (ts ++ m) ∷ ms
unfolding ontos
ontos-cons [] m ms = refl
ontos-cons (t ∷ ts) m ms = ap (onto_line t) (ontos-cons ts m ms)

bytes-free : (o : ℕ) (bs : List ℕ) → Every (λ b. is_feed b ≡ false) bs → Every (λ t. is_break t ≡ false) (bytes_from o bs)
bytes-free o [] free = tt
bytes-free o (b ∷ bs) free = (free.0, bytes-free (o + 1) bs free.1)

inlay-free : (o id : ℕ) (bs : List ℕ) → Every (λ b. is_feed b ≡ false) bs → Every (λ t. is_break t ≡ false) (map (InlayByte o id) bs)
inlay-free o id [] free = tt
inlay-free o id (b ∷ bs) free = (free.0, inlay-free o id bs free.1)

pub part-free : (s : Source) (p : Part) → is_end p ≡ false → Lies s p → Every (λ t. is_break t ≡ false) (part_tokens s p)
part-free s (Buffer start end) off lies = bytes-free start (slice_range s.text start end) (run-free s.text start end lies)
part-free s (Inlay number offset start end) off lies = inlay-free offset (inlay_at s number).id (slice_range (inlay_at s number).text start end) (run-free (inlay_at s number).text start end lies.1)
part-free s (Placeholder start end) off lies = (refl, tt)
part-free s (Feed offset) off lies = absurd (true≢false off)
part-free s (InlayFeed number offset) off lies = absurd (true≢false off)

pub cut-tokens : (s : Source) (q : Part) (ps : List Part) → EachLies s ps → is_end (last_part q ps) ≡ true → cut_lines is_break (tokens_of s ps) ≡ map (tokens_of s) (cut_lines is_end ps)
cut-tokens s q [] lie closed = refl
cut-tokens s q (p ∷ ps) lie closed = go (is_end p) refl (cut-tokens s p ps lie.1 closed) where
  onto : (ps : List Part) → is_end p ≡ false → is_end (last_part p ps) ≡ true → cut_lines is_break (tokens_of s ps) ≡ map (tokens_of s) (cut_lines is_end ps) →
      ontos (part_tokens s p) (cut_lines is_break (tokens_of s ps)) ≡ map (tokens_of s) (onto_line p (cut_lines is_end ps))
  onto [] off closed rest = absurd (false≢true (sym off ∙ closed))
  onto (o ∷ os) off closed rest =
      let c = lines-cons is_end o os in
      ap (ontos (part_tokens s p)) (rest ∙ ap (map (tokens_of s)) c.2)
      ∙ ontos-cons (part_tokens s p) (tokens_of s c.0) (map (tokens_of s) c.1)
      ∙ ap (λ (ls : List (List Part)). map (tokens_of s) (onto_line p ls)) (sym c.2)

  go : (c : Bool) → is_end p ≡ c → cut_lines is_break (tokens_of s ps) ≡ map (tokens_of s) (cut_lines is_end ps) →
      cut_lines is_break (tokens_of s (p ∷ ps)) ≡ map (tokens_of s) (cut_lines is_end (p ∷ ps))
  go true is rest =
      let e = end-token s p is in
      let t = first_of s p in
      ap (λ (l : List Token). cut_lines is_break (l ++ tokens_of s ps)) e.0
      ∙ ap (λ (c : Bool). cond c ((t ∷ []) ∷ cut_lines is_break (tokens_of s ps)) (onto_line t (cut_lines is_break (tokens_of s ps)))) e.1
      ∙ (λ i. (sym e.0 i ++ []) ∷ rest i)
      ∙ ap (λ (c : Bool). map (tokens_of s) (cond c ((p ∷ []) ∷ cut_lines is_end ps) (onto_line p (cut_lines is_end ps)))) (sym is)
  go false off rest =
      cut-free (part_tokens s p) (tokens_of s ps) (part-free s p off lie.0)
      ∙ onto ps off closed rest
      ∙ ap (λ (c : Bool). map (tokens_of s) (cond c ((p ∷ []) ∷ cut_lines is_end ps) (onto_line p (cut_lines is_end ps)))) (sym off)

-- the pieces of all lines
pub pieces-lines : (s : Source) → IsLawfulSource s → (ls : List (List Part)) → EachLine s ls → map pieces_of (map (tokens_of s) ls) ≡ map (λ l. map (piece_in s) (before_end l)) ls
pieces-lines s lawful [] each = refl
pieces-lines s lawful (l ∷ ls) each = λ i. pieces-line s lawful each.0.0 l each.0.1 i ∷ pieces-lines s lawful ls each.1 i
