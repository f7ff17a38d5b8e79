-- A piece of the buffer holds the buffer's bytes from its start to its end.
use Rattle.std.proofs.Common.{◌≡◌, ℕ, ◌+◌, ◌-◌, ◌<◌, ◌≤◌, ◌⊎◌, suc, Bool, true, false, cond, eqb, List, [], ◌∷◌, ◌++◌, length, map, take, drop, get_or, slice_range, flat_map, filter, refl, sym, ap, ◌∙◌, subst, arith, inl, inr, append_assoc}
use Rattle.std.specs.List.{All}
use Rattle.std.proofs.lemmas.Bool.{cases_Bool, false≢true, eqb-true}
use Rattle.std.proofs.lemmas.List.{drop_more, length-drop}
use Rattle.std.proofs.lemmas.List.Elements.{All-cons, All-nil}
use Rattle.cell_units.specs.declared.piece.Piece.{Piece}
use Rattle.cell_units.specs.declared.piece.PieceKind.TheVariants.{Buffer, Inlay, Placeholder}
use Rattle.cell_units.specs.Record as records
use Rattle.cell_units.specs.Text.{line_feed, clean}
use Rattle.cell_units.specs.Cutting.{onto_line, cut_lines}
use Rattle.cell_units.specs.Inlaid.{Token, Byte, InlayByte, Hidden, offset_of, is_break, inlays_at, inlay_bytes, show_each}
use Rattle.cell_units.specs.Folded.{inside, covered, shown, folded, display_lines}
use Rattle.cell_units.specs.Pieces.{pieces_of, piece_before, is_one_piece, kind_of}
use Rattle.cell_units.specs.Layers.{Source, shown_lines}
use Rattle.cell_units.specs.Laws.{IsCopied}
use Rattle.cell_units.proofs.Joined.{inside_of, covered_by}
use Rattle.cell_units.proofs.ShownText.{EndsOpen, Starts, shown_by, starts}

-- ---- what comes after a byte

-- what comes after a byte of the buffer, which is the text's, has the next offset; after a byte of an inlay the same
-- one
abbrev pub Next : List ℕ → Token → Token → Type 0
Next text (Byte o b) u = (o < length text) × (get_or text o 0 ≡ b) × (offset_of u ≡ o + 1)
Next text (InlayByte o id b) u = offset_of u ≡ o
Next text (Hidden o) u = Unit {0}

abbrev pub Goes : List ℕ → List Token → Type 0
Goes text [] = Unit {0}
Goes text (t ∷ []) = Unit {0}
Goes text (t ∷ u ∷ us) = Next text t u × Goes text (u ∷ us)

abbrev pub Every : {X : Type 0} → (X → Type 0) → List X → Type 0
Every P [] = Unit {0}
Every P (x ∷ xs) = P x × Every P xs

-- ---- what is shown goes on so

-- tokens of which the first has the offset
record BeginsAt (o : ℕ) (ts : List Token) : Type 0 where
  head : Token
  rest : List Token
  is : ts ≡ head ∷ rest
  at : offset_of head ≡ o

inside_next : (folds : List records.Fold) (o : ℕ) → inside folds (o + 1) ≡ true → covered folds o ≡ true
inside_next folds o h =
    let r = inside_of folds (o + 1) h in
    covered_by folds o r.0 r.1 (omega (arith, r.2)) (omega (arith, r.3))

open_next : (folds : List records.Fold) (o : ℕ) → covered folds o ≡ false → inside folds (o + 1) ≡ false
open_next folds o h = elim (cases_Bool (inside folds (o + 1))) [
  | inl i ↦ absurd (false≢true (sym h ∙ inside_next folds o i))
  | inr i ↦ i
]

-- the inlays at an offset, before what begins there
inlay-begins : (o id : ℕ) (bs : List ℕ) (ts : List Token) → BeginsAt o ts → BeginsAt o (map (InlayByte o id) bs ++ ts)
inlay-begins o id [] ts h = h
inlay-begins o id (b ∷ bs) ts h = record { head = InlayByte o id b; rest = map (InlayByte o id) bs ++ ts; is = refl; at = refl }

inlay-goes : (text : List ℕ) (o id : ℕ) (bs : List ℕ) (ts : List Token) → BeginsAt o ts → Goes text ts → Goes text (map (InlayByte o id) bs ++ ts)
inlay-goes text o id [] ts b h = h
inlay-goes text o id (c ∷ cs) ts b h =
    let r = inlay-begins o id cs ts b in
    let rest = inlay-goes text o id cs ts b h in
    subst (λ (l : List Token). Goes text (InlayByte o id c ∷ l)) (sym r.is) (r.at, subst (Goes text) r.is rest)

inlays-begin : (text : List ℕ) (o : ℕ) (inlays : List records.Inlay) (ts : List Token) → BeginsAt o ts → Goes text ts →
    BeginsAt o (inlays_at inlays o ++ ts) × Goes text (inlays_at inlays o ++ ts)
inlays-begin text o [] ts b g = (b, g)
inlays-begin text o (i ∷ is) ts b g = go (cases_Bool (eqb i.offset o)) (inlays-begin text o is ts b g) where
  go : (eqb i.offset o ≡ true) ⊎ (eqb i.offset o ≡ false) → BeginsAt o (inlays_at is o ++ ts) × Goes text (inlays_at is o ++ ts) →
      BeginsAt o (inlays_at (i ∷ is) o ++ ts) × Goes text (inlays_at (i ∷ is) o ++ ts)
  go (inr n) h = subst (λ (d : Bool). BeginsAt o (flat_map inlay_bytes (cond d (i ∷ filter (λ i. eqb i.offset o) is) (filter (λ i. eqb i.offset o) is)) ++ ts) × Goes text (flat_map inlay_bytes (cond d (i ∷ filter (λ i. eqb i.offset o) is) (filter (λ i. eqb i.offset o) is)) ++ ts)) (sym n) h
  go (inl y) h =
      let here : i.offset ≡ o = eqb-true i.offset o y in
      let all = map (InlayByte o i.id) (clean i.text) in
      let same : inlays_at (i ∷ is) o ++ ts ≡ all ++ (inlays_at is o ++ ts) =
      ap (λ (d : Bool). flat_map inlay_bytes (cond d (i ∷ filter (λ i. eqb i.offset o) is) (filter (λ i. eqb i.offset o) is)) ++ ts) y
      ∙ append_assoc (inlay_bytes i) (inlays_at is o) ts
      ∙ ap (λ (k : ℕ). map (InlayByte k i.id) (clean i.text) ++ (inlays_at is o ++ ts)) here in
      (subst (BeginsAt o) (sym same) (inlay-begins o i.id (clean i.text) (inlays_at is o ++ ts) h.0), subst (Goes text) (sym same) (inlay-goes text o i.id (clean i.text) (inlays_at is o ++ ts) h.0 h.1))

module _ (text : List ℕ) (inlays : List records.Inlay) (folds : List records.Fold) where
  abbrev from : ℕ → List ℕ → List Token
  from o bs = show_each (shown inlays folds) o (bs ++ line_feed ∷ [])

  record Going (o : ℕ) (ts : List Token) : Type 0 where
    begins : inside folds o ≡ false → BeginsAt o ts
    goes : Goes text ts

  -- an offset with an own token, before what follows
  going-open : (o : ℕ) (own : Token) (ts : List Token) → inside folds o ≡ false → offset_of own ≡ o → Goes text (own ∷ ts) → Going o ((inlays_at inlays o ++ own ∷ []) ++ ts)
  going-open o own ts out at g =
      let same : (inlays_at inlays o ++ own ∷ []) ++ ts ≡ inlays_at inlays o ++ own ∷ ts = append_assoc (inlays_at inlays o) (own ∷ []) ts in
      let r = inlays-begin text o inlays (own ∷ ts) (record { head = own; rest = ts; is = refl; at = at }) g in
      subst (Going o) (sym same) (record { begins = λ _. r.0; goes = r.1 })

  hidden-goes : (o : ℕ) (ts : List Token) → Goes text ts → Goes text (Hidden o ∷ ts)
  hidden-goes o [] g = tt
  hidden-goes o (t ∷ ts) g = (tt, g)

  byte-goes : (o : ℕ) (ts : List Token) → o < length text → BeginsAt (o + 1) ts → Goes text ts → Goes text (Byte o (get_or text o 0) ∷ ts)
  byte-goes o ts lt b g =
      subst (λ (us : List Token). Goes text (Byte o (get_or text o 0) ∷ us)) (sym b.is) ((lt, refl, b.at), subst (Goes text) b.is g)

  one-goes : (o b : ℕ) (ts : List Token) → o < length text → get_or text o 0 ≡ b → Going (o + 1) ts → Going o (shown inlays folds o b ++ ts)
  one-goes o b ts lt is r = go (inside folds o) refl (covered folds o) refl where
    go : (i : Bool) → inside folds o ≡ i → (c : Bool) → covered folds o ≡ c → Going o (shown inlays folds o b ++ ts)
    go true i c e =
        subst (λ (l : List Token). Going o (l ++ ts)) (sym (shown_by inlays folds o b true c i e))
        (record { begins = λ out. absurd (false≢true (sym out ∙ i)); goes = r.goes })
    go false i true e =
        subst (λ (l : List Token). Going o (l ++ ts)) (sym (shown_by inlays folds o b false true i e))
        (going-open o (Hidden o) ts i refl (hidden-goes o ts r.goes))
    go false i false e =
        subst (λ (l : List Token). Going o (l ++ ts)) (sym (shown_by inlays folds o b false false i e))
        (subst (λ (c : ℕ). Going o ((inlays_at inlays o ++ Byte o c ∷ []) ++ ts)) is
        (going-open o (Byte o (get_or text o 0)) ts i refl (byte-goes o ts lt (r.begins (open_next folds o e)) r.goes)))

  last-goes : covered folds (length text) ≡ false → inside folds (length text) ≡ false → Going (length text) (from (length text) [])
  last-goes c i =
      let n = length text in
      subst (λ (l : List Token). Going n (l ++ [])) (sym (shown_by inlays folds n line_feed false false i c))
      (going-open n (Byte n line_feed) [] i refl tt)

  all-go : covered folds (length text) ≡ false → inside folds (length text) ≡ false → (bs : List ℕ) (o : ℕ) → o ≤ length text → drop o text ≡ bs → Going o (from o bs)
  all-go c i [] o le e =
      let end : length text ≡ o = omega (arith, le, ap length e, length-drop o text) in
      subst (λ (k : ℕ). Going k (from k [])) end (last-goes c i)
  all-go c i (b ∷ bs) o le e =
      let lt : o < length text = omega (arith, ap length e, length-drop o text) in
      let more : get_or text o 0 ∷ drop (o + 1) text ≡ b ∷ bs = sym (drop_more text o 0 lt) ∙ e in
      one-goes o b (from (o + 1) bs) lt (ap (λ (l : List ℕ). get_or l 0 0) more)
      (all-go c i bs (o + 1) (omega arith) (ap (λ (l : List ℕ). drop 1 l) more))

  pub folded-goes : covered folds (length text) ≡ false → inside folds (length text) ≡ false → Goes text (folded text inlays folds)
  folded-goes c i = (all-go c i text 0 (omega arith) refl).goes

-- ---- and so does each line

pub lines-go : (text : List ℕ) (ts : List Token) → Goes text ts → Every (Goes text) (cut_lines is_break ts)
lines-go text [] g = tt
lines-go text (t ∷ []) g = go (is_break t) where
  go : (b : Bool) → Every (Goes text) (cond b ((t ∷ []) ∷ []) (onto_line t []))
  go true = (tt, tt)
  go false = (tt, tt)
lines-go text (t ∷ u ∷ us) g = go (is_break t) (cut_lines is_break (u ∷ us)) (starts u us) (lines-go text (u ∷ us) g.1) where
  go : (b : Bool) (ls : List (List Token)) → Starts u ls → Every (Goes text) ls → Every (Goes text) (cond b ((t ∷ []) ∷ ls) (onto_line t ls))
  go true ls s h = (tt, h)
  go false ls s h =
      let k = subst (Every (Goes text)) s.is h in
      subst (λ (l : List (List Token)). Every (Goes text) (onto_line t l)) (sym s.is) ((g.0, k.0), k.1)

-- ---- pieces

-- the first piece begins with the token
abbrev pub First : Token → List Piece → Type 0
First u [] = Unit {0}
First u (p ∷ ps) = (p.start ≡ offset_of u) × (p.kind ≡ kind_of u)

pub one_kind : (u v : Token) → is_one_piece u v ≡ true → kind_of u ≡ kind_of v
one_kind (Byte o b) (Byte p c) e = refl
one_kind (InlayByte o id b) (InlayByte p id' c) e = ap Inlay (eqb-true id id' e)
one_kind (Byte o b) (InlayByte p id c) e = absurd (false≢true e)
one_kind (Byte o b) (Hidden p) e = absurd (false≢true e)
one_kind (InlayByte o id b) (Byte p c) e = absurd (false≢true e)
one_kind (InlayByte o id b) (Hidden p) e = absurd (false≢true e)
one_kind (Hidden o) v e = absurd (false≢true e)

pub first-piece : (u : Token) (us : List Token) → First u (pieces_of (u ∷ us))
first-piece u [] = tt
first-piece u (v ∷ vs) = go (is_one_piece u v) refl (pieces_of (v ∷ vs)) (first-piece v vs) where
  go : (b : Bool) → is_one_piece u v ≡ b → (ps : List Piece) → First v ps → First u (piece_before b u (offset_of v) ps)
  go b e [] f = (refl, refl)
  go true e (p ∷ ps) f = (refl, f.1 ∙ sym (one_kind u v e))
  go false e (p ∷ ps) f = (refl, refl)

one_byte : (text : List ℕ) (o b end : ℕ) → o < length text → get_or text o 0 ≡ b → end ≡ o + 1 → b ∷ [] ≡ slice_range text o end
one_byte text o b end lt is e =
    let one : end - o ≡ 1 = omega arith in
    let there : slice_range text o end ≡ b ∷ [] =
    ap (λ (l : List ℕ). take (end - o) l) (drop_more text o 0 lt)
    ∙ ap (λ (n : ℕ). take n (get_or text o 0 ∷ drop (o + 1) text)) one
    ∙ ap (λ (c : ℕ). c ∷ []) is in
    sym there

more_bytes : (text : List ℕ) (o b end : ℕ) → o < length text → get_or text o 0 ≡ b → o + 1 ≤ end → b ∷ slice_range text (o + 1) end ≡ slice_range text o end
more_bytes text o b end lt is le =
    let more : end - o ≡ suc (end - (o + 1)) = omega arith in
    let there : slice_range text o end ≡ b ∷ slice_range text (o + 1) end =
    ap (λ (l : List ℕ). take (end - o) l) (drop_more text o 0 lt)
    ∙ ap (λ (n : ℕ). take n (get_or text o 0 ∷ drop (o + 1) text)) more
    ∙ ap (λ (c : ℕ). c ∷ slice_range text (o + 1) end) is in
    sym there

inlay_no_buffer : (id : ℕ) → Inlay id ≡ Buffer → ⊥
inlay_no_buffer id e = cc

hidden_no_buffer : Placeholder ≡ Buffer → ⊥
hidden_no_buffer e = cc

alone : (text : List ℕ) (o b : ℕ) (u : Token) (ps : List Piece) → Next text (Byte o b) u → Every (IsCopied text) ps →
    Every (IsCopied text) (piece_before false (Byte o b) (offset_of u) ps)
alone text o b u [] n h = ((λ _. (omega (arith, n.2), omega (arith, n.0, n.2), one_byte text o b (offset_of u) n.0 n.1 n.2)), tt)
alone text o b u (p ∷ ps) n h = ((λ _. (omega (arith, n.2), omega (arith, n.0, n.2), one_byte text o b (offset_of u) n.0 n.1 n.2)), h)

together : (text : List ℕ) (o b p c : ℕ) (ps : List Piece) → Next text (Byte o b) (Byte p c) → Every (IsCopied text) ps → First (Byte p c) ps →
    Every (IsCopied text) (piece_before true (Byte o b) p ps)
together text o b p c [] n h f = ((λ _. (omega (arith, n.2), omega (arith, n.0, n.2), one_byte text o b p n.0 n.1 n.2)), tt)
together text o b p c (q ∷ qs) n h f =
    let k = h.0 f.1 in
    let at : q.start ≡ o + 1 = f.0 ∙ n.2 in
    ((λ _. (omega (arith, k.0, at), k.1, ap (λ (l : List ℕ). b ∷ l) (k.2 ∙ ap (λ (s : ℕ). slice_range text s q.end) at) ∙ more_bytes text o b q.end n.0 n.1 (omega (arith, k.0, at)))), h.1)

inlay-copied : (text : List ℕ) (is_one : Bool) (o id b end : ℕ) (ps : List Piece) → Every (IsCopied text) ps →
    (is_one ≡ true → (p : Piece) (qs : List Piece) → ps ≡ p ∷ qs → p.kind ≡ Inlay id) →
    Every (IsCopied text) (piece_before is_one (InlayByte o id b) end ps)
inlay-copied text is_one o id b end [] h f = ((λ e. absurd (inlay_no_buffer id e)), tt)
inlay-copied text true o id b end (p ∷ ps) h f = ((λ e. absurd (inlay_no_buffer id (sym (f refl p ps refl) ∙ e))), h.1)
inlay-copied text false o id b end (p ∷ ps) h f = ((λ e. absurd (inlay_no_buffer id e)), h)

hidden-copied : (text : List ℕ) (o end : ℕ) (ps : List Piece) → Every (IsCopied text) ps → Every (IsCopied text) (piece_before false (Hidden o) end ps)
hidden-copied text o end [] h = ((λ e. absurd (hidden_no_buffer e)), tt)
hidden-copied text o end (p ∷ ps) h = ((λ e. absurd (hidden_no_buffer e)), h)

one-copied : (text : List ℕ) (t u : Token) (ps : List Piece) → Next text t u → Every (IsCopied text) ps → First u ps →
    Every (IsCopied text) (piece_before (is_one_piece t u) t (offset_of u) ps)
one-copied text (Byte o b) (Byte p c) ps n h f = together text o b p c ps n h f
one-copied text (Byte o b) (InlayByte p id c) ps n h f = alone text o b (InlayByte p id c) ps n h
one-copied text (Byte o b) (Hidden p) ps n h f = alone text o b (Hidden p) ps n h
one-copied text (InlayByte o id b) (Byte p c) ps n h f = inlay-copied text false o id b p ps h (λ e. absurd (false≢true e))
one-copied text (InlayByte o id b) (InlayByte p id' c) ps n h f =
    inlay-copied text (eqb id id') o id b p ps h (λ same q qs e. (subst (First (InlayByte p id' c)) e f).1 ∙ ap Inlay (sym (eqb-true id id' same)))
one-copied text (InlayByte o id b) (Hidden p) ps n h f = inlay-copied text false o id b p ps h (λ e. absurd (false≢true e))
one-copied text (Hidden o) u ps n h f = hidden-copied text o (offset_of u) ps h

pieces-copied : (text : List ℕ) (ts : List Token) → Goes text ts → Every (IsCopied text) (pieces_of ts)
pieces-copied text [] g = tt
pieces-copied text (t ∷ []) g = tt
pieces-copied text (t ∷ u ∷ us) g = one-copied text t u (pieces_of (u ∷ us)) g.0 (pieces-copied text (u ∷ us) g.1) (first-piece u us)

-- ---- together

all_of : {X : Type 0} (P : X → Type 0) (xs : List X) → Every P xs → All P xs
all_of P [] h = All-nil P
all_of P (x ∷ xs) h = All-cons P x xs h.0 (all_of P xs h.1)

lines-copied : (text : List ℕ) (ls : List (List Token)) → Every (Goes text) ls → Every (λ pieces. All (IsCopied text) pieces) (map pieces_of ls)
lines-copied text [] h = tt
lines-copied text (l ∷ ls) h = (all_of (IsCopied text) (pieces_of l) (pieces-copied text l h.0), lines-copied text ls h.1)

-- each piece of the buffer holds the buffer's bytes
pub shown-copied : (s : Source) → EndsOpen s → All (λ pieces. All (IsCopied s.text) pieces) (shown_lines s)
shown-copied s (i, c) =
    all_of (λ pieces. All (IsCopied s.text) pieces) (shown_lines s)
    (lines-copied s.text (display_lines s.text s.inlays s.folds) (lines-go s.text (folded s.text s.inlays s.folds) (folded-goes s.text s.inlays s.folds c i)))
