-- At an open position each element before its place ends at or before the offset, and each other one begins at or after it.
use Rattle.std.proofs.Common.{◌≡◌, ◌⊎◌, ℕ, ◌+◌, ◌-◌, ◌<◌, ◌≤◌, ◌==◌, not, ◌&&◌, zero, suc, Bool, true, false, cond, List, [], ◌∷◌, ◌++◌, length, map, take, drop, get_or, filter, flat_map, refl, sym, ap, subst, ◌∙◌, inl, inr, arith, append_assoc}
use Rattle.std.specs.List.{after_last, count_by}
use Rattle.std.specs.Str.{IsUtf8}
use Rattle.std.proofs.lemmas.Bool.{cases_Bool, eqb-true, false≢true}
use Rattle.std.proofs.lemmas.List.{drop_more, get_or-map, length-map, length-take-le, length_push, take-append-drop, take-append-le}
use Rattle.cell_units.specs.declared.piece.Piece.{Piece}
use Rattle.cell_units.specs.declared.place.Bias.{Bias}
use Rattle.cell_units.specs.declared.place.Bias.TheVariants.{Left, Right}
use Rattle.cell_units.specs.Text.{clean, line_feed}
use Rattle.cell_units.specs.Record.{Inlay, Record}
use Rattle.cell_units.specs.Lawful.{IsLawful, source_of}
use Rattle.cell_units.specs.Cutting.{cut_lines, onto_line}
use Rattle.cell_units.specs.Inlaid.{Byte, Hidden, InlayByte, Token, bytes_of, inlay_bytes, inlays_at, is_break, offset_of, show_each}
use Rattle.cell_units.specs.Folded.{covered, display_lines, folded, folded_to, inside, line_of, place_in_line, shown}
use Rattle.cell_units.specs.Pieces.{folded_lines, pieces_of}
use Rattle.cell_units.proofs.BufferPieces as goes
use Rattle.cell_units.proofs.BufferPieces.{Goes, folded-goes, lines-go}
use Rattle.cell_units.proofs.CutLists.{Every, Every-append}
use Rattle.cell_units.proofs.FoundEntries.{All-from_Every}
use Rattle.cell_units.proofs.Sources.{ends_open}
use Rattle.cell_line.specs.declared.element.Element.{Element}
use Rattle.cell_line.specs.Elements.{clusters, elements_of, placed, cells_of}
use Rattle.plain_rows.specs.Spots.{elements_at, elements_before, is_open, is_within}
use Rattle.plain_rows.proofs.FoldedFronts.{show_each-append}
use Rattle.plain_rows.proofs.LineAt.{first-line, line-at, line-within}
use Rattle.plain_rows.proofs.RowsOfLines.{elements-at}
use Rattle.spot_laws.proofs.LawfulLines.{line-texts}
use Rattle.spot_laws.proofs.PieceTexts.{AreUtf8, texts, texts-pieces}
use Rattle.row_pieces.specs.declared.row_piece.RowPiece.{RowPiece}
use Rattle.row_pieces.specs.Laws.{LieApart, line_at, pieces_at, place_at}
use Rattle.row_pieces.specs.Pieces.{bits}
use Rattle.row_pieces.proofs.OpenPlaces.{IsOwn, split}
use Rattle.row_pieces.proofs.SplitPieces.{Splits, parted}

-- ---- lists

every-drop : {X : Type 0} (P : X → Type 0) (n : ℕ) (xs : List X) → Every P xs → Every P (drop n xs)
every-drop P zero xs h = h
every-drop P (suc n) [] h = tt
every-drop P (suc n) (x ∷ xs) h = every-drop P n xs h.1

-- what holds of all holds of each line into which they are cut
cut-every : {X : Type 0} (P : X → Type 0) (p : X → Bool) (xs : List X) → Every P xs → Every (Every P) (cut_lines p xs)
cut-every P p [] h = tt
cut-every {X = X} P p (x ∷ xs) h = go (p x) (cut_lines p xs) (cut-every P p xs h.1) where
  go : (b : Bool) (ls : List (List X)) → Every (Every P) ls → Every (Every P) (cond b ((x ∷ []) ∷ ls) (onto_line x ls))
  go true ls k = ((h.0, tt), k)
  go false [] k = ((h.0, tt), tt)
  go false (l ∷ ls) k = ((h.0, k.0), k.1)

line-goes : (text : List ℕ) (ls : List (List Token)) (k : ℕ) → goes.Every (Goes text) ls → k < length ls → Goes text (get_or ls k [])
line-goes text [] k h lt = absurd (omega (arith, lt))
line-goes text (l ∷ ls) zero h lt = h.0
line-goes text (l ∷ ls) (suc k) h lt = line-goes text ls k h.1 (omega (arith, lt))

utf8-each : (ps : List Piece) → AreUtf8 (map (λ (p : Piece). p.text) ps) → Every (λ p. IsUtf8 p.text) ps
utf8-each [] h = tt
utf8-each (p ∷ ps) h = (h.0, utf8-each ps h.1)

texts-placed : (tab column : ℕ) (ts : List (List ℕ)) → map (λ (e : Element). e.text) (placed tab column ts) ≡ ts
texts-placed tab column [] = refl
texts-placed tab column (t ∷ ts) = ap (λ (l : List (List ℕ)). t ∷ l) (texts-placed tab (column + cells_of tab column t) ts)

-- ---- offsets of tokens

every-map : {X : Type 0} (P Q : X → Type 0) → ((x : X) → P x → Q x) → (xs : List X) → Every P xs → Every Q xs
every-map P Q f [] h = tt
every-map P Q f (x ∷ xs) h = (f x h.0, every-map P Q f xs h.1)

inlay-at : (o id : ℕ) (bs : List ℕ) → Every (λ t. offset_of t ≡ o) (map (InlayByte o id) bs)
inlay-at o id [] = tt
inlay-at o id (b ∷ bs) = (refl, inlay-at o id bs)

inlays-at : (inlays : List Inlay) (o : ℕ) → Every (λ t. offset_of t ≡ o) (inlays_at inlays o)
inlays-at [] o = tt
inlays-at (i ∷ is) o = go (i.offset == o) refl (inlays-at is o) where
  go : (d : Bool) → (i.offset == o) ≡ d → Every (λ t. offset_of t ≡ o) (inlays_at is o) →
      Every (λ t. offset_of t ≡ o) (flat_map inlay_bytes (cond d (i ∷ filter (λ i. i.offset == o) is) (filter (λ i. i.offset == o) is)))
  go false e h = h
  go true e h =
      Every-append (λ t. offset_of t ≡ o) (inlay_bytes i) (inlays_at is o)
      (every-map (λ t. offset_of t ≡ i.offset) (λ t. offset_of t ≡ o) (λ t is. is ∙ eqb-true i.offset o e) (inlay_bytes i) (inlay-at i.offset i.id (clean i.text)))
      h

own-at : (c : Bool) (o b : ℕ) → offset_of (cond c (Hidden o) (Byte o b)) ≡ o
own-at true o b = refl
own-at false o b = refl

own-is : (c : Bool) (o b : ℕ) → IsOwn (cond c (Hidden o) (Byte o b))
own-is true o b = tt
own-is false o b = tt

module _ (r : Record) where
  abbrev f : ℕ → ℕ → List Token
  f = shown r.inlays r.folds

  shown-at : (o b : ℕ) → Every (λ t. offset_of t ≡ o) (f o b)
  shown-at o b = go (inside r.folds o) where
    go : (i : Bool) → Every (λ t. offset_of t ≡ o) (cond i [] (inlays_at r.inlays o ++ (cond (covered r.folds o) (Hidden o) (Byte o b)) ∷ []))
    go true = tt
    go false = Every-append (λ t. offset_of t ≡ o) (inlays_at r.inlays o) ((cond (covered r.folds o) (Hidden o) (Byte o b)) ∷ []) (inlays-at r.inlays o) (own-at (covered r.folds o) o b, tt)

  -- of bytes the first of which has an offset
  each-from : (o : ℕ) (bs : List ℕ) → Every (λ t. o ≤ offset_of t) (show_each f o bs)
  each-from o [] = tt
  each-from o (b ∷ bs) =
      Every-append (λ t. o ≤ offset_of t) (f o b) (show_each f (o + 1) bs)
      (every-map (λ t. offset_of t ≡ o) (λ t. o ≤ offset_of t) (λ t h. omega (arith, h)) (f o b) (shown-at o b))
      (every-map (λ t. o + 1 ≤ offset_of t) (λ t. o ≤ offset_of t) (λ t h. omega (arith, h)) (show_each f (o + 1) bs) (each-from (o + 1) bs))

  each-below : (o : ℕ) (bs : List ℕ) (end : ℕ) → o + length bs ≡ end → Every (λ t. offset_of t < end) (show_each f o bs)
  each-below o [] end e = tt
  each-below o (b ∷ bs) end e =
      Every-append (λ t. offset_of t < end) (f o b) (show_each f (o + 1) bs)
      (every-map (λ t. offset_of t ≡ o) (λ t. offset_of t < end) (λ t h. omega (arith, h, e)) (f o b) (shown-at o b))
      (each-below (o + 1) bs end (omega (arith, e)))

  module _ (is : IsLawful r) where
    abbrev all : List Token
    all = folded r.text r.inlays r.folds

    -- a place between two tokens
    module _ (before : List Token) (z : Token) (rest : List Token) (whole : all ≡ before ++ z ∷ rest) (o : ℕ) (at : offset_of z ≡ o)
        (low : Every (λ t. offset_of t ≤ o) before) (high : Every (λ t. o ≤ offset_of t) rest) (own : IsOwn z ⊎ Every (λ t. offset_of t < o) before) where
      abbrev line : ℕ
      line = count_by is_break before

      abbrev front : List Token
      front = after_last is_break before

      abbrev back : List Token
      back = let first = first-line is_break z rest in first.line

      lines-are : display_lines r.text r.inlays r.folds ≡ cut_lines is_break (before ++ z ∷ rest)
      lines-are = ap (cut_lines is_break) whole

      tokens-are : get_or (display_lines r.text r.inlays r.folds) line [] ≡ front ++ z ∷ back
      tokens-are = ap (λ (ls : List (List Token)). get_or ls line []) lines-are ∙ line-at is_break before z rest

      within : line < length (display_lines r.text r.inlays r.folds)
      within = omega (arith, ap (λ (ls : List (List Token)). length ls) lines-are, line-within is_break before z rest)

      pieces-are : pieces_at r line ≡ pieces_of (front ++ z ∷ back)
      pieces-are = get_or-map pieces_of (display_lines r.text r.inlays r.folds) line [] [] within ∙ ap pieces_of tokens-are

      goes-on : Goes r.text (front ++ z ∷ back)
      goes-on =
          let ends = ends_open (source_of r) is.entries.source in
          subst (Goes r.text) tokens-are
          (line-goes r.text (display_lines r.text r.inlays r.folds) line (lines-go r.text all (folded-goes r.text r.inlays r.folds ends.1 ends.0)) within)

      back-high : Every (λ t. o ≤ offset_of t) back
      back-high =
          let first = first-line is_break z rest in
          let cut = cut-every (λ t. o ≤ offset_of t) is_break (z ∷ rest) (omega (arith, at), high) in
          let both = subst (Every (Every (λ t. o ≤ offset_of t))) first.is cut in
          both.0.1

      own-front : IsOwn z ⊎ Every (λ t. offset_of t < o) front
      own-front = go own where
        go : IsOwn z ⊎ Every (λ t. offset_of t < o) before → IsOwn z ⊎ Every (λ t. offset_of t < o) front
        go (inl h) = inl h
        go (inr h) = inr (every-drop (λ t. offset_of t < o) _ before h)

      splits : Splits o (pieces_at r line) (length (flat_map bytes_of front))
      splits =
          subst (λ (ps : List Piece). Splits o ps (length (flat_map bytes_of front))) (sym pieces-are)
          (split r.text o front z back goes-on at (every-drop (λ t. offset_of t ≤ o) _ before low) back-high own-front)

      apart : (bias : Bias) → is_within (elements_at r line) (length (flat_map bytes_of front)) ≡ false →
          LieApart (bits (pieces_at r line) (elements_of (pieces_at r line) r.tab)) (elements_before (elements_at r line) (length (flat_map bytes_of front)) bias) o
      apart bias out =
          let ps = pieces_at r line in
          let n = length (flat_map bytes_of front) in
          let es : elements_at r line ≡ elements_of ps r.tab = elements-at r is.marked line (omega (arith, within, is.marked)) in
          let utf8 = utf8-each ps (subst AreUtf8 (sym (texts-pieces (front ++ z ∷ back)) ∙ ap (map (λ (p : Piece). p.text)) (sym pieces-are)) (subst AreUtf8 (ap texts tokens-are) (line-texts r is line within))) in
          let a = parted o ps n splits (elements_of ps r.tab) bias utf8 (texts-placed r.tab 0 (clusters ps)) (subst (λ (l : List Element). is_within l n ≡ false) es out) in
          let place : elements_before (elements_of ps r.tab) n bias ≡ elements_before (elements_at r line) n bias = ap (λ (l : List Element). elements_before l n bias) (sym es) in
          subst (λ (k : ℕ). LieApart (bits ps (elements_of ps r.tab)) k o) place
          (record { before = All-from_Every (λ (e : RowPiece). e.end ≤ o) _ a.before; others = All-from_Every (λ (e : RowPiece). o ≤ e.start) _ a.others })

    -- ---- an offset that is inside no fold

    module _ (o : ℕ) (le : o ≤ length r.text) (out : inside r.folds o ≡ false) where
      abbrev full : List ℕ
      full = r.text ++ line_feed ∷ []

      abbrev before : List Token
      before = show_each f 0 (take o r.text)

      abbrev ins : List Token
      ins = inlays_at r.inlays o

      abbrev own : Token
      own = cond (covered r.folds o) (Hidden o) (Byte o (get_or full o 0))

      abbrev rest : List Token
      rest = show_each f (o + 1) (drop (o + 1) full)

      whole : all ≡ before ++ (ins ++ own ∷ rest)
      whole =
          let lt : o < length full = omega (arith, le, length_push r.text line_feed) in
          let parts : full ≡ take o r.text ++ (get_or full o 0 ∷ drop (o + 1) full) =
          sym (take-append-drop o full) ∙ (λ i. take-append-le o r.text (line_feed ∷ []) le i ++ drop_more full o 0 lt i) in
          let at : 0 + length (take o r.text) ≡ o = omega (arith, length-take-le o r.text le) in
          ap (show_each f 0) parts
          ∙ show_each-append f 0 (take o r.text) (get_or full o 0 ∷ drop (o + 1) full)
          ∙ ap (λ (k : ℕ). before ++ show_each f k (get_or full o 0 ∷ drop (o + 1) full)) at
          ∙ ap (λ (b : Bool). before ++ (cond b [] (ins ++ own ∷ []) ++ rest)) out
          ∙ ap (λ (l : List Token). before ++ l) (append_assoc ins (own ∷ []) rest)

      below : Every (λ t. offset_of t < o) before
      below = each-below 0 (take o r.text) o (omega (arith, length-take-le o r.text le))

      behind : Every (λ t. o ≤ offset_of t) rest
      behind = every-map (λ t. o + 1 ≤ offset_of t) (λ t. o ≤ offset_of t) (λ t h. omega (arith, h)) rest (each-from (o + 1) (drop (o + 1) full))

      at-or-below : Every (λ t. offset_of t ≤ o) before
      at-or-below = every-map (λ t. offset_of t < o) (λ t. offset_of t ≤ o) (λ t h. omega (arith, h)) before below

      -- the elements lie apart at the place after some tokens
      abbrev LieAt : List Token → Bias → Type 0
      LieAt front bias =
          let line = count_by is_break front in
          let byte = length (flat_map bytes_of (after_last is_break front)) in
          is_within (elements_at r line) byte ≡ false →
          LieApart (bits (pieces_at r line) (elements_of (pieces_at r line) r.tab)) (elements_before (elements_at r line) byte bias) o

      left : LieAt before Left
      left = go ins refl whole (inlays-at r.inlays o) where
        go : (is : List Token) → ins ≡ is → all ≡ before ++ (is ++ own ∷ rest) → Every (λ t. offset_of t ≡ o) is → LieAt before Left
        go [] e whole at = apart before own rest whole o (own-at (covered r.folds o) o (get_or full o 0)) at-or-below behind (inl (own-is (covered r.folds o) o (get_or full o 0))) Left
        go (i ∷ more) e whole at =
            let high = Every-append (λ t. o ≤ offset_of t) more (own ∷ rest) (every-map (λ t. offset_of t ≡ o) (λ t. o ≤ offset_of t) (λ t h. omega (arith, h)) more at.1)
            (omega (arith, own-at (covered r.folds o) o (get_or full o 0)), behind) in
            apart before i (more ++ own ∷ rest) whole o at.0 at-or-below high (inr below) Left

      right : LieAt (before ++ ins) Right
      right =
          apart (before ++ ins) own rest (whole ∙ sym (append_assoc before ins (own ∷ rest))) o (own-at (covered r.folds o) o (get_or full o 0))
          (Every-append (λ t. offset_of t ≤ o) before ins at-or-below (every-map (λ t. offset_of t ≡ o) (λ t. offset_of t ≤ o) (λ t h. omega (arith, h)) ins (inlays-at r.inlays o)))
          behind (inl (own-is (covered r.folds o) o (get_or full o 0))) Right

      at-place : (bias : Bias) → LieAt (folded_to r.text r.inlays r.folds o bias) bias
      at-place Left = subst (λ (ts : List Token). LieAt ts Left) (sym (ap (λ (b : Bool). cond b (take (length before - 1) before) before) out)) left
      at-place Right = subst (λ (ts : List Token). LieAt ts Right) (sym (ap (λ (b : Bool). cond b before (before ++ ins)) out)) right

open-parts : (a b : Bool) → (not a && not b) ≡ true → (a ≡ false) × (b ≡ false)
open-parts false false h = (refl, refl)
open-parts false true h = absurd (false≢true h)
open-parts true b h = absurd (false≢true h)

pub open-offsets : (r : Record) (o : ℕ) (bias : Bias) → IsLawful r → o ≤ length r.text → is_open r o bias ≡ true →
    LieApart (bits (pieces_at r (line_at r o bias)) (elements_of (pieces_at r (line_at r o bias)) r.tab)) (place_at r o bias) o
unfolding is_open
open-offsets r o bias is le open_here =
    let parts = open-parts (inside r.folds o) (is_within (elements_at r (line_at r o bias)) (place_in_line r.text r.inlays r.folds o bias)) open_here in
    at-place r is o le parts.0 bias parts.1
