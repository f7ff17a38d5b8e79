-- The text of a layer is its lines.
use Rattle.std.proofs.Common.{◌≡◌, ℕ, ◌+◌, Bool, true, false, cond, List, [], ◌∷◌, ◌++◌, length, length-append, map, flat_map, refl, sym, ap, ◌∙◌, subst, arith, append-nil, append_assoc}
use Rattle.std.proofs.lemmas.List.{take_all, length-map}
use Rattle.std.proofs.lemmas.List.Concat.{flat_map-append}
use Rattle.cell_units.specs.declared.place.Bias.TheVariants.{Right}
use Rattle.cell_units.specs.declared.piece.Piece.{Piece}
use Rattle.cell_units.specs.Text.{line_feed, is_feed}
use Rattle.cell_units.specs.Cutting.{onto_line, cut_lines}
use Rattle.cell_units.specs.Record.{Inlay, Fold, line_count}
use Rattle.cell_units.specs.Inlaid.{Token, Byte, InlayByte, Hidden, bytes_of, is_break, inlays_at, show_each}
use Rattle.cell_units.specs.Folded.{inside, covered, shown, folded, folded_before, folded_to, display_lines}
use Rattle.cell_units.specs.Pieces.{before_break, pieces_of, piece_before, is_one_piece}
use Rattle.cell_units.specs.BufferLines.{buffer_lines}
use Rattle.cell_units.specs.Layers.{Source, shown_lines, shown_text}
use Rattle.cell_units.proofs.BufferLines.{length-buffer_lines}

-- ---- the bytes of a line

abbrev pub tokens_bytes : List Token → List ℕ
tokens_bytes ts = flat_map bytes_of ts

-- how many there are
abbrev pub size : List Token → ℕ
size ts = length (tokens_bytes ts)

pub size-append : (xs ys : List Token) → size (xs ++ ys) ≡ size xs + size ys
size-append xs ys = ap length (flat_map-append bytes_of xs ys) ∙ length-append (tokens_bytes xs) (tokens_bytes ys)

-- the bytes of a line's pieces
abbrev pub line_bytes : List Piece → List ℕ
line_bytes pieces = flat_map (λ p. p.text) pieces

bytes-piece_before : (is_one : Bool) (t : Token) (end : ℕ) (ps : List Piece) → line_bytes (piece_before is_one t end ps) ≡ bytes_of t ++ line_bytes ps
bytes-piece_before is_one t end [] = refl
bytes-piece_before true t end (p ∷ ps) = append_assoc (bytes_of t) p.text (line_bytes ps)
bytes-piece_before false t end (p ∷ ps) = refl

pub bytes-pieces_of : (ts : List Token) → line_bytes (pieces_of ts) ≡ tokens_bytes (before_break ts)
bytes-pieces_of [] = refl
bytes-pieces_of (t ∷ []) = refl
bytes-pieces_of (t ∷ u ∷ us) =
    bytes-piece_before (is_one_piece t u) t _ (pieces_of (u ∷ us))
    ∙ ap (λ (l : List ℕ). bytes_of t ++ l) (bytes-pieces_of (u ∷ us))

-- ---- lines of tokens and lines of bytes

-- lines of which the first begins with a token
pub record Starts (t : Token) (lines : List (List Token)) : Type 0 where
  pub rest : List Token
  pub others : List (List Token)
  pub is : lines ≡ (t ∷ rest) ∷ others

pub starts : (t : Token) (ts : List Token) → Starts t (cut_lines is_break (t ∷ ts))
starts t ts = go (is_break t) (cut_lines is_break ts) where
  go : (c : Bool) (ls : List (List Token)) → Starts t (cond c ((t ∷ []) ∷ ls) (onto_line t ls))
  go true ls = record { rest = []; others = ls; is = refl }
  go false [] = record { rest = []; others = []; is = refl }
  go false (l ∷ ls) = record { rest = l; others = ls; is = refl }

-- tokens with one more have a line
has_line : (ts : List Token) (c : Token) → (t : Token) × Starts t (cut_lines is_break (ts ++ c ∷ []))
has_line [] c = (c, starts c [])
has_line (t ∷ ts) c = (t, starts t (ts ++ c ∷ []))

abbrev bytes_of_line : List Token → List ℕ
bytes_of_line l = tokens_bytes (before_break l)

pub lines_of_bytes : (ts : List Token) (c : Token) → is_break c ≡ true → map bytes_of_line (cut_lines is_break (ts ++ c ∷ [])) ≡ buffer_lines (tokens_bytes ts)
lines_of_bytes [] c e = go (is_break c) where
  go : (b : Bool) → map bytes_of_line (cond b ((c ∷ []) ∷ []) (onto_line c [])) ≡ [] ∷ []
  go true = refl
  go false = refl
lines_of_bytes (t ∷ ts) c e = go t (cut_lines is_break (ts ++ c ∷ [])) (has_line ts c) (lines_of_bytes ts c e) where
  byte : (t : Token) (b : ℕ) → bytes_of t ≡ b ∷ [] → (d : Bool) (u : Token) (us : List Token) (ls : List (List Token)) (bl : List (List ℕ)) →
      map bytes_of_line ((u ∷ us) ∷ ls) ≡ bl → map bytes_of_line (cond d ((t ∷ []) ∷ (u ∷ us) ∷ ls) ((t ∷ u ∷ us) ∷ ls)) ≡ cond d ([] ∷ bl) (onto_line b bl)
  byte t b is true u us ls bl h = ap (λ (l : List (List ℕ)). [] ∷ l) h
  byte t b is false u us ls bl h =
      (λ i. (is i ++ bytes_of_line (u ∷ us)) ∷ map bytes_of_line ls) ∙ ap (onto_line b) h

  by_kind : (t u : Token) (us : List Token) (ls : List (List Token)) → map bytes_of_line ((u ∷ us) ∷ ls) ≡ buffer_lines (tokens_bytes ts) →
      map bytes_of_line (cond (is_break t) ((t ∷ []) ∷ (u ∷ us) ∷ ls) ((t ∷ u ∷ us) ∷ ls)) ≡ buffer_lines (bytes_of t ++ tokens_bytes ts)
  by_kind (Byte o b) u us ls h = byte (Byte o b) b refl (is_feed b) u us ls (buffer_lines (tokens_bytes ts)) h
  by_kind (InlayByte o id b) u us ls h = byte (InlayByte o id b) b refl (is_feed b) u us ls (buffer_lines (tokens_bytes ts)) h
  by_kind (Hidden o) u us ls h = ap (λ (l : List (List ℕ)). onto_line 0xE2 (onto_line 0x8B (onto_line 0xAF l))) h

  go : (t : Token) (ls : List (List Token)) → (u : Token) × Starts u ls → map bytes_of_line ls ≡ buffer_lines (tokens_bytes ts) →
      map bytes_of_line (cond (is_break t) ((t ∷ []) ∷ ls) (onto_line t ls)) ≡ buffer_lines (bytes_of t ++ tokens_bytes ts)
  go t ls (u, s) h =
      subst (λ (k : List (List Token)). map bytes_of_line (cond (is_break t) ((t ∷ []) ∷ k) (onto_line t k)) ≡ buffer_lines (bytes_of t ++ tokens_bytes ts)) (sym s.is)
      (by_kind t u s.rest s.others (ap (map bytes_of_line) (sym s.is) ∙ h))

-- ---- the text's end

pub show_each-append : (g : ℕ → ℕ → List Token) (o : ℕ) (xs ys : List ℕ) → show_each g o (xs ++ ys) ≡ show_each g o xs ++ show_each g (o + length xs) ys
show_each-append g o [] ys = ap (λ (k : ℕ). show_each g k ys) (omega arith)
show_each-append g o (x ∷ xs) ys =
    let at : o + 1 + length xs ≡ o + length (x ∷ xs) = omega arith in
    ap (λ (l : List Token). g o x ++ l) (show_each-append g (o + 1) xs ys ∙ ap (λ (k : ℕ). show_each g (o + 1) xs ++ show_each g k ys) at)
    ∙ sym (append_assoc (g o x) (show_each g (o + 1) xs) (show_each g (o + length (x ∷ xs)) ys))

-- what an offset shows, by the two tests of folds
pub shown_by : (inlays : List Inlay) (folds : List Fold) (o b : ℕ) (i c : Bool) → inside folds o ≡ i → covered folds o ≡ c →
    shown inlays folds o b ≡ cond i [] (inlays_at inlays o ++ (cond c (Hidden o) (Byte o b)) ∷ [])
shown_by inlays folds o b i c e f =
    ap (λ (t : Bool). cond t [] (inlays_at inlays o ++ (cond (covered folds o) (Hidden o) (Byte o b)) ∷ [])) e
    ∙ ap (λ (t : Bool). cond i [] (inlays_at inlays o ++ (cond t (Hidden o) (Byte o b)) ∷ [])) f

-- no fold reaches over the text's end
abbrev pub EndsOpen : Source → Type 0
EndsOpen s = (inside s.folds (length s.text) ≡ false) × (covered s.folds (length s.text) ≡ false)

-- all that is shown is what is before the text's end and after the inlays there, and the break at its end
pub folded_is : (s : Source) → EndsOpen s →
    folded s.text s.inlays s.folds ≡ folded_to s.text s.inlays s.folds (length s.text) Right ++ Byte (length s.text) line_feed ∷ []
folded_is s (i, c) =
    let n = length s.text in
    let g = shown s.inlays s.folds in
    let zero_n : 0 + n ≡ n = omega arith in
    show_each-append g 0 s.text (line_feed ∷ [])
    ∙ (λ k. show_each g 0 s.text ++ show_each g (zero_n k) (line_feed ∷ []))
    ∙ ap (λ (l : List Token). show_each g 0 s.text ++ l) (append-nil (g n line_feed) ∙ shown_by s.inlays s.folds n line_feed false false i c)
    ∙ sym (append_assoc (show_each g 0 s.text) (inlays_at s.inlays n) (Byte n line_feed ∷ []))
    ∙ (λ k. (show_each g 0 (sym (take_all n s.text (omega arith)) k) ++ inlays_at s.inlays n) ++ Byte n line_feed ∷ [])
    ∙ sym (ap (λ (t : Bool). (cond t (folded_before s.text s.inlays s.folds n) (folded_before s.text s.inlays s.folds n ++ inlays_at s.inlays n)) ++ Byte n line_feed ∷ []) i)

map-pieces : (ls : List (List Token)) → map line_bytes (map pieces_of ls) ≡ map bytes_of_line ls
map-pieces [] = refl
map-pieces (l ∷ ls) = λ i. bytes-pieces_of l i ∷ map-pieces ls i

-- the lines of a layer's text are the bytes of its display lines
pub lines_of_text : (s : Source) → EndsOpen s → map line_bytes (shown_lines s) ≡ buffer_lines (shown_text s)
lines_of_text s open_end =
    map-pieces (display_lines s.text s.inlays s.folds)
    ∙ ap (λ (ts : List Token). map bytes_of_line (cut_lines is_break ts)) (folded_is s open_end)
    ∙ lines_of_bytes (folded_to s.text s.inlays s.folds (length s.text) Right) (Byte (length s.text) line_feed) refl

-- there are as many display lines as the text has
pub length-shown_lines : (s : Source) → EndsOpen s → length (shown_lines s) ≡ line_count (shown_text s)
length-shown_lines s open_end =
    sym (length-map (shown_lines s) line_bytes)
    ∙ ap length (lines_of_text s open_end)
    ∙ length-buffer_lines (shown_text s)
