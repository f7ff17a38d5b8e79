-- The display lines of a text without inlays and folds.
use Rattle.std.proofs.Common.{◌≡◌, ℕ, ◌+◌, ◌<◌, zero, suc, Bool, true, false, cond, List, [], ◌∷◌, ◌++◌, length, map, drop, append_assoc, subst, get_or, refl, sym, ap, ◌∙◌, arith}
use Rattle.std.specs.List.{count_by}
use Rattle.std.proofs.lemmas.List.{length-map, take_at, length_push}
use Rattle.cell_units.specs.declared.piece.Piece.{Piece}
use Rattle.cell_units.specs.declared.piece.PieceKind.TheVariants.{Buffer}
use Rattle.cell_units.specs.Text.{line_feed, is_feed, row_of}
use Rattle.cell_units.specs.Cutting.{onto_line, cut_lines}
use Rattle.cell_units.specs.Record.{line_count}
use Rattle.cell_units.specs.Inlaid.{Token, Byte, is_break, show_each}
use Rattle.cell_units.specs.Folded.{shown, display_lines, span_start, span_end}
use Rattle.cell_units.specs.Pieces.{pieces_of, piece_before, folded_lines}
use Rattle.cell_units.specs.BufferLines.{buffer_lines}
use Rattle.cell_units.proofs.BufferLines.{feeds-cons, feeds-append, length-buffer_lines}

-- the lines that bytes show of which the first is at the offset
abbrev lines_from : ℕ → List ℕ → List (List Token)
lines_from o bs = cut_lines is_break (show_each (shown [] []) o (bs ++ line_feed ∷ []))

-- the pieces of a line that starts at the offset: none where it is empty, and else one
abbrev pub line_pieces : ℕ → List ℕ → List Piece
line_pieces start [] = []
line_pieces start (b ∷ bs) = record { kind = Buffer; text = b ∷ bs; start = start; end = start + length (b ∷ bs) } ∷ []

-- the pieces of lines of which the first starts at the offset
abbrev pub pieces_from : ℕ → List (List ℕ) → List (List Piece)
pieces_from start [] = []
pieces_from start (line ∷ lines) = line_pieces start line ∷ pieces_from (start + length line + 1) lines

-- bytes show at least one line, whose first token is a byte at the first offset
record Begins (o : ℕ) (lines : List (List Token)) : Type 0 where
  byte : ℕ
  rest : List Token
  others : List (List Token)
  is : lines ≡ (Byte o byte ∷ rest) ∷ others

begins : (o : ℕ) (bs : List ℕ) → Begins o (lines_from o bs)
begins o [] = record { byte = line_feed; rest = []; others = []; is = refl }
begins o (b ∷ bs) = go (is_feed b) (lines_from (o + 1) bs) where
  go : (c : Bool) (ls : List (List Token)) → Begins o (cond c ((Byte o b ∷ []) ∷ ls) (onto_line (Byte o b) ls))
  go true ls = record { byte = b; rest = []; others = ls; is = refl }
  go false [] = record { byte = b; rest = []; others = []; is = refl }
  go false (l ∷ ls) = record { byte = b; rest = l; others = ls; is = refl }

one_more : (o b : ℕ) (line : List ℕ) → piece_before true (Byte o b) (o + 1) (line_pieces (o + 1) line) ≡ line_pieces o (b ∷ line)
one_more o b [] = refl
one_more o b (c ∷ cs) =
    ap {A = ℕ} {B = List Piece} (λ (end : ℕ). record { kind = Buffer; text = b ∷ c ∷ cs; start = o; end = end } ∷ []) (omega arith)

-- one more byte at the start of the first line
onto_pieces : (o b c : ℕ) (us : List Token) (ls : List (List Token)) (ms : List (List ℕ)) →
    map pieces_of ((Byte (o + 1) c ∷ us) ∷ ls) ≡ pieces_from (o + 1) ms →
    map pieces_of (onto_line (Byte o b) ((Byte (o + 1) c ∷ us) ∷ ls)) ≡ pieces_from o (onto_line b ms)
onto_pieces o b c us ls [] e = absurd (omega (arith, ap length e))
onto_pieces o b c us ls (m ∷ ms) e =
    let head : pieces_of (Byte (o + 1) c ∷ us) ≡ line_pieces (o + 1) m = ap (λ (l : List (List Piece)). get_or l 0 []) e in
    let tail : map pieces_of ls ≡ pieces_from (o + 1 + length m + 1) ms = ap (λ (l : List (List Piece)). drop 1 l) e in
    let at : o + 1 + length m + 1 ≡ o + length (b ∷ m) + 1 = omega arith in
    ap (λ (p : List Piece). p ∷ map pieces_of ls) (ap (piece_before true (Byte o b) (o + 1)) head ∙ one_more o b m)
    ∙ ap (λ (l : List (List Piece)). line_pieces o (b ∷ m) ∷ l) (tail ∙ ap (λ (k : ℕ). pieces_from k ms) at)

pieces_are : (o : ℕ) (bs : List ℕ) → map pieces_of (lines_from o bs) ≡ pieces_from o (buffer_lines bs)
pieces_are o [] = refl
pieces_are o (b ∷ bs) = go (is_feed b) (lines_from (o + 1) bs) (begins (o + 1) bs) (pieces_are (o + 1) bs) where
  go : (c : Bool) (ls : List (List Token)) → Begins (o + 1) ls → map pieces_of ls ≡ pieces_from (o + 1) (buffer_lines bs) →
      map pieces_of (cond c ((Byte o b ∷ []) ∷ ls) (onto_line (Byte o b) ls)) ≡ pieces_from o (cond c ([] ∷ buffer_lines bs) (onto_line b (buffer_lines bs)))
  go true ls r e =
      let at : o + 1 ≡ o + 0 + 1 = omega arith in
      ap (λ (l : List (List Piece)). [] ∷ l) (e ∙ ap (λ (k : ℕ). pieces_from k (buffer_lines bs)) at)
  go false ls r e =
      ap (λ (l : List (List Token)). map pieces_of (onto_line (Byte o b) l)) r.is
      ∙ onto_pieces o b r.byte r.rest r.others (buffer_lines bs) (ap (map pieces_of) (sym r.is) ∙ e)

-- the folded lines of a text without inlays and folds: each of the buffer's lines in one piece
pub unfolded_lines : (text : List ℕ) → folded_lines text [] [] ≡ pieces_from 0 (buffer_lines text)
unfolded_lines text = pieces_are 0 text

-- ---- their spans

feeds-one : (b : ℕ) → count_by is_feed (b ∷ []) ≡ cond (is_feed b) 1 0
feeds-one b = omega (arith, feeds-cons b [])

-- the k-th of the lines is in the row that is k after the first
abbrev AreSpans : List ℕ → ℕ → List (List Token) → Type 0
AreSpans text row [] = Unit {0}
AreSpans text row (l ∷ ls) = (span_start text l ≡ row) × (span_end text l ≡ row) × AreSpans text (row + 1) ls

-- the rows of the bytes after some others
spans : (before bs : List ℕ) → AreSpans (before ++ bs) (count_by is_feed before) (lines_from (length before) bs)
spans before [] =
    let whole : row_of (before ++ []) (length before) ≡ count_by is_feed before = ap (count_by is_feed) (take_at before [] (length before) refl) in
    (whole, whole, tt)
spans before (b ∷ bs) =
    let whole : row_of (before ++ b ∷ bs) (length before) ≡ count_by is_feed before = ap (count_by is_feed) (take_at before (b ∷ bs) (length before) refl) in
    let joined : (before ++ b ∷ []) ++ bs ≡ before ++ b ∷ bs = append_assoc before (b ∷ []) bs in
    let long : length (before ++ b ∷ []) ≡ length before + 1 = length_push before b in
    let more : count_by is_feed (before ++ b ∷ []) ≡ count_by is_feed before + cond (is_feed b) 1 0 =
    feeds-append before (b ∷ []) ∙ ap (λ (n : ℕ). count_by is_feed before + n) (feeds-one b) in
    let rest : AreSpans (before ++ b ∷ bs) (count_by is_feed before + cond (is_feed b) 1 0) (lines_from (length before + 1) bs) =
    subst (λ (t : List ℕ). AreSpans t (count_by is_feed before + cond (is_feed b) 1 0) (lines_from (length before + 1) bs)) joined
    (subst (λ (n : ℕ). AreSpans ((before ++ b ∷ []) ++ bs) n (lines_from (length before + 1) bs)) more
    (subst (λ (n : ℕ). AreSpans ((before ++ b ∷ []) ++ bs) (count_by is_feed (before ++ b ∷ [])) (lines_from n bs)) long
    (spans (before ++ b ∷ []) bs))) in
    go (before ++ b ∷ bs) (count_by is_feed before) (length before) (is_feed b) (lines_from (length before + 1) bs) (begins (length before + 1) bs) whole rest where
      go : (text : List ℕ) (row o : ℕ) (c : Bool) (ls : List (List Token)) → Begins (o + 1) ls → row_of text o ≡ row → AreSpans text (row + cond c 1 0) ls →
          AreSpans text row (cond c ((Byte o b ∷ []) ∷ ls) (onto_line (Byte o b) ls))
      go text row o true ls r e h = (e, e, h)
      go text row o false [] r e h = (e, e, tt)
      go text row o false (l ∷ ls) r e h =
          let first : l ≡ Byte (o + 1) r.byte ∷ r.rest = ap (λ (k : List (List Token)). get_or k 0 []) r.is in
          let none : row + 0 ≡ row = omega arith in (
            e,
            ap (λ (t : List Token). span_end text (Byte o b ∷ t)) first ∙ ap (span_end text) (sym first) ∙ h.1 ∙ none,
            subst (λ (n : ℕ). AreSpans text (n + 1) ls) none h.2,
          )

pub length-display_lines : (text : List ℕ) → length (display_lines text [] []) ≡ line_count text
length-display_lines text =
    sym (length-map (display_lines text [] []) pieces_of)
    ∙ ap length (unfolded_lines text)
    ∙ length-pieces 0 (buffer_lines text)
    ∙ length-buffer_lines text where
      length-pieces : (o : ℕ) (ls : List (List ℕ)) → length (pieces_from o ls) ≡ length ls
      length-pieces o [] = refl
      length-pieces o (l ∷ ls) = ap suc (length-pieces (o + length l + 1) ls)

-- each line is in the row of its number
pub plain_spans : (text : List ℕ) (line : ℕ) → line < line_count text →
    (span_start text (get_or (display_lines text [] []) line []) ≡ line) × (span_end text (get_or (display_lines text [] []) line []) ≡ line)
plain_spans text line lt =
    let s = span_at text 0 line (display_lines text [] []) (spans [] text) (omega (arith, length-display_lines text)) in
    (omega (arith, s.0), omega (arith, s.1)) where
      span_at : (text : List ℕ) (row k : ℕ) (ls : List (List Token)) → AreSpans text row ls → k < length ls →
          (span_start text (get_or ls k []) ≡ row + k) × (span_end text (get_or ls k []) ≡ row + k)
      span_at text row k [] h lt = absurd (omega arith)
      span_at text row zero (l ∷ ls) h lt = (omega (arith, h.0), omega (arith, h.1))
      span_at text row (suc k) (l ∷ ls) h lt =
          let rest = span_at text (row + 1) k ls h.2 (omega arith) in
          (omega (arith, rest.0), omega (arith, rest.1))
