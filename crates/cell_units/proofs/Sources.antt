-- What is so of each layer.
use Rattle.std.proofs.Common.{◌≡◌, ℕ, ◌+◌, ◌<◌, ◌≤◌, ◌⊎◌, Bool, true, false, cond, List, [], ◌∷◌, length, get_or, refl, sym, ap, ◌∙◌, subst, inl, inr, arith}
use Rattle.std.specs.List.{All, count_by}
use Rattle.std.proofs.lemmas.Bool.{cases_Bool}
use Rattle.std.proofs.lemmas.List.{get_or-map, get_or_default}
use Rattle.std.proofs.lemmas.List.Elements.{All-cons, All-nil}
use Rattle.cell_units.specs.declared.piece.Piece.{Piece}
use Rattle.cell_units.specs.Text.{is_feed, row_of}
use Rattle.cell_units.specs.Record.{line_count}
use Rattle.cell_units.specs.Folded.{covered}
use Rattle.cell_units.specs.BufferLines.{buffer_lines}
use Rattle.cell_units.specs.Lawful.{IsWellFormed}
use Rattle.cell_units.specs.Layers.{Source, shown_lines, shown_text}
use Rattle.cell_units.specs.Laws.{HasNoFeed, IsCopied}
use Rattle.cell_units.proofs.BufferLines.{buffer_line, feeds-append, feeds-cons, line_count-is}
use Rattle.cell_units.proofs.BufferPieces.{shown-copied}
use Rattle.cell_units.proofs.Joined.{covered_inside, covered_of}
use Rattle.cell_units.proofs.ReplacedRows.{row_of-lt}
use Rattle.cell_units.proofs.ShownText.{EndsOpen, length-shown_lines, line_bytes, lines_of_text}

-- no fold reaches over the text's end
pub ends_open : (s : Source) → IsWellFormed s → EndsOpen s
ends_open s w = (covered_inside s.folds n none, none) where
  n : ℕ
  n = length s.text

  none : covered s.folds n ≡ false
  none = go (cases_Bool (covered s.folds n)) where
    go : (covered s.folds n ≡ true) ⊎ (covered s.folds n ≡ false) → covered s.folds n ≡ false
    go (inr h) = h
    go (inl h) =
        let r = covered_of s.folds n h in
        let m = r.1 in
        let within : r.0.end ≤ n = subst (λ f. f.end ≤ n) m.2 (w.folds.each m.0 r.0 m.1).end.0 in
        absurd (omega (arith, within, r.3))

-- ---- lines

-- there is one line more than the text has line feeds
pub lines-are : (s : Source) → IsWellFormed s → length (shown_lines s) ≡ count_by is_feed (shown_text s) + 1
lines-are s w = length-shown_lines s (ends_open s w) ∙ line_count-is (shown_text s)

-- each place is on a line
pub row-lt : (s : Source) → IsWellFormed s → (place : ℕ) → row_of (shown_text s) place < length (shown_lines s)
row-lt s w place = omega (arith, length-shown_lines s (ends_open s w), row_of-lt (shown_text s) place)

-- a line's pieces have the bytes of the text's line of that number
line-bytes : (s : Source) → IsWellFormed s → (line : ℕ) → line < length (shown_lines s) → line_bytes (get_or (shown_lines s) line []) ≡ get_or (buffer_lines (shown_text s)) line []
line-bytes s w line lt =
    sym (get_or-map line_bytes (shown_lines s) line [] [] lt)
    ∙ ap (λ (ls : List (List ℕ)). get_or ls line []) (lines_of_text s (ends_open s w))

-- ---- pieces

no_feeds : (bytes : List ℕ) → count_by is_feed bytes ≡ 0 → All (λ b. is_feed b ≡ false) bytes
no_feeds [] e = All-nil (λ b. is_feed b ≡ false)
no_feeds (b ∷ bs) e = go (is_feed b) refl (feeds-cons b bs) (λ rest. no_feeds bs rest) where
  go : (c : Bool) → is_feed b ≡ c → count_by is_feed (b ∷ bs) ≡ cond c 1 0 + count_by is_feed bs →
      (count_by is_feed bs ≡ 0 → All (λ b. is_feed b ≡ false) bs) → All (λ b. is_feed b ≡ false) (b ∷ bs)
  go true is sum none = absurd (omega (arith, e, sum))
  go false is sum none = All-cons (λ b. is_feed b ≡ false) b bs is (none (omega (arith, e, sum)))

no_feeds_in : (pieces : List Piece) → count_by is_feed (line_bytes pieces) ≡ 0 → All HasNoFeed pieces
no_feeds_in [] e = All-nil HasNoFeed
no_feeds_in (p ∷ ps) e =
    let sum = feeds-append p.text (line_bytes ps) in
    All-cons HasNoFeed p ps (no_feeds p.text (omega (arith, e, sum))) (no_feeds_in ps (omega (arith, e, sum)))

-- no piece has a line feed
pub no-feeds : (s : Source) → IsWellFormed s → All (λ pieces. All HasNoFeed pieces) (shown_lines s)
no-feeds s w line d lt =
    let within : line < line_count (shown_text s) = omega (arith, lt, length-shown_lines s (ends_open s w)) in
    let r = buffer_line (shown_text s) line within in
    let none : count_by is_feed (line_bytes (get_or (shown_lines s) line [])) ≡ 0 =
    ap (count_by is_feed) (line-bytes s w line lt ∙ r.line_is) ∙ r.feedless in
    subst (λ (pieces : List Piece). All HasNoFeed pieces) (get_or_default (shown_lines s) line [] d lt)
    (no_feeds_in (get_or (shown_lines s) line []) none)

-- each piece of the buffer holds the buffer's bytes
pub copied : (s : Source) → IsWellFormed s → All (λ pieces. All (IsCopied s.text) pieces) (shown_lines s)
copied s w = shown-copied s (ends_open s w)
