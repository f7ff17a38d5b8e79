-- The rows of a text as the lines of the layer that it is.
use Rattle.std.proofs.Common.{◌≡◌, ℕ, ◌+◌, ◌-◌, ◌<◌, ◌≤◌, true, false, List, [], ◌∷◌, Some, length, take, drop, get_or, slice_range, ap, ◌∙◌, arith}
use Rattle.std.specs.Prelude.{slice_get}
use Rattle.std.proofs.lemmas.List.{get_or-drop, length-drop, length-take-le}
use Rattle.std.proofs.lemmas.List.Sums.{position_or_len_is}
use Rattle.cell_units.specs.Text.{is_feed, row_end, row_of}
use Rattle.cell_units.specs.Record.{line_count}
use Rattle.cell_units.specs.BufferLines.{line_end, line_start}
use Rattle.cell_units.specs.declared.piece.Piece.{Piece}
use Rattle.cell_units.specs.declared.piece.PieceKind.TheVariants.{Buffer}
use Rattle.cell_units.specs.Layers.{plain_source, shown_lines}
use Rattle.cell_units.proofs.BufferLines.{feed_at_end, line_bounds, row_of_end}
use Rattle.cell_units.proofs.PlainLayers.{line_of_offset, plain_line_is}
use Rattle.cell_units.proofs.ReplacedRows.{row_of-lt}
use Rattle.cell_units.proofs.Unfolded.{line_pieces}
use Rattle.text_rope.proofs.RowStarts.{feedless}

pub true_false : true ≡ false → ⊥
true_false e = grind (arith, e)

-- ---- where a row ends

-- before a row's end there is no feed
no_feed : (text : List ℕ) (line o : ℕ) → line < line_count text → line_start text line ≤ o → o < line_end text line → is_feed (get_or text o 0) ≡ false
no_feed text line o lt from to =
    let row : row_of text (line_end text line) ≡ line = row_of_end text line lt in
    feedless text (line_end text line) o (line_bounds text line lt).1 (omega (arith, from, ap (line_start text) row)) to

pub row_end_is : (text : List ℕ) (o : ℕ) → o ≤ length text → row_end text o ≡ line_end text (row_of text o)
row_end_is text o le =
    let line = row_of text o in
    let lt = row_of-lt text o in
    let at = line_of_offset text o le in
    let bounds = line_bounds text line lt in
    let n = line_end text line - o in
    let none = λ (k : ℕ) (before : k < n).
    ap is_feed (get_or-drop o text k 0) ∙ no_feed text line (o + k) lt (omega (arith, at.0)) (omega (arith, before)) in
    let ends = λ (within : n < length (drop o text)).
    let here : o + n ≡ line_end text line = omega (arith, at.1) in
    ap is_feed (get_or-drop o text n 0 ∙ ap (λ (k : ℕ). get_or text k 0) here ∙ feed_at_end text line lt (omega (arith, within, length-drop o text))) in
    omega (arith, at.1, position_or_len_is is_feed (drop o text) n 0 (omega (arith, bounds.1, length-drop o text)) none ends)

-- ---- its piece

one_piece : (start end : ℕ) (bytes : List ℕ) → 0 < length bytes → start + length bytes ≡ end →
    line_pieces start bytes ≡ record { kind = Buffer; text = bytes; start = start; end = end } ∷ []
one_piece start end [] some e = absurd (omega (arith, some))
one_piece start end (b ∷ bs) some e = ap {A = ℕ} {B = List Piece} (λ (k : ℕ). record { kind = Buffer; text = b ∷ bs; start = start; end = k } ∷ []) e

length-row : (text : List ℕ) (line : ℕ) → line < line_count text →
    line_start text line + length (slice_range text (line_start text line) (line_end text line)) ≡ line_end text line
length-row text line lt =
    let b = line_bounds text line lt in
    let start = line_start text line in
    omega (
      arith,
      b.0,
      b.1,
      length-drop start text,
      length-take-le (line_end text line - start) (drop start text) (omega (arith, b.1, length-drop start text)),
    )

-- an empty row has none
pub no_piece : (text : List ℕ) (line : ℕ) → line < line_count text → line_start text line ≡ line_end text line → slice_get (shown_lines (plain_source text)) line ≡ Some []
no_piece text line lt e =
    let none : line_end text line - line_start text line ≡ 0 = omega (arith, e) in
    plain_line_is text line lt
    ∙ ap (λ (n : ℕ). Some (line_pieces (line_start text line) (take n (drop (line_start text line) text)))) none

-- any other has one, with all its bytes
pub whole_row : (text : List ℕ) (line : ℕ) → line < line_count text → line_start text line < line_end text line →
    slice_get (shown_lines (plain_source text)) line
    ≡ Some (record { kind = Buffer; text = slice_range text (line_start text line) (line_end text line); start = line_start text line; end = line_end text line } ∷ [])
whole_row text line lt some =
    let long = length-row text line lt in
    plain_line_is text line lt
    ∙ ap {A = List Piece} Some (one_piece (line_start text line) (line_end text line) (slice_range text (line_start text line) (line_end text line)) (omega (arith, some, long)) long)
