-- Where the row of an offset starts and ends.
use Rattle.std.proofs.Common.{◌≡◌, ℕ, zero, suc, ◌+◌, ◌-◌, ◌<◌, ◌≤◌, Bool, true, false, not, List, length, take, drop, get_or, refl, ap, ◌∙◌, arith}
use Rattle.std.specs.List.{suffix_len}
use Rattle.std.proofs.lemmas.List.{get_or-take, get_or-drop, length-take-le, length-drop}
use Rattle.std.proofs.lemmas.List.Sums.{count_by_more_yes, position_or_len_is, suffix_len_is}
use Rattle.cell_units.specs.Record.{line_count}
use Rattle.cell_units.specs.Text.{is_feed, row_end, row_of, row_start}
use Rattle.cell_units.specs.BufferLines.{line_end, line_start}
use Rattle.cell_units.proofs.BufferLines.{feed_at_end, line_bounds, line_end_next, row_of_end, row_of_start}
use Rattle.cell_units.proofs.PlainLayers.{line_of_offset}
use Rattle.cell_units.proofs.ReplacedRows.{row_of-le, row_of-lt}

-- before a row's start is a line feed, where that isn't the text's start
feed_before : (text : List ℕ) (row : ℕ) → row < line_count text → 0 < line_start text row → line_start text row ≤ length text → is_feed (get_or text (line_start text row - 1) 0) ≡ true
feed_before text zero lt some within = absurd (omega (arith, some))
feed_before text (suc row) lt some within =
    let one : row + 1 ≡ suc row = omega arith in
    let before : row < line_count text = omega (arith, lt) in
    let next : line_end text row + 1 ≡ line_start text (suc row) = line_end_next text row (omega (arith, lt)) ∙ ap (line_start text) one in
    ap (λ (k : ℕ). is_feed (get_or text k 0)) (omega (arith, next)) ∙ ap is_feed (feed_at_end text row before (omega (arith, next, within)))

-- between a row's start and an offset in it there is no line feed
feedless : (text : List ℕ) (o k : ℕ) → o ≤ length text → line_start text (row_of text o) ≤ k → k < o → is_feed (get_or text k 0) ≡ false
feedless text o k le from before = go (is_feed (get_or text k 0)) refl where
  go : (b : Bool) → is_feed (get_or text k 0) ≡ b → b ≡ false
  go false e = refl
  go true e =
      let row = row_of text o in
      let start = row_of_start text row (row_of-lt text o) in
      absurd (omega (arith, count_by_more_yes is_feed text k 0 (omega (arith, before, le)) e, row_of-le text (line_start text row) k from, row_of-le text (k + 1) o (omega (arith, before)), start))

-- so the row of an offset starts where the line of its number does
pub row_start_is : (text : List ℕ) (o : ℕ) → o ≤ length text → row_start text o ≡ line_start text (row_of text o)
row_start_is text o le =
    let start = line_start text (row_of text o) in
    let from : start ≤ o = (line_of_offset text o le).0 in
    let long : length (take o text) ≡ o = length-take-le o text le in
    let behind : suffix_len (λ b. not (is_feed b)) (take o text) ≡ length (take o text) - start =
    suffix_len_is (λ (b : ℕ). not (is_feed b)) (take o text) start 0 (omega (arith, long, from))
    (λ k at lt. ap (λ (b : ℕ). not (is_feed b)) (get_or-take o text k 0 (omega (arith, lt, long))) ∙ ap not (feedless text o k le at (omega (arith, lt, long))))
    (λ some. ap (λ (b : ℕ). not (is_feed b)) (get_or-take o text (start - 1) 0 (omega (arith, some, from))) ∙ ap not (feed_before text (row_of text o) (row_of-lt text o) some (omega (arith, from, le)))) in
    omega (arith, behind, long, from)

-- before a row's end there is no feed
no_feed : (text : List ℕ) (line o : ℕ) → line < line_count text → line_start text line ≤ o → o < line_end text line → is_feed (get_or text o 0) ≡ false
no_feed text line o lt from to =
    let row : row_of text (line_end text line) ≡ line = row_of_end text line lt in
    feedless text (line_end text line) o (line_bounds text line lt).1 (omega (arith, from, ap (line_start text) row)) to

pub row_end_is : (text : List ℕ) (o : ℕ) → o ≤ length text → row_end text o ≡ line_end text (row_of text o)
row_end_is text o le =
    let line = row_of text o in
    let lt = row_of-lt text o in
    let at = line_of_offset text o le in
    let bounds = line_bounds text line lt in
    let n = line_end text line - o in
    let none = λ (k : ℕ) (before : k < n).
    ap is_feed (get_or-drop o text k 0) ∙ no_feed text line (o + k) lt (omega (arith, at.0)) (omega (arith, before)) in
    let ends = λ (within : n < length (drop o text)).
    let here : o + n ≡ line_end text line = omega (arith, at.1) in
    ap is_feed (get_or-drop o text n 0 ∙ ap (λ (k : ℕ). get_or text k 0) here ∙ feed_at_end text line lt (omega (arith, within, length-drop o text))) in
    omega (arith, at.1, position_or_len_is is_feed (drop o text) n 0 (omega (arith, bounds.1, length-drop o text)) none ends)
