-- Rows and where they start, by the offsets in them.
use Rattle.std.proofs.Common.{◌≡◌, ℕ, zero, suc, ◌+◌, ◌-◌, ◌<◌, ◌≤◌, Bool, true, false, not, List, length, count_by, take, get_or, refl, ap, sym, ◌∙◌, arith}
use Rattle.std.specs.List.{concat, suffix_len}
use Rattle.std.specs.Str.{IsCharBoundary, IsUtf8}
use Rattle.std.proofs.lemmas.List.{get_or-take, length-take-le}
use Rattle.std.proofs.lemmas.List.Sums.{count_by_more_yes, suffix_len_is}
use Rattle.std.proofs.lemmas.Str.{IsUtf8-take}
use Rattle.cell_units.specs.Record.{line_count}
use Rattle.cell_units.specs.Text.{IsBoundary, is_feed, row_of, row_start}
use Rattle.cell_units.specs.BufferLines.{line_end, line_start}
use Rattle.cell_units.proofs.BufferLines.{boundary_at_end, boundary_at_start, feed_at_end, line_count-is, line_end_next, row_of_start}
use Rattle.text_rope.specs.Sizes.{total_size}
use Rattle.text_rope.specs.declared.chunk.TextSize.{TextSize}
use Rattle.cell_units.proofs.PlainLayers.{line_of_offset}
use Rattle.cell_units.proofs.ReplacedRows.{row_of-le, row_of-lt}
use Rattle.text_rope.proofs.Chunks.{total_feeds}

-- the sum of a rope's chunks says how many lines there are
pub line_count_sum : (chunks : List (List ℕ)) (text : List ℕ) (sum : TextSize) → sum ≡ total_size chunks → concat chunks ≡ text → sum.feeds + 1 ≡ line_count text
line_count_sum chunks text sum e f = ap (λ (n : ℕ). n + 1) (ap (λ (s : TextSize). s.feeds) e ∙ total_feeds chunks ∙ ap (λ (t : List ℕ). count_by is_feed t) f) ∙ sym (line_count-is text)

-- before a row's start is a line feed, where that isn't the text's start
feed_before : (text : List ℕ) (row : ℕ) → row < line_count text → 0 < line_start text row → line_start text row ≤ length text → is_feed (get_or text (line_start text row - 1) 0) ≡ true
feed_before text zero lt some within = absurd (omega (arith, some))
feed_before text (suc row) lt some within =
    let one : row + 1 ≡ suc row = omega arith in
    let before : row < line_count text = omega (arith, lt) in
    let next : line_end text row + 1 ≡ line_start text (suc row) = line_end_next text row (omega (arith, lt)) ∙ ap (line_start text) one in
    ap (λ (k : ℕ). is_feed (get_or text k 0)) (omega (arith, next)) ∙ ap is_feed (feed_at_end text row before (omega (arith, next, within)))

-- between a row's start and an offset in it there is no line feed
pub feedless : (text : List ℕ) (o k : ℕ) → o ≤ length text → line_start text (row_of text o) ≤ k → k < o → is_feed (get_or text k 0) ≡ false
feedless text o k le from before = go (is_feed (get_or text k 0)) refl where
  go : (b : Bool) → is_feed (get_or text k 0) ≡ b → b ≡ false
  go false e = refl
  go true e =
      let row = row_of text o in
      let start = row_of_start text row (row_of-lt text o) in
      absurd (omega (arith, count_by_more_yes is_feed text k 0 (omega (arith, before, le)) e, row_of-le text (line_start text row) k from, row_of-le text (k + 1) o (omega (arith, before)), start))

-- so the row of an offset starts where the line of its number does
pub row_start_is : (text : List ℕ) (o : ℕ) → o ≤ length text → row_start text o ≡ line_start text (row_of text o)
row_start_is text o le =
    let start = line_start text (row_of text o) in
    let from : start ≤ o = (line_of_offset text o le).0 in
    let long : length (take o text) ≡ o = length-take-le o text le in
    let behind : suffix_len (λ b. not (is_feed b)) (take o text) ≡ length (take o text) - start =
    suffix_len_is (λ (b : ℕ). not (is_feed b)) (take o text) start 0 (omega (arith, long, from))
    (λ k at lt. ap (λ (b : ℕ). not (is_feed b)) (get_or-take o text k 0 (omega (arith, lt, long))) ∙ ap not (feedless text o k le at (omega (arith, lt, long))))
    (λ some. ap (λ (b : ℕ). not (is_feed b)) (get_or-take o text (start - 1) 0 (omega (arith, some, from))) ∙ ap not (feed_before text (row_of text o) (row_of-lt text o) some (omega (arith, from, le)))) in
    omega (arith, behind, long, from)

-- ---- the line of a row

pub boundary_of : (text : List ℕ) (o : ℕ) → IsUtf8 text → IsCharBoundary text o → IsBoundary text o
boundary_of text o utf8 b = (b.0, IsUtf8-take text o utf8 b)

pub start_boundary : (text : List ℕ) (row : ℕ) → IsUtf8 text → row < line_count text → IsBoundary text (line_start text row)
start_boundary text row utf8 lt = boundary_of text (line_start text row) utf8 (boundary_at_start text row utf8 lt)

pub end_boundary : (text : List ℕ) (row : ℕ) → IsUtf8 text → row < line_count text → IsBoundary text (line_end text row)
end_boundary text row utf8 lt = boundary_of text (line_end text row) utf8 (boundary_at_end text row lt)
