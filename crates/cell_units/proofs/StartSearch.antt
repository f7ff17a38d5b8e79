-- The row of an offset, by a search among the starts of lines.
use Rattle.std.proofs.Common.{◌≡◌, ℕ, ◌+◌, ◌<◌, ◌≤◌, nat_le, zero, suc, true, false, List, length, get_or, sym, ap, ◌∙◌, inl, inr, arith}
use Rattle.std.specs.List.Sorted.{IsPartitionedBy, IsPartitionPoint}
use Rattle.std.proofs.lemmas.Bool.{cases_lt, leb-true, le-leb}
use Rattle.std.proofs.lemmas.List.{get_or_default}
use Rattle.std.proofs.lemmas.List.Sums.{prefix_len_is}
use Rattle.cell_units.specs.Text.{row_of}
use Rattle.cell_units.specs.Record.{line_count}
use Rattle.cell_units.specs.BufferLines.{line_starts, line_start}
use Rattle.cell_units.proofs.BufferLines.{length-line_starts, line_bounds, line_end_next, row_of_starts}

-- a line starts after those before it
pub line_start-le : (text : List ℕ) (i j : ℕ) → i ≤ j → j < line_count text → line_start text i ≤ line_start text j
line_start-le text zero zero le lt = omega arith
line_start-le text (suc i) zero le lt = absurd (omega arith)
line_start-le text i (suc j) le lt = elim (cases_lt j i) [
  | inl past ↦
      let same : i ≡ suc j = omega (arith, past, le) in
      let start : line_start text i ≡ line_start text (suc j) = ap (line_start text) same in
      omega arith
  | inr before ↦
      let next : j + 1 ≡ suc j = omega arith in
      let start : line_start text (j + 1) ≡ line_start text (suc j) = ap (line_start text) next in
      omega (arith, line_start-le text i j before (omega arith), (line_bounds text j (omega arith)).0, line_end_next text j (omega arith), start)
]

-- the starts up to an offset come first
pub starts_partitioned : (text : List ℕ) (o : ℕ) → IsPartitionedBy (λ s. nat_le s o) (line_starts text)
starts_partitioned text o i j d le lt h =
    let starts = line_starts text in
    let first : get_or starts i d ≡ get_or starts i 0 = get_or_default starts i d 0 (omega arith) in
    let later : get_or starts j d ≡ get_or starts j 0 = get_or_default starts j d 0 lt in
    let upto : get_or starts j d ≤ o = leb-true (get_or starts j d) o h in
    le-leb (get_or starts i d) o (omega (arith, line_start-le text i j le (omega (arith, length-line_starts text)), first, later, upto))

-- as many as its row, and one more
pub row_of_searched : (text : List ℕ) (o i : ℕ) → i ≤ length (line_starts text) →
    IsPartitionPoint (λ s. nat_le s o ≡ true) (λ s. nat_le s o ≡ false) (line_starts text) i → row_of text o + 1 ≡ i
row_of_searched text o i le h =
    sym (row_of_starts text o)
    ∙ prefix_len_is (λ s. nat_le s o) (line_starts text) i 0 le (λ k lt. h.0 k 0 (omega arith) lt) (λ lt. h.1 i 0 (omega arith) lt)
