-- Lines of few elements have few rows, whatever their marks.
use Rattle.std.proofs.Common.{ℕ, zero, suc, ◌+◌, ◌-◌, ◌<◌, ◌≤◌, ◌==◌, ◌^◌, List, [], ◌∷◌, length, arith}
use Rattle.std.specs.Prelude.{nat_lt, sum_by}
use Rattle.std.proofs.lemmas.Bool.{cond_both}
use Rattle.std.proofs.lemmas.List.Sums.{sum_by-cons}
use Rattle.cell_line.specs.declared.element.Element.{Element}
use Rattle.cell_line.specs.Lines.{FitsU32}
use Rattle.cell_line.specs.Wrapping.{cuts_of, indent_of, next_start_of, row_starts}
use Rattle.wrap_map.specs.Standing.{HasRoom, Standing, stood_of}
use Rattle.wrap_map.specs.Stood.{rows_in}
use Rattle.wrap_map.proofs.Standings.{rows-stood}

length-row_starts : (es : List Element) (room most start : ℕ) → length (row_starts es room most start) ≤ most
unfolding row_starts
length-row_starts es room zero start = omega arith
length-row_starts es room (suc most) start =
    let rest = length-row_starts es room most (next_start_of es room start) in
    cond_both (nat_lt start (length es)) (start ∷ row_starts es room most (next_start_of es room start)) []
    (λ xs. length xs ≤ suc most) (λ t. omega (arith, rest)) (λ f. omega arith)

-- a line has no more cuts than elements
length-cuts : (es : List Element) (width : ℕ) → length (cuts_of es width) ≤ length es
unfolding cuts_of
length-cuts es width =
    cond_both (width == 0) [] (row_starts es (width - indent_of es width) (length es) (next_start_of es width 0))
    (λ xs. length xs ≤ length es) (λ t. omega arith) (λ f. length-row_starts es (width - indent_of es width) (length es) (next_start_of es width 0))

pub rows-few : (lines : List (List Element)) (marks : List ℕ) → rows_in (stood_of (record { lines = lines; marks = marks })) ≤ sum_by (λ es. length es + 1) lines
rows-few [] marks = omega arith
rows-few (es ∷ lines) [] = omega arith
rows-few (es ∷ lines) (mark ∷ marks) =
    let here = length-cuts es mark in
    let rest = rows-few lines marks in
    let sum = sum_by-cons (λ (xs : List Element). length xs + 1) es lines in
    omega (arith, here, rest, sum)

-- lines whose elements and numbers together are a u32 have room
pub has-room : (s : Standing) → FitsU32 s.lines → sum_by (λ es. length es + 1) s.lines < 2 ^ 32 → HasRoom s
has-room s fits few = record {
  fits = fits;
  rows_fit = let rows = rows-stood s in let most = rows-few s.lines s.marks in omega (arith, rows, most, few);
}
