-- How many rows are before lines.
use Rattle.std.proofs.Common.{◌≡◌, ℕ, zero, suc, ◌+◌, ◌<◌, ◌≤◌, List, [], ◌∷◌, length, take, ap, ◌∙◌, arith, add-one, append-nil}
use Rattle.std.proofs.lemmas.List.{length-append}
use Rattle.cell_units.specs.Rows.{all_rows, line_rows, rows_before}

-- the rows of one line more
pub rows_before-next : (lines : List (List (List ℕ))) (l : ℕ) → l < length lines → rows_before lines (l + 1) ≡ rows_before lines l + length (line_rows lines l)
rows_before-next lines l lt = ap (rows_before lines) (add-one l) ∙ go lines l lt where
  go : (lines : List (List (List ℕ))) (l : ℕ) → l < length lines → rows_before lines (suc l) ≡ rows_before lines l + length (line_rows lines l)
  go [] l lt = absurd (omega (arith, lt))
  go (x ∷ xs) zero lt = ap length (append-nil x) ∙ omega arith
  go (x ∷ xs) (suc l) lt = omega (arith, length-append x (all_rows (take (suc l) xs)), length-append x (all_rows (take l xs)), go xs l (omega arith))

pub rows_before-rises : (lines : List (List (List ℕ))) (l m : ℕ) → l ≤ m → rows_before lines l ≤ rows_before lines m
rows_before-rises [] zero m le = omega arith
rows_before-rises [] (suc l) m le = omega arith
rows_before-rises (x ∷ xs) zero m le = omega arith
rows_before-rises (x ∷ xs) (suc l) zero le = absurd (omega (arith, le))
rows_before-rises (x ∷ xs) (suc l) (suc m) le = omega (arith, length-append x (all_rows (take l xs)), length-append x (all_rows (take m xs)), rows_before-rises xs l m (omega arith))
