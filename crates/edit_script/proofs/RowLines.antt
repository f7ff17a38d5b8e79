-- The lines of rows that are left.
use Rattle.std.proofs.Common.{◌≡◌, ℕ, zero, suc, ◌+◌, ◌-◌, ◌<◌, List, [], ◌∷◌, length, map, take, drop, get_or, Some, refl, ap, sym, ◌∙◌, arith}
use Rattle.std.specs.Prelude.{slice_get}
use Rattle.plain_rows.specs.Rows.{Row}
use Rattle.plain_rows.specs.declared.shown.Shown.{Shown}
use Rattle.plain_rows.specs.ShownRows.{row_of_shown}
use Rattle.edit_script.specs.Printed.{row_line, row_lines}
use Rattle.edit_script.specs.Answers.{rows_in}

drop-more : {X : Type 0} (n : ℕ) (xs : List X) → drop n xs ≡ drop n xs → drop (suc n) xs ≡ drop 1 (drop n xs)
drop-more zero [] e = refl
drop-more zero (x ∷ xs) e = refl
drop-more (suc n) [] e = refl
drop-more (suc n) (x ∷ xs) e = drop-more n xs refl

drop-next : {X : Type 0} (n : ℕ) (xs : List X) → drop (suc n) xs ≡ drop 1 (drop n xs)
drop-next n xs = drop-more n xs refl

drop-get : {X : Type 0} (n : ℕ) (xs : List X) → slice_get xs n ≡ slice_get (drop n xs) 0
drop-get zero [] = refl
drop-get zero (x ∷ xs) = refl
drop-get (suc n) [] = refl
drop-get (suc n) (x ∷ xs) = drop-get n xs

-- the row that was made is first among those that are left
first-of : (rest : List Shown) (more : List Row) (k : ℕ) (shown : Shown) → map row_of_shown rest ≡ take k more → slice_get rest 0 ≡ Some shown
    → (slice_get more 0 ≡ Some (row_of_shown shown)) × (map row_of_shown (drop 1 rest) ≡ take (k - 1) (drop 1 more))
first-of [] more k shown e is = cc
first-of (s ∷ rest) [] zero shown e is = cc
first-of (s ∷ rest) [] (suc k) shown e is = cc
first-of (s ∷ rest) (row ∷ more) zero shown e is = cc
first-of (s ∷ rest) (row ∷ more) (suc k) shown e is =
    let head : row_of_shown s ≡ row = cc in
    let same : s ≡ shown = cc in
    let tail : map row_of_shown rest ≡ take k more = cc in
    let count : k ≡ suc k - 1 = omega arith in
    (ap Some (sym head ∙ ap row_of_shown same), tail ∙ ap (λ k. take k more) count)

lines-of : (next left : ℕ) (more : List Row) (row : Row) → slice_get more 0 ≡ Some row → 0 < left
    → (slice_get (row_lines next (take left more)) 0 ≡ Some (row_line next row))
    × (drop 1 (row_lines next (take left more)) ≡ row_lines (next + 1) (take (left - 1) (drop 1 more)))
lines-of next zero more row is some = absurd (omega arith)
lines-of next (suc left) [] row is some = cc
lines-of next (suc left) (r ∷ more) row is some =
    let same : r ≡ row = cc in
    let count : left ≡ suc left - 1 = omega arith in
    (ap (λ r. Some (row_line next r)) same, ap (λ k. row_lines (next + 1) (take k more)) count)

-- the next row, its line, and what is left after it
pub record IsNextRow (made : List Shown) (used next left : ℕ) (rows : List Row) (line : List ℕ) : Type 0 where
  pub line_is : Some line ≡ slice_get (rows_in next left rows) 0
  pub rest_is : rows_in (next + 1) (left - 1) rows ≡ drop 1 (rows_in next left rows)
  pub same : map row_of_shown (drop (used + 1) made) ≡ take (length made - (used + 1)) (drop (next + 1) rows)

pub next-row : (made : List Shown) (used next left : ℕ) (rows : List Row) (shown : Shown) (line : List ℕ)
    → map row_of_shown (drop used made) ≡ take (length made - used) (drop next rows) → slice_get made used ≡ Some shown → 0 < left
    → line ≡ row_line next (row_of_shown shown) → IsNextRow made used next left rows line
next-row made used next left rows shown line same is some e =
    let first = first-of (drop used made) (drop next rows) (length made - used) shown same (sym (drop-get used made) ∙ is) in
    let lines = lines-of next left (drop next rows) (row_of_shown shown) first.0 some in
    let used-more : drop (used + 1) made ≡ drop 1 (drop used made) = ap (λ k. drop k made) (one used) ∙ drop-next used made in
    let next-more : drop (next + 1) rows ≡ drop 1 (drop next rows) = ap (λ k. drop k rows) (one next) ∙ drop-next next rows in
    let fewer : length made - used - 1 ≡ length made - (used + 1) = omega arith in
    record {
      line_is = ap Some e ∙ sym lines.0;
      rest_is = ap (λ l. row_lines (next + 1) (take (left - 1) l)) next-more ∙ sym lines.1;
      same = ap (map row_of_shown) used-more ∙ (first.1 ∙ (ap (λ l. take (length made - used - 1) l) (sym next-more) ∙ ap (λ k. take k (drop (next + 1) rows)) fewer));
    }
  where
    one : (n : ℕ) → n + 1 ≡ suc n
    one n = omega arith

-- an element that was read
pub get-index : {X : Type 0} (xs : List X) (n : ℕ) (x : X) → n < length xs → x ≡ get_or xs n x → slice_get xs n ≡ Some x
get-index [] n x h e = absurd (omega arith)
get-index (y ∷ xs) zero x h e = ap Some (sym e)
get-index (y ∷ xs) (suc n) x h e = get-index xs n x (omega arith) e
