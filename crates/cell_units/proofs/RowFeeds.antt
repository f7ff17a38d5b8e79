-- Rows as counts of line feeds.
use Rattle.std.proofs.Common.{◌≡◌, ℕ, ◌<◌, ◌≤◌, zero, suc, Bool, true, false, cond, List, [], ◌∷◌, ◌++◌, length, take, refl, ap, inl, inr, arith}
use mathlib.Core.Logic.{◌⊎◌}
use Rattle.std.proofs.lemmas.Bool.{cases_Bool, eqb-true}
use Rattle.std.proofs.lemmas.List.{take_at}
use Rattle.cell_units.specs.Text.{line_feed, is_feed}
use Rattle.cell_units.proofs.BufferLines.{feeds, feeds-cons}
use Rattle.cell_units.proofs.ReplacedRows.{row_of-le}
use Rattle.cell_units.proofs.CutLists.{Every, ended}

pub feeds-free : (xs : List ℕ) → Every (λ b. is_feed b ≡ false) xs → feeds xs ≡ 0
feeds-free [] h = refl
feeds-free (x ∷ xs) h = omega (arith, feeds-cons x xs, ap {B = ℕ} (λ (c : Bool). cond c 1 0) h.0, feeds-free xs h.1)

pub feeds_take-mono : (o p : ℕ) (xs : List ℕ) → o ≤ p → feeds (take o xs) ≤ feeds (take p xs)
feeds_take-mono o p xs h = row_of-le xs o p h

-- a row that ends with a feed has more rows after it than before its end
pub feeds_take-lt : (o : ℕ) (e : Bool) (xs : List ℕ) → ended is_feed e xs ≡ true → o < length xs → feeds (take o xs) < feeds xs
feeds_take-lt o e [] h l = absurd (omega arith)
feeds_take-lt zero e (x ∷ []) h l = omega (arith, feeds-cons x [], ap {B = ℕ} (λ (c : Bool). cond c 1 0) h)
feeds_take-lt (suc o) e (x ∷ []) h l = absurd (omega arith)
feeds_take-lt zero e (x ∷ y ∷ ys) h l = omega (arith, feeds-cons x (y ∷ ys), feeds_take-lt zero (is_feed x) (y ∷ ys) h (omega arith))
feeds_take-lt (suc o) e (x ∷ y ∷ ys) h l = omega (arith, feeds-cons x (y ∷ ys), feeds-cons x (take o (y ∷ ys)), feeds_take-lt o (is_feed x) (y ∷ ys) h (omega arith))

pub feeds_take_at : (xs ys : List ℕ) (n : ℕ) → length xs ≡ n → feeds (take n (xs ++ ys)) ≡ feeds xs
feeds_take_at xs ys n h = ap feeds (take_at xs ys n h)

-- the end of the row that holds the start of a list
pub record RowEnd (ys : List ℕ) : Type 0 where
  pub row : List ℕ
  pub rest : List ℕ
  pub is : ys ++ line_feed ∷ [] ≡ row ++ (line_feed ∷ rest)
  pub free : Every (λ b. is_feed b ≡ false) row

pub row_end : (ys : List ℕ) → RowEnd ys
row_end [] = record { row = []; rest = []; is = refl; free = tt }
row_end (y ∷ ys) = go (cases_Bool (is_feed y)) (row_end ys) where
  go : (is_feed y ≡ true) ⊎ (is_feed y ≡ false) → RowEnd ys → RowEnd (y ∷ ys)
  go (inl e) r = record { row = []; rest = ys ++ line_feed ∷ []; is = ap (λ k. k ∷ (ys ++ line_feed ∷ [])) (eqb-true y line_feed e); free = tt }
  go (inr e) r = record { row = y ∷ r.row; rest = r.rest; is = ap (λ (l : List ℕ). y ∷ l) r.is; free = (e, r.free) }
