-- The sum of a list is how long it is.
use Rattle.std.proofs.Common.{◌≡◌, ℕ, ◌+◌, ◌<◌, List, [], ◌∷◌, ◌++◌, length, take, drop, arith, refl, length-append}
use Rattle.std.proofs.lemmas.List.{length-take, length-drop}
use Rattle.sum_core.specs.Sums.{total}
use Rattle.bench_trees.specs.Counting.{counted}
use Rattle.bench_trees.specs.declared.entry.Entry.{Entry}

pub total-counted : (xs : List Entry) → (total (counted 0) (λ a b. counted (a.0 + b.0)) (λ e. counted 1) xs).0 ≡ length xs
total-counted [] = refl
total-counted (x ∷ xs) = omega (arith, total-counted xs)

-- one item in the place of one
pub length-replaced : {X : Type 0} (xs ys : List X) (at : ℕ) → at < length xs → length ys ≡ 1 → length ((take at xs ++ ys) ++ drop (at + 1) xs) ≡ length xs
length-replaced xs ys at lt one = omega (arith, length-append (take at xs ++ ys) (drop (at + 1) xs), length-append (take at xs) ys, length-take at xs, length-drop (at + 1) xs)
