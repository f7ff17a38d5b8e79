-- Runs of a list, from place to place.
use Rattle.std.proofs.Common.{◌≡◌, ℕ, ◌+◌, ◌-◌, ◌≤◌, Bool, List, ◌++◌, length, take, drop, count_by, sym, ap, subst, ◌∙◌, arith, drop-drop, take-add}
use Rattle.std.specs.List.{All}
use Rattle.std.proofs.lemmas.List.{length-take, length-drop, take-take}
use Rattle.std.proofs.lemmas.List.Elements.{All-take}
use Rattle.mark_tree.specs.Entries.{run}
use Rattle.mark_tree.proofs.Sorting.{Every, IsSorted, every-right, sorted-left, sorted-right}
use Rattle.mark_tree.proofs.Changing.{every-from_all}
use Rattle.mark_tree.proofs.Moved.{count-append, part-below, three-parts}

module _ {X : Type 0} where
  pub length-run : (xs : List X) (i j : ℕ) → j ≤ length xs → length (run i j xs) ≡ j - i
  length-run xs i j le = omega (arith, length-take (j - i) (drop i xs), length-drop i xs)

  pub run-split : (xs : List X) (i j k : ℕ) → i ≤ j → j ≤ k → run i k xs ≡ run i j xs ++ run j k xs
  run-split xs i j k a b =
      let all : k - i ≡ (j - i) + (k - j) = omega arith in
      let there : i + (j - i) ≡ j = omega arith in
      ap (λ n. take n (drop i xs)) all
      ∙ take-add (j - i) (k - j) (drop i xs)
      ∙ ap (λ l. run i j xs ++ take (k - j) l) (drop-drop (j - i) i xs ∙ ap (λ n. drop n xs) there)

  -- a list of which the prefix has been changed lists that are the same from a place on
  pub rest-same : (xs ys : List X) (at i : ℕ) → drop at xs ≡ drop at ys → at ≤ i → drop i xs ≡ drop i ys
  rest-same xs ys at i same le =
      let there : at + (i - at) ≡ i = omega arith in
      ap (λ k. drop k xs) (sym there) ∙ sym (drop-drop (i - at) at xs) ∙ ap (drop (i - at)) same ∙ drop-drop (i - at) at ys ∙ ap (λ k. drop k ys) there

  pub run-same : (xs ys : List X) (at i j : ℕ) → drop at xs ≡ drop at ys → at ≤ i → run i j xs ≡ run i j ys
  run-same xs ys at i j same le = ap (take (j - i)) (rest-same xs ys at i same le)

  -- what holds of a prefix holds of each run in it
  pub every-run : (P : X → Type 0) (xs : List X) (i j k : ℕ) → i ≤ j → j ≤ k → All P (take k xs) → Every P (run i j xs)
  every-run P xs i j k a b all =
      every-right P (take i xs) (run i j xs)
      (every-from_all P (take i xs ++ run i j xs) (subst (All P) (take-take j k xs b ∙ part-below xs i j a) (All-take P j (take k xs) all)))

  pub sorted-run : (le : X → X → Bool) (xs : List X) (i j : ℕ) → i ≤ j → IsSorted le xs → IsSorted le (run i j xs)
  sorted-run le xs i j a s =
      sorted-left le (run i j xs) (drop j xs) (sorted-right le (take i xs) (run i j xs ++ drop j xs) (subst (IsSorted le) (three-parts xs i j a) s))

  pub count-run : (p : X → Bool) (xs : List X) (i j : ℕ) → i ≤ j → count_by p (run i j xs) ≤ count_by p xs
  count-run p xs i j a =
      omega (arith, ap (count_by p) (three-parts xs i j a), count-append p (take i xs) (run i j xs ++ drop j xs), count-append p (run i j xs) (drop j xs))
