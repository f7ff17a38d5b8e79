-- Whether an item of a list passes a test, where one more is put in and where all are sorted.
use Rattle.std.proofs.Common.{◌≡◌, ◌||◌, Bool, true, false, cond, List, [], ◌∷◌, refl, ap, ◌∙◌}
use Rattle.std.specs.List.{list_any}
use Rattle.cell_units.specs.Sorting.{insert_by, sort_by}

module _ {X : Type 0} (le : X → X → Bool) (p : X → Bool) where
  pub any-insert : (x : X) (ys : List X) → list_any p (insert_by le x ys) ≡ (p x || list_any p ys)
  any-insert x [] = refl
  any-insert x (y ∷ ys) = go (le x y) (any-insert x ys) where
    swap : (a b c : Bool) → (b || (a || c)) ≡ (a || (b || c))
    swap true true c = refl
    swap true false c = refl
    swap false true c = refl
    swap false false c = refl

    go : (b : Bool) → list_any p (insert_by le x ys) ≡ (p x || list_any p ys) → list_any p (cond b (x ∷ y ∷ ys) (y ∷ insert_by le x ys)) ≡ (p x || (p y || list_any p ys))
    go true r = refl
    go false r = ap (λ (b : Bool). p y || b) r ∙ swap (p x) (p y) (list_any p ys)

  pub any-sort : (xs : List X) → list_any p (sort_by le xs) ≡ list_any p xs
  any-sort [] = refl
  any-sort (x ∷ xs) = any-insert x (sort_by le xs) ∙ ap (λ (b : Bool). p x || b) (any-sort xs)
