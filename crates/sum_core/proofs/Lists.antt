-- Steps on lists.
use Rattle.std.proofs.Common.{◌≡◌, ℕ, ◌+◌, ◌<◌, List, [], ◌∷◌, ◌++◌, length, map, take, get_or, refl}
use Rattle.std.proofs.lemmas.List.{map-append, take_more}

pub map_more : {X Y : Type 0} (f : X → Y) (ys xs : List X) (i : ℕ) (x y : X) → i < length xs → map f ys ≡ map f (take i xs) → x ≡ get_or xs i x → f y ≡ f x → map f (ys ++ y ∷ []) ≡ map f (take (i + 1) xs)
map_more f ys xs i x y lt p is same =
    rw (map-append, take_more xs i x lt, map-append, p, same, ← is) refl
