-- Neighbours in a list.
use Rattle.std.specs.Prelude.{List, [], ◌∷◌}

-- R holds of each element and the next
abbrev pub AllAdjacent : {X : Type 0} → (X → X → Type 0) → List X → Type 0
AllAdjacent R [] = Unit {0}
AllAdjacent R (x ∷ []) = Unit {0}
AllAdjacent R (x ∷ y ∷ ys) = R x y × AllAdjacent R (y ∷ ys)
