-- Lists in chunks of one size.
use Rattle.std.specs.Prelude.{ℕ, ◌≡◌, ◌≤◌, List, [], ◌∷◌, length, flat_map}

-- the elements of chunks, one chunk after another
abbrev pub joined : {X : Type 0} → List (List X) → List X
joined chunks = flat_map (λ chunk. chunk) chunks

-- each chunk but the last is full, and the last has no more elements than a full one
abbrev pub AreChunks : {X : Type 0} → ℕ → List (List X) → Type 0
AreChunks size [] = Unit {0}
AreChunks size (chunk ∷ []) = length chunk ≤ size
AreChunks size (chunk ∷ next ∷ chunks) = (length chunk ≡ size) × AreChunks size (next ∷ chunks)
