-- What a rope keeps.
use Rattle.std.specs.Prelude.{◌⊎◌, ℕ, ◌<◌, ◌≤◌, List, length}
use Rattle.std.specs.List.{All}
use Rattle.std.specs.Str.{IsUtf8}

-- the fewest bytes of a chunk that isn't alone
abbrev pub least : ℕ
least = 60

-- whole characters, at least one and at most 128 bytes of them
pub record IsChunk (chunk : List ℕ) : Type 0 where
  pub utf8 : IsUtf8 chunk
  pub some : 0 < length chunk
  pub small : length chunk ≤ 128

-- no chunk of at least so many bytes: too short for that, or too long
abbrev pub IsNoChunk : ℕ → List ℕ → Type 0
IsNoChunk fewest bytes = (length bytes < fewest) ⊎ (128 < length bytes)

abbrev pub AreChunks : List (List ℕ) → Type 0
AreChunks chunks = All IsChunk chunks

-- where there is more than one chunk, none is short
abbrev pub AreFull : List (List ℕ) → Type 0
AreFull chunks = 1 < length chunks → All (λ c. least ≤ length c) chunks
