-- The texts that ropes hold.
use Rattle.std.specs.Prelude.{◌≡◌, ℕ, ◌+◌, ◌*◌, ◌^◌, ◌<◌, ◌≤◌, ◌≢◌, ◌++◌, List, length}
use Rattle.std.specs.List.{All, concat}
use Rattle.cell_units.specs.declared.limits.TheConstants.{LAID_LIMIT}
use Rattle.cell_units.specs.Text.{carriage_return}
use Rattle.text_rope.specs.Chunks.{AreChunks, AreFull}

-- the chunks of a text within the limit of what is kept that has no carriage return
pub record IsRope (chunks : List (List ℕ)) : Type 0 where
  pub cut : AreChunks chunks
  pub full : AreFull chunks
  pub clean : All (λ b. b ≢ carriage_return) (concat chunks)
  pub small : length (concat chunks) ≤ LAID_LIMIT

-- The tree of a rope of this text has at most h levels below its root.
abbrev pub HasHeight : ℕ → List ℕ → Type 0
HasHeight h text = length text < 120 * 6 ^ (h + 1)

-- the text begins with the prefix
abbrev pub IsFront : List ℕ → List ℕ → Type 0
IsFront front text = (rest : List ℕ) × (front ++ rest ≡ text)
