-- The blocks of both sides.
use Rattle.std.specs.Prelude.{◌≡◌, ℕ, ◌+◌, ◌==◌, ◌<◌, ◌≤◌, Some, true, false, Bool, List, length}
use Rattle.std.specs.List.{All, list_any}
use Rattle.cell_units.specs.declared.limits.TheConstants.{ENTRY_LIMIT}
use Rattle.cell_units.specs.declared.place.Side.{Side}
use Rattle.cell_units.specs.declared.place.Side.TheVariants.{Above, Below}
use Rattle.block_map.specs.Maps.{BlockState, Kept, row_at_line}

abbrev pub is_kept : ℕ → List Kept → Bool
is_kept id ks = list_any (λ k. k.id == id) ks

-- a block that was shown was at a line
abbrev pub WasAtLine : List (List (List ℕ)) → Side → Kept → Type 0
WasAtLine lines side k =
    (row : ℕ) → k.row ≡ Some row → (line : ℕ) × (line < length lines) × (row ≡ row_at_line lines side line)

-- What a map keeps. No id is on both sides, there are no more blocks than the limit, and what was shown was at the
-- lines.
pub record IsState (s : BlockState) : Type 0 where
  pub distinct : (id : ℕ) → is_kept id s.above ≡ true → is_kept id s.below ≡ false
  pub few : length s.above + length s.below ≤ ENTRY_LIMIT
  pub above : All (WasAtLine s.lines Above) s.above
  pub below : All (WasAtLine s.lines Below) s.below
