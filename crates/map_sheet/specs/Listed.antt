-- The blocks of a record's two sides, listed by offset and id.
use Rattle.std.specs.Prelude.{ℕ, ◌≡◌, ◌≤◌, ◌++◌, true, false, List, drop, filter, length, slice_get, Option, None, Some}
use Rattle.cell_units.specs.declared.place.Side.{Side}
use Rattle.cell_units.specs.declared.place.Side.TheVariants.{Above, Below}
use Rattle.cell_units.specs.Record.{Block, Record, block_le}
use Rattle.cell_units.specs.Sorting.{sort_by}
use Rattle.plain_rows.specs.Rows.{is_on}

-- the blocks of one side, in order
abbrev pub side_blocks : Record → Side → List Block
side_blocks r side = filter (λ b. is_on side b.side) r.blocks

-- the offset and the id of a block, where there is one
abbrev pub key_of : Option Block → Option (ℕ × ℕ)
key_of None = None
key_of (Some b) = Some (b.offset, b.id)

-- Where so many blocks of each side are listed, the next one is of this side: it has one more, which comes before the next one
-- of the other side.
abbrev pub IsNextSide : Record → ℕ → ℕ → Side → Type 0
IsNextSide r above below Above =
    (x : Block) × (slice_get (side_blocks r Above) above ≡ Some x)
    × ((y : Block) → slice_get (side_blocks r Below) below ≡ Some y → block_le x y ≡ true)
IsNextSide r above below Below =
    (y : Block) × (slice_get (side_blocks r Below) below ≡ Some y)
    × ((x : Block) → slice_get (side_blocks r Above) above ≡ Some x → block_le x y ≡ false)

-- These blocks are listed, so many of each side. With the others in order they are all.
pub record AreListed (r : Record) (above below : ℕ) (listed : List Block) : Type 0 where
  pub merged :
      listed ++ sort_by block_le (drop above (side_blocks r Above) ++ drop below (side_blocks r Below))
      ≡ r.blocks
  pub in_above : above ≤ length (side_blocks r Above)
  pub in_below : below ≤ length (side_blocks r Below)
