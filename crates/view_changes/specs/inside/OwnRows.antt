-- Where the rows of a block begin.
use Rattle.std.specs.Prelude.{ℕ, ◌≡◌, ◌+◌, ◌==◌, find, length, take, slice_get, Option, Some, None}
use Rattle.cell_units.specs.declared.place.Side.{Side}
use Rattle.cell_units.specs.Record.{Block, Record}
use Rattle.plain_rows.specs.Rows.{line_of_block}
use Rattle.map_sheet.specs.Listed.{side_blocks}
use Rattle.view_changes.specs.Operations.{at_line, rows_in, side_start}

-- the rows of the block of this number among those of a side
pub record AreRowsOfBlock (r : Record) (side : Side) (number id from count : ℕ) : Type 0 where
  pub block : Block
  pub there : slice_get (side_blocks r side) number ≡ Some block
  pub id_is : block.id ≡ id
  pub from_is :
      let line = line_of_block r block in
      from ≡ side_start r side line + rows_in (at_line r line (take number (side_blocks r side)))
  pub count_is : count ≡ length block.lines

-- the rows of the block of an id among those of a side, if there is one
abbrev pub AreRowsOn : Record → Side → ℕ → Option (ℕ × ℕ) → Type 0
AreRowsOn r side id None = find (λ b. b.id == id) (side_blocks r side) ≡ None
AreRowsOn r side id (Some (from, count)) =
    (number : ℕ) × AreRowsOfBlock r side number id from count

-- ... among all
abbrev pub AreOwnRows : Record → ℕ → Option (ℕ × ℕ) → Type 0
AreOwnRows r id None = find (λ b. b.id == id) r.blocks ≡ None
AreOwnRows r id (Some (from, count)) =
    (side : Side) × (number : ℕ) × AreRowsOfBlock r side number id from count

-- the number among those of a side of the block of an id, if there is one
abbrev pub IsNumbered : Record → Side → ℕ → Option ℕ → Type 0
IsNumbered r side id None = find (λ b. b.id == id) (side_blocks r side) ≡ None
IsNumbered r side id (Some number) =
    (b : Block) × (slice_get (side_blocks r side) number ≡ Some b) × (b.id ≡ id)
