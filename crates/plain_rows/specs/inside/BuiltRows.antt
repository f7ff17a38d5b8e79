-- Rows built line by line.
use Rattle.std.specs.Prelude.{ℕ, ◌≡◌, ◌<◌, ◌≤◌, ◌&&◌, ◌||◌, not, nat_le, nat_lt, Bool, List, [], length, map, slice_index_or}
use Rattle.cell_units.specs.declared.place.Side.{Side}
use Rattle.cell_units.specs.declared.place.Side.TheVariants.{Above}
use Rattle.cell_units.specs.Record.{Block, Record}
use Rattle.plain_rows.specs.declared.plain.Plain.{Plain}
use Rattle.plain_rows.specs.Plain.{block_of, record_of}
use Rattle.plain_rows.specs.Rows.{is_on, line_of_block}

-- the most bytes that a text which is laid out shows with its inlays and folds. They are its own and the last line's
-- break, two more for each fold, and each inlay's own
abbrev pub shown_limit : ℕ
shown_limit = 134348801

abbrev pub no_block : Block
no_block = record { offset = 0; id = 0; side = Above; lines = [] }

abbrev pub block_at : Record → ℕ → Block
block_at r k = slice_index_or r.blocks k no_block

-- of the blocks of one side those before the one of this number are those that are before the line
pub record AreBefore (r : Record) (side : Side) (number line : ℕ) : Type 0 where
  pub before : (k : ℕ) → k < number → (block_at r k).side ≡ side → line_of_block r (block_at r k) < line
  pub behind :
      (k : ℕ) → number ≤ k → k < length r.blocks → (block_at r k).side ≡ side → line ≤ line_of_block r (block_at r k)
  pub within : number ≤ length r.blocks

-- there is a block of this number, and it is on the other side, or is at the line or before it
abbrev pub is_upto : Record → Side → ℕ → ℕ → Bool
is_upto r side number line =
    nat_lt number (length r.blocks)
    && (not (is_on side (block_at r number).side) || nat_le (line_of_block r (block_at r number)) line)

-- these are the display lines of the blocks
abbrev pub AreStanding : Plain → List ℕ → Type 0
AreStanding plain lines = lines ≡ map (λ b. line_of_block (record_of plain) (block_of b)) plain.blocks.items
