-- What a block map is seen as, and what its calls make of it.
use Rattle.std.specs.Prelude.{◌≡◌, ℕ, ◌+◌, ◌<◌, ◌==◌, ◌&&◌, ◌||◌, not, nat_lt, nat_le, option_map, Bool, false, if◌then◌else◌, List, [], ◌++◌, filter, length, map, slice_get, Option, Some, None}
use Rattle.std.specs.List.{All, list_any}
use Rattle.cell_units.specs.declared.limits.TheConstants.{BLOCK_LINES_LIMIT, BLOCK_LINE_LIMIT, ENTRY_LIMIT}
use Rattle.cell_units.specs.declared.fault.Fault.{Fault}
use Rattle.cell_units.specs.declared.fault.Fault.TheVariants.{Refused, NoMemory}
use Rattle.cell_units.specs.declared.fault.Refusal.{Refusal}
use Rattle.cell_units.specs.declared.fault.Refusal.TheVariants.{BadRange, BadText, IdInUse, TooLong, UnknownId}
use Rattle.cell_units.specs.declared.place.Bias.TheVariants.{Right}
use Rattle.cell_units.specs.declared.place.Shift.{Shift}
use Rattle.cell_units.specs.declared.place.Side.{Side}
use Rattle.cell_units.specs.declared.place.Side.TheVariants.{Above, Below}
use Rattle.cell_units.specs.Anchor.{move}
use Rattle.cell_units.specs.Layers.{Source}
use Rattle.cell_units.specs.Record.{Block, Record, in_order, opened}
use Rattle.cell_units.specs.Rows.{HaveRows, rows_before}
use Rattle.cell_units.specs.Sorting.{insert_by, sort_by}
use Rattle.cell_units.specs.Text.{carriage_return, is_boundary, is_feed}
use Rattle.plain_rows.specs.Rows.{Row, blocks_at, head_and_more, line_of_block, with_blocks}
use Rattle.block_map.specs.Between.{Between, rows_above, rows_below, rows_by_line}
use Rattle.block_map.specs.Stops.{Stop}

-- A block of one side: its anchor in the text, its id and its lines. If it was there when the map was last shown, it
-- has how many rows of text were before its own then.
pub record Kept : Type 0 where
  pub offset : ℕ
  pub id : ℕ
  pub lines : List (List ℕ)
  pub row : Option ℕ

-- The lines that were last shown, of each the texts of its rows, and the blocks of each side by (offset, id).
pub record BlockState : Type 0 where
  pub lines : List (List (List ℕ))
  pub above : List Kept
  pub below : List Kept

-- ---- blocks as a record has them

abbrev pub block_of : Side → Kept → Block
block_of side k = record { offset = k.offset; id = k.id; side = side; lines = k.lines }

abbrev pub blocks_of : BlockState → List Block
blocks_of s = map (block_of Above) s.above ++ map (block_of Below) s.below

-- a record with a source and blocks
abbrev pub record_with : Source → List Block → Record
record_with source blocks =
    record (opened source.text) { inlays = source.inlays; folds = source.folds; blocks = blocks }

-- the rows of each line with the blocks, each at its line of the source
abbrev pub rows_with : Source → List Block → List (List (List ℕ)) → List (List Row)
rows_with source blocks lines =
    let r = record_with source blocks in
    with_blocks (blocks_at r Above) (blocks_at r Below) (map head_and_more lines)

-- ---- refusals

abbrev pub has_block : ℕ → BlockState → Bool
has_block id s = list_any (λ k. k.id == id) s.above || list_any (λ k. k.id == id) s.below

abbrev pub is_line_end : ℕ → Bool
is_line_end b = is_feed b || (b == carriage_return)

-- the lines of a block: at least one, at most so many, and none with a line end
abbrev pub are_block_lines : List (List ℕ) → Bool
are_block_lines lines =
    nat_lt 0 (length lines) && nat_le (length lines) BLOCK_LINES_LIMIT
    && not (list_any (list_any is_line_end) lines)

abbrev pub is_long_line : List ℕ → Bool
is_long_line line = nat_lt BLOCK_LINE_LIMIT (length line)

abbrev pub is_full : BlockState → Bool
is_full s = nat_le ENTRY_LIMIT (length s.above + length s.below)

-- why a block isn't added, if it isn't
abbrev pub add_refusal : Source → BlockState → ℕ → ℕ → List (List ℕ) → Option Refusal
add_refusal source s id offset lines =
    if has_block id s then Some IdInUse
    else (if not (is_boundary source.text offset) then Some BadRange
    else (if not (are_block_lines lines) then Some BadText
    else (if list_any is_long_line lines || is_full s then Some TooLong else None)))

-- why no block of the id is removed, if none is
abbrev pub remove_refusal : BlockState → ℕ → Option Refusal
remove_refusal s id = if has_block id s then None else Some UnknownId

-- the refusal that is owed, and out of memory where there is none
abbrev pub IsOwed : Option Refusal → Fault → Type 0
IsOwed (Some refusal) fault = fault ≡ Refused refusal
IsOwed None fault = fault ≡ NoMemory

-- ---- what the calls make

abbrev pub state_of : List (List (List ℕ)) → BlockState
state_of lines = record { lines = lines; above = []; below = [] }

-- by offset, then id
abbrev pub kept_le : Kept → Kept → Bool
kept_le k l = in_order k.offset l.offset (nat_le k.id l.id)

-- a block that was not shown yet
abbrev pub fresh : ℕ → ℕ → List (List ℕ) → Kept
fresh id offset lines = record { offset = offset; id = id; lines = lines; row = None }

abbrev pub added : Side → Kept → BlockState → BlockState
added Above k s = record s { above = insert_by kept_le k s.above }
added Below k s = record s { below = insert_by kept_le k s.below }

abbrev pub without : ℕ → List Kept → List Kept
without id ks = filter (λ k. not (k.id == id)) ks

abbrev pub removed : ℕ → BlockState → BlockState
removed id s = record s { above = without id s.above; below = without id s.below }

-- ---- after a replacement of the text, if there was one

abbrev pub move_kept : Shift → Kept → Kept
move_kept s k = record k { offset = move k.offset Right s.start s.end s.count }

abbrev pub moved_kept : Option Shift → List Kept → List Kept
moved_kept None ks = ks
moved_kept (Some s) ks = sort_by kept_le (map (move_kept s) ks)

abbrev pub moved : Option Shift → BlockState → BlockState
moved shift s = record s { above = moved_kept shift s.above; below = moved_kept shift s.below }

-- ---- where blocks are

-- the line of a block
abbrev pub line_of_kept : Source → Side → Kept → ℕ
line_of_kept source side k = line_of_block (record_with source []) (block_of side k)

-- how many rows of text are before what is at a line, above it or below it
abbrev pub row_at_line : List (List (List ℕ)) → Side → ℕ → ℕ
row_at_line lines Above line = rows_before lines line
row_at_line lines Below line = rows_before lines (line + 1)

abbrev pub row_of_kept : Source → List (List (List ℕ)) → Side → Kept → ℕ
row_of_kept source lines side k = row_at_line lines side (line_of_kept source side k)

-- the block as it is shown then
abbrev pub placed : Source → List (List (List ℕ)) → Side → Kept → Kept
placed source lines side k = record k { row = Some (row_of_kept source lines side k) }

abbrev pub stop_of : Source → List (List (List ℕ)) → Side → Kept → Stop
stop_of source lines side k = record { row = row_of_kept source lines side k; lines = k.lines }

-- what a `sync` leaves
abbrev pub synced : Source → Option Shift → List (List (List ℕ)) → BlockState → BlockState
synced source shift lines s = record {
  lines = lines;
  above = map (placed source lines Above) (moved_kept shift s.above);
  below = map (placed source lines Below) (moved_kept shift s.below);
}

-- the lines, and the blocks of a state between them, each at its line of the source
abbrev pub between_of : Source → List (List (List ℕ)) → BlockState → Between
between_of source lines s = record {
  lines = lines;
  above = map (stop_of source lines Above) s.above;
  below = map (stop_of source lines Below) s.below;
}

-- each block is at one of the lines
abbrev pub StandWithin : Source → List (List (List ℕ)) → Side → List Kept → Type 0
StandWithin source lines side ks = All (λ k. line_of_kept source side k < length lines) ks

-- the blocks of a side
abbrev pub on_side : Side → BlockState → List Kept
on_side Above s = s.above
on_side Below s = s.below

-- the block at a place among these has this offset, id and lines
abbrev pub IsBlockAt : List Kept → ℕ → ℕ → ℕ → List (List ℕ) → Type 0
IsBlockAt ks at offset id lines = (k : Kept) × (slice_get ks at ≡ Some k) × (k.offset ≡ offset) × (k.id ≡ id) × (k.lines ≡ lines)

-- the block of an id is at this place among these. None of them has the id where there is no place
abbrev pub IsPlaceOf : List Kept → ℕ → Option ℕ → Type 0
IsPlaceOf ks id None = list_any (λ k. k.id == id) ks ≡ false
IsPlaceOf ks id (Some at) = option_map (λ k. k.id) (slice_get ks at) ≡ Some id

-- Stops at the lines of blocks show what a record with these blocks shows.
abbrev pub RowsAgree : Type 0
RowsAgree = (source : Source) (s : BlockState) (lines : List (List (List ℕ))) → HaveRows lines
    → StandWithin source lines Above s.above → StandWithin source lines Below s.below
    → rows_by_line (between_of source lines s) ≡ rows_with source (blocks_of s) lines

-- Above and below each line they show the rows of the record's blocks there.
abbrev pub BlocksAgree : Type 0
BlocksAgree = (source : Source) (s : BlockState) (lines : List (List (List ℕ))) → HaveRows lines
    → StandWithin source lines Above s.above → StandWithin source lines Below s.below → (line : ℕ) → line < length lines
    → (rows_above (between_of source lines s) line ≡ blocks_at (record_with source (blocks_of s)) Above line)
    × (rows_below (between_of source lines s) line ≡ blocks_at (record_with source (blocks_of s)) Below line)

-- What a `sync` shows: the new lines, and between them the blocks, moved, each at its line of the new layer.
pub record IsShown (source : Source) (shift : Option Shift) (lines : List (List (List ℕ)))
    (s : BlockState) (b : Between) : Type 0 where
  pub stops : b ≡ between_of source lines (moved shift s)
  pub rows : rows_by_line b ≡ rows_with source (blocks_of (moved shift s)) lines
