-- How the display lines before and after an operation go together.
use Rattle.std.specs.Prelude.{ℕ, ◌≡◌, ◌+◌, ◌-◌, ◌≤◌, ◌<◌, List, length, map}
use Rattle.cell_units.specs.declared.place.Bias.TheVariants.{Left, Right}
use Rattle.cell_units.specs.declared.piece.Piece.{Piece}
use Rattle.cell_units.specs.Text.{clean, row_of, row_start, row_end}
use Rattle.cell_units.specs.Anchor.{move}
use Rattle.cell_units.specs.Record.{Record}
use Rattle.cell_units.specs.Operation.{Operation, Replace}
use Rattle.cell_units.specs.Folded.{line_of}
use Rattle.cell_units.specs.Pieces.{folded_lines}
use Rattle.cell_units.specs.Touched.{Touched, NoLine, EachLine, Rows, row_range, touched_lines, touched_before, touched_after, untouched, one_run}

abbrev pub move_piece : ℕ → ℕ → ℕ → Piece → Piece
move_piece a b n p = record { kind = p.kind; text = p.text; start = move p.start Right a b n; end = move p.end Right a b n }

-- a piece of an untouched line after the operation
abbrev pub operated_piece : Operation → Piece → Piece
operated_piece (Replace a b s) p = move_piece a b (length (clean s)) p
operated_piece _ p = p

-- the pieces of each display line
abbrev pub lines_of : Record → List (List Piece)
lines_of r = folded_lines r.text r.inlays r.folds

-- the display line that holds the start of an offset's row (Left), and the one that holds its end (Right)
abbrev pub line_of_row_start : Record → ℕ → ℕ
line_of_row_start r o = line_of r.text r.inlays r.folds (row_start r.text o) Left

abbrev pub line_of_row_end : Record → ℕ → ℕ
line_of_row_end r o = line_of r.text r.inlays r.folds (row_end r.text o) Right

-- the lines that touch the rows from that of one offset to that of another. They go from the line of the first row's
-- start to the line of the last row's end
abbrev pub RowsAreOneRun : Record → ℕ → ℕ → Type 0
RowsAreOneRun r a b =
    let first = line_of_row_start r a in
    let last = line_of_row_end r b in
    (first ≤ last)
    × (last < length (lines_of r))
    × (touched_lines (row_range r.text a b) r ≡ one_run first (last + 1 - first) (length (lines_of r) - (last + 1)))

-- one run of lines is touched before and one after, with as many lines before it and after it
pub record TouchesOneRun (touched : Touched) (r r' : Record) : Type 0 where
  pub front : ℕ
  pub before : ℕ
  pub after : ℕ
  pub back : ℕ
  pub before_are : touched_before touched r ≡ one_run front before back
  pub after_are : touched_after touched r' ≡ one_run front after back

-- the k-th untouched line after has the pieces of the k-th before, moved
abbrev pub KeepsPieces : Touched → (Piece → Piece) → Record → Record → Type 0
KeepsPieces touched moved r r' =
    untouched (touched_after touched r') (lines_of r') ≡ map (map moved) (untouched (touched_before touched r) (lines_of r))

-- there are as many untouched lines after as before
abbrev pub KeepsCount : Touched → Record → Record → Type 0
KeepsCount touched r r' =
    length (untouched (touched_after touched r') (lines_of r')) ≡ length (untouched (touched_before touched r) (lines_of r))

-- ---- rows of the buffer that aren't touched

-- where an operation moves an offset, as it moves that of a block
abbrev pub operated_offset : Operation → ℕ → ℕ
operated_offset (Replace a b s) o = move o Right a b (length (clean s))
operated_offset _ o = o

-- a row lies before all that are touched, or after them. Where no line is touched each row does both, and where each
-- line is, no row does either
abbrev pub LiesBefore : Touched → ℕ → Type 0
LiesBefore NoLine row = Unit {0}
LiesBefore EachLine row = ⊥
LiesBefore (Rows before after) row = row < before.first

abbrev pub LiesBehind : Touched → ℕ → Type 0
LiesBehind NoLine row = Unit {0}
LiesBehind EachLine row = ⊥
LiesBehind (Rows before after) row = before.last < row

-- the row of o' after starts and ends in the display lines in which that of o did before
pub record HasSameLines (r r' : Record) (o o' : ℕ) : Type 0 where
  pub start : line_of_row_start r' o' ≡ line_of_row_start r o
  pub end : line_of_row_end r' o' ≡ line_of_row_end r o

-- it starts and ends as far from the last display line as that did
pub record HasSameLinesFromEnd (r r' : Record) (o o' : ℕ) : Type 0 where
  pub start : line_of_row_start r' o' + length (lines_of r) ≡ line_of_row_start r o + length (lines_of r')
  pub end : line_of_row_end r' o' + length (lines_of r) ≡ line_of_row_end r o + length (lines_of r')

-- a row before the touched ones stays in its display lines, and one after them as far from the last line
pub record KeepsRows (touched : Touched) (moved : ℕ → ℕ) (r r' : Record) : Type 0 where
  pub before : (o : ℕ) → LiesBefore touched (row_of r.text o) → HasSameLines r r' o (moved o)
  pub behind : (o : ℕ) → o ≤ length r.text → LiesBehind touched (row_of r.text o) → HasSameLinesFromEnd r r' o (moved o)

-- where `after` lines took the place of `before` others that came after the first `front` lines. A line before them
-- keeps its number, and a line after them is as far from the end as it was
pub record IsLineThen (front before after line line' : ℕ) : Type 0 where
  pub in_front : line < front → line' ≡ line
  pub behind : front + before ≤ line → line' + before ≡ line + after

-- each row goes with the line in which it starts, and with that in which it ends, if these aren't touched
pub record GoWithLines (moved : ℕ → ℕ) (r r' : Record) (front before after : ℕ) : Type 0 where
  pub start : (o : ℕ) → o ≤ length r.text → IsLineThen front before after (line_of_row_start r o) (line_of_row_start r' (moved o))
  pub end : (o : ℕ) → o ≤ length r.text → IsLineThen front before after (line_of_row_end r o) (line_of_row_end r' (moved o))
