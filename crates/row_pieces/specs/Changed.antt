-- Which rows a change of a record replaced.
use Rattle.std.specs.Prelude.{ℕ, ◌≡◌, ◌+◌, ◌-◌, ◌≤◌, ◌==◌, ◌&&◌, if◌then◌else◌, Bool, List, length, map, take, drop, flat_map, zip, min, max}
use Rattle.cell_units.specs.Record.{Record}
use Rattle.plain_rows.specs.Rows.{rows_by_line}
use Rattle.row_pieces.specs.declared.row_change.RowChange.{RowChange}
use Rattle.row_pieces.specs.declared.row_piece.RowPiece.{RowPiece}
use Rattle.row_pieces.specs.declared.row_piece.RowPieceKind.{RowPieceKind}
use Rattle.row_pieces.specs.Pieces.{pieces_by_line}

-- the rows from `from` up to `to` make place for `count` others
abbrev pub change : ℕ → ℕ → ℕ → RowChange
change from to count = record { from = from; to = to; count = count }

-- nothing makes place for nothing, at row 0
abbrev pub no_change : RowChange
no_change = change 0 0 0

abbrev pub is_nothing : RowChange → Bool
is_nothing c = (c.from == c.to) && (c.count == 0)

-- the rows before the replaced ones are the same, and those after them too
pub record IsTrue {X : Type 0} (c : RowChange) (old new : List X) : Type 0 where
  pub order : c.from ≤ c.to
  pub within_old : c.to ≤ length old
  pub within_new : c.from + c.count ≤ length new
  pub before : take c.from new ≡ take c.from old
  pub after : drop (c.from + c.count) new ≡ drop c.to old

-- how far two changes reach among the rows between them
abbrev pub last_between : RowChange → RowChange → ℕ
last_between c d = max (c.from + c.count) d.to

-- one change for two in turn: from the first row of both to the last. What replaces nothing adds nothing
abbrev pub covering : RowChange → RowChange → RowChange
covering c d =
    if is_nothing c then d
    else if is_nothing d then c
    else record {
      from = min c.from d.from;
      to = c.to + (last_between c d - (c.from + c.count));
      count = d.from + d.count + (last_between c d - d.to) - min c.from d.from;
    }

-- ---- what a host sees of a row

-- a piece without its offsets, which move with edits elsewhere
pub record Look : Type 0 where
  pub kind : RowPieceKind
  pub text : List ℕ
  pub cells : ℕ

abbrev pub look_of : RowPiece → Look
look_of p = record { kind = p.kind; text = p.text; cells = p.cells }

-- what a host sees of one row: its letter and its pieces
abbrev pub RowLook : Type 0
RowLook = ℕ × List Look

-- of each display line what a host sees of its rows, with its blocks
abbrev pub looks_by_line : Record → List (List RowLook)
looks_by_line r =
    map (λ l. zip (map (λ row. row.kind) l.0) (map (map look_of) l.1))
    (zip (rows_by_line r) (pieces_by_line r))

-- of all rows
abbrev pub looks : Record → List RowLook
looks r = flat_map (λ rows. rows) (looks_by_line r)

-- ---- from lines to rows

-- how many rows the first lines have
abbrev pub rows_to : {X : Type 0} → ℕ → List (List X) → ℕ
rows_to line lines = length (flat_map (λ rows. rows) (take line lines))

-- the change of rows that a change of lines is: all rows of the replaced lines make place for all rows of the new ones
abbrev pub rows_of_lines : {X : Type 0} → RowChange → List (List X) → List (List X) → RowChange
rows_of_lines c old new =
    record {
      from = rows_to c.from old;
      to = rows_to c.to old;
      count = rows_to (c.from + c.count) new - rows_to c.from old;
    }

-- the records differ in marks alone, and in those of the lines from `first` up to `end` alone: so a landing leaves them
pub record IsLanded (r s : Record) (first end : ℕ) : Type 0 where
  pub same : s ≡ record r { marks = s.marks }
  pub order : first ≤ end
  pub within : end ≤ length r.marks
  pub long : length s.marks ≡ length r.marks
  pub before : take first s.marks ≡ take first r.marks
  pub after : drop end s.marks ≡ drop end r.marks

-- the rows of a change of lines from the one record to the other. They are true where the lines are, and for a landing
-- on these lines
pub record AreRowsOf (r s : Record) (lines rows : RowChange) : Type 0 where
  pub exact : rows ≡ rows_of_lines lines (looks_by_line r) (looks_by_line s)
  pub truth : IsTrue lines (looks_by_line r) (looks_by_line s) → IsTrue rows (looks r) (looks s)
  pub landed :
      IsLanded r s lines.from lines.to → lines.count ≡ lines.to - lines.from →
      IsTrue rows (looks r) (looks s)
