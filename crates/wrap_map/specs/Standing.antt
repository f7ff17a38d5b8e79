-- Lines as they are wrapped.
use Rattle.std.specs.Prelude.{◌≡◌, ℕ, ◌+◌, ◌==◌, ◌&&◌, ◌<◌, ◌^◌, if◌then◌else◌, List, [], ◌∷◌, ◌++◌, All, length, map, take, drop, replicate, slice_index_or, Option, Some, None}
use Rattle.std.specs.List.{zip}
use Rattle.cell_line.specs.declared.element.Element.{Element}
use Rattle.cell_line.specs.Lines.{FitsU32, line_at}
use Rattle.cell_line.specs.RowTexts.{row_texts_of}
use Rattle.cell_line.specs.Wrapping.{cuts_of}
use Rattle.cell_units.specs.declared.place.Shift.{Shift}
use Rattle.cell_units.specs.Lawful.{IsWidth}
use Rattle.cell_units.specs.Rows.{all_rows, rows_before}
use Rattle.cell_line.specs.declared.lines.MarkRun.{MarkRun}
use Rattle.edit_patch.specs.Leads.{LeadsBy}
use Rattle.wrap_map.specs.Stood.{Stood, marks_in}

-- lines, and the mark of each: the width at which it is wrapped, 0 where it is in one row
pub record Standing : Type 0 where
  pub lines : List (List Element)
  pub marks : List ℕ

-- what a map is seen as: lines as they are wrapped, and the width at which they are to be wrapped
pub record Wrapped : Type 0 where
  pub standing : Standing
  pub width : ℕ

abbrev pub mark_at : Standing → ℕ → ℕ
mark_at s line = slice_index_or s.marks line 0

-- where a line is cut at its mark
abbrev pub cuts_at : Standing → ℕ → List ℕ
cuts_at s line = cuts_of (line_at s.lines line) (mark_at s line)

-- how a line of a mark is wrapped
abbrev pub stood_with : List Element → ℕ → Stood
stood_with elements mark = record { mark = mark; cuts = cuts_of elements mark }

-- how each line is wrapped
abbrev pub stood_of : Standing → List Stood
stood_of s = map (λ p. stood_with p.0 p.1) (zip s.lines s.marks)

-- of each line the texts of its rows
abbrev pub shown_rows : Standing → List (List (List ℕ))
shown_rows s = map (λ p. row_texts_of p.0 p.1) (zip s.lines s.marks)

-- lines, cells and rows are u32
pub record HasRoom (s : Standing) : Type 0 where
  pub fits : FitsU32 s.lines
  pub rows_fit : length (all_rows (shown_rows s)) < 2 ^ 32

-- each line has a lawful mark
pub record IsStanding (s : Standing) : Type 0 where
  pub one_each : length s.marks ≡ length s.lines
  pub lawful : All IsWidth s.marks
  pub room : HasRoom s

-- lines with their marks
abbrev pub standing_of : List (List Element) → List Stood → Standing
standing_of lines ls = record { lines = lines; marks = marks_in ls }

-- lines are wrapped lawfully, and so
abbrev pub StandSo : List (List Element) → List Stood → Type 0
StandSo lines ls = IsStanding (standing_of lines ls) × (ls ≡ stood_of (standing_of lines ls))

-- all lines at one mark
abbrev pub all_at : ℕ → List (List Element) → Standing
all_at mark lines = record { lines = lines; marks = replicate (length lines) mark }

-- ---- a replacement of lines

-- the replaced lines get mark 0, and all others keep theirs
abbrev pub marks_after : Option Shift → List ℕ → List ℕ
marks_after None marks = marks
marks_after (Some s) marks = take s.start marks ++ replicate s.count 0 ++ drop s.end marks

-- these lines in the place of the old ones
abbrev pub standing_after : Standing → List (List Element) → Option Shift → Standing
standing_after s lines below = record { lines = lines; marks = marks_after below s.marks }

-- the rows of the replaced lines, replaced by one row for each line that is there now
pub record AreRowsOf (s : Standing) (below rows : Shift) : Type 0 where
  pub start_is : rows.start ≡ rows_before (shown_rows s) below.start
  pub end_is : rows.end ≡ rows_before (shown_rows s) below.end
  pub count_is : rows.count ≡ below.count

-- none where no line was replaced
abbrev pub AreReplaced : Standing → Option Shift → Option Shift → Type 0
AreReplaced s None None = Unit {0}
AreReplaced s None (Some rows) = ⊥
AreReplaced s (Some below) None = ⊥
AreReplaced s (Some below) (Some rows) = AreRowsOf s below rows

-- the map shows the new lines, and what is returned leads from the rows that it showed to those that it shows
pub record IsSynced (old : Wrapped) (lines : List (List Element)) (below : Option Shift)
    (new : Wrapped) (shown : Standing) (rows : Option Shift) : Type 0 where
  pub map : new ≡ record old { standing = standing_after old.standing lines below }
  pub shown_is : shown ≡ new.standing
  pub replaced : AreReplaced old.standing below rows
  pub leads : LeadsBy (all_rows (shown_rows old.standing)) (all_rows (shown_rows shown)) rows
