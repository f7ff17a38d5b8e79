-- A source with wrapped lines.
use Rattle.std.specs.Prelude.{ℕ, List, length, replicate}
use Rattle.cell_line.specs.declared.element.Element.{Element}
use Rattle.cell_units.specs.Layers.{Source}
use Rattle.tab_map.specs.TabLines.{lines_at}
use Rattle.wrap_map.specs.Standing.{HasRoom, Standing, shown_rows}
use Rattle.wrapped_lines.specs.declared.lines.TheConstants.{OPENING_TAB, OPENING_WIDTH}

-- What the lower layer shows, the tab size, the width at which lines are to be wrapped, and the mark of each line. The
-- mark is the width at which it is wrapped, 0 where it is in one row.
pub record WrappedSource : Type 0 where
  pub source : Source
  pub tab : ℕ
  pub width : ℕ
  pub marks : List ℕ

-- the elements of each line
abbrev pub lines_of : WrappedSource → List (List Element)
lines_of w = lines_at w.source w.tab

-- the lines as they are wrapped
abbrev pub standing_lines : WrappedSource → Standing
standing_lines w = record { lines = lines_of w; marks = w.marks }

-- of each line the texts of its rows
abbrev pub row_texts : WrappedSource → List (List (List ℕ))
row_texts w = shown_rows (standing_lines w)

-- each line of a source in one row, at the tab size and the width of a text that was just opened
abbrev pub unwrapped : Source → WrappedSource
unwrapped source = record {
  source = source;
  tab = OPENING_TAB;
  width = OPENING_WIDTH;
  marks = replicate (length (lines_at source OPENING_TAB)) 0;
}

-- lines, cells and rows are u32, whatever the marks of the lines
abbrev pub HaveRoom : List (List Element) → Type 0
HaveRoom lines = (marks : List ℕ) → HasRoom (record { lines = lines; marks = marks })
