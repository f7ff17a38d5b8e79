-- The lines of a script for several views of one text.
use Rattle.std.specs.Prelude.{ℕ, ◌+◌, ◌-◌, ◌==◌, ◌&&◌, nat_le, nat_lt, bytes_eq, codes, if◌then◌else◌, List, [], ◌∷◌}
use Rattle.edit_script.specs.Verdict.{is_blank}
use Rattle.split_script.specs.declared.line.SplitLine as declared
use Rattle.split_script.specs.declared.line.SplitLine.TheVariants as lines

-- what a line is: one that is skipped, bytes for a view, an undo, a redo, or a line of no view
pub data SplitLine : Type 0 where
  Skipped : SplitLine
  Own : (view : ℕ) → (bytes : List ℕ) → SplitLine
  Undo : SplitLine
  Redo : SplitLine
  Astray : SplitLine

-- the line of a value of the program
abbrev pub line_of : declared.SplitLine → SplitLine
line_of lines.Skipped = Skipped
line_of (lines.Own view line) = Own view line.now
line_of lines.Undo = Undo
line_of lines.Redo = Redo
line_of lines.Astray = Astray

abbrev pub zero_digit : ℕ
zero_digit = 48

abbrev pub space : ℕ
space = 32

-- bytes with the digit of a view, and a space, before them
abbrev pub prefixed : ℕ → List ℕ → List ℕ
prefixed view bytes = (zero_digit + view) ∷ (space ∷ bytes)

-- bytes for a view. Where they are blank the line is skipped
abbrev pub own_line : ℕ → List ℕ → SplitLine
own_line view bytes = if is_blank bytes then Skipped else Own view bytes

-- a line of a view begins with its digit and one space. The views are counted from 0
abbrev pub view_line : ℕ → List ℕ → SplitLine
view_line views (digit ∷ (next ∷ bytes)) =
    if nat_le zero_digit digit && nat_lt (digit - zero_digit) views && (next == space)
    then own_line (digit - zero_digit) bytes else Astray
view_line views _ = Astray

-- what a line of a script for so many views is
abbrev pub split_line : ℕ → List ℕ → SplitLine
split_line views line =
    if is_blank line then Skipped
    else (if bytes_eq line (codes "undo") then Undo
    else (if bytes_eq line (codes "redo") then Redo else view_line views line))
