-- The lines that jobs that are out have.
use Rattle.std.specs.Prelude.{ℕ, ◌==◌, if◌then◌else◌, Bool, List, [], ◌∷◌, ◌++◌}
use Rattle.std.specs.List.{list_any}
use Rattle.cell_line.specs.declared.lines.Run.{Run}
use Rattle.cell_line.specs.Waiting.{has_line}
use Rattle.kept_sheet.specs.Kept.{standing}
use Rattle.display_map.specs.Outs.{OutParts}

-- the lines of the jobs of a width
abbrev pub lines_out : ℕ → List OutParts → List ℕ
lines_out width [] = []
lines_out width (out ∷ outs) =
    if out.width == width then standing out.lines ++ lines_out width outs else lines_out width outs

-- a line is one of these
abbrev pub is_in : ℕ → List ℕ → Bool
is_in line lines = list_any (λ l. l == line) lines

-- a run of these has the line
abbrev pub any_has : ℕ → List Run → Bool
any_has line runs = list_any (λ run. has_line run line) runs
