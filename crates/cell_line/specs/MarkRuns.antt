-- Runs of lines at one mark.
use Rattle.std.specs.Prelude.{ℕ, ◌+◌, ◌==◌, ◌&&◌, if◌then◌else◌, List, [], ◌∷◌}
use Rattle.cell_line.specs.declared.lines.MarkRun.{MarkRun}

-- a line of this number and mark before runs: part of the first of them, where that is the next line's and of this mark
abbrev pub run_before : ℕ → ℕ → List MarkRun → List MarkRun
run_before line width [] = record { first = line; last = line; width = width } ∷ []
run_before line width (run ∷ runs) =
    if (run.first == line + 1) && (run.width == width)
    then (record { first = line; last = run.last; width = width } ∷ runs)
    else (record { first = line; last = line; width = width } ∷ run ∷ runs)

-- the maximal runs of neighbours of one mark other than 0, of lines of which the first has this number
abbrev pub runs_from : ℕ → List ℕ → List MarkRun
runs_from line [] = []
runs_from line (width ∷ widths) =
    if width == 0
    then runs_from (line + 1) widths
    else run_before line width (runs_from (line + 1) widths)
