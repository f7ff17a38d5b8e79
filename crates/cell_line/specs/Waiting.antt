-- Which run of lines is to be wrapped next.
use Rattle.std.specs.Prelude.{◌≡◌, ℕ, ◌+◌, ◌<◌, ◌≤◌, ◌==◌, ◌&&◌, not, nat_lt, nat_le, Bool, true, false, List, length, slice_index_or, Option, Some, None}
use Rattle.std.specs.List.{AllPairs, list_any}
use Rattle.cell_line.specs.declared.lines.Run.{Run}
use Rattle.cell_units.specs.declared.limits.TheConstants.{RUN_LIMIT}

-- the run has the line
abbrev pub has_line : Run → ℕ → Bool
has_line run line = nat_le run.first line && nat_lt line (run.first + run.count)

-- each run ends before all later ones begin
abbrev pub AreApart : List Run → Type 0
AreApart runs = AllPairs (λ a b. a.first + a.count ≤ b.first) runs

-- of lines with these marks, the line isn't wrapped at the width, and no run that is out has it
abbrev pub waits : List ℕ → ℕ → List Run → ℕ → Bool
waits marks width out line =
    nat_lt line (length marks)
    && not (slice_index_or marks line 0 == width)
    && not (list_any (λ run. has_line run line) out)

-- the first line that waits, with the waiting lines after it, as many as there are up to the limit
pub record IsNext (marks : List ℕ) (width : ℕ) (out : List Run) (run : Run) : Type 0 where
  pub some : 1 ≤ run.count
  pub few : run.count ≤ RUN_LIMIT
  pub none_before : (line : ℕ) → line < run.first → waits marks width out line ≡ false
  pub each : (k : ℕ) → k < run.count → waits marks width out (run.first + k) ≡ true
  pub no_longer : run.count < RUN_LIMIT → waits marks width out (run.first + run.count) ≡ false

-- none where no line waits
abbrev pub IsNextIfAny : List ℕ → ℕ → List Run → Option Run → Type 0
IsNextIfAny marks width out None = (line : ℕ) → waits marks width out line ≡ false
IsNextIfAny marks width out (Some run) = IsNext marks width out run
