-- What an operation makes of the display lines: some make place for others, and each other line stays as it is.
use Rattle.std.specs.Prelude.{ℕ, ◌≡◌, ◌+◌, ◌-◌, ◌≤◌, List, ◌++◌, length, take, drop, replicate}
use Rattle.cell_units.specs.Record.{Record, plain_marks}
use Rattle.cell_units.specs.Operation.{Operation, operated}
use Rattle.plain_rows.specs.Rows.{line_elements}
use Rattle.display_sheet.specs.LineStep.{line_step}

-- of what is kept of each line: those from `first` up to `end` make place for `count` fresh ones
abbrev pub spliced : {Y : Type 0} → (first end count : ℕ) → Y → List Y → List Y
spliced first end count fresh ys = take first ys ++ (replicate count fresh ++ drop end ys)

-- the lines from `first` up to `end` make place for `count` others, which have fresh marks. Each other line keeps its
-- mark and its elements
pub record IsLineSplice (operation : Operation) (r : Record) (first end count : ℕ) : Type 0 where
  pub order : first ≤ end
  pub within : end ≤ length (line_elements r)
  pub long :
      length (line_elements (operated operation r))
      ≡ first + (count + (length (line_elements r) - end))
  pub step : line_step operation r ≡ record (operated operation r) {
    marks = take first r.marks ++ (plain_marks r.next_stamp count ++ drop end r.marks);
    next_stamp = r.next_stamp + count;
  }
  pub above : take first (line_elements (operated operation r)) ≡ take first (line_elements r)
  pub below :
      drop (first + count) (line_elements (operated operation r)) ≡ drop end (line_elements r)
