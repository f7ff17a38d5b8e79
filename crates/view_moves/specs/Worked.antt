-- Carets and selections that are known, for worked rows.
use Rattle.std.specs.Prelude.{ℕ, List}
use Rattle.view_moves.specs.declared.caret.Caret.{Caret}
use Rattle.view_moves.specs.declared.caret.RowSpan.{RowSpan}
use Rattle.plain_rows.specs.Worked.{spot}
use Rattle.view_moves.specs.Moves.{Selected}

abbrev pub caret_at : ℕ → ℕ → ℕ → Caret
caret_at row col goal = record { spot = spot row col; goal = goal }

abbrev pub span_of : ℕ → ℕ → ℕ → RowSpan
span_of row from to = record { row = row; from = from; to = to }

abbrev pub selected : ℕ → ℕ → List RowSpan → Selected
selected start end spans = record { start = start; end = end; spans = spans }
