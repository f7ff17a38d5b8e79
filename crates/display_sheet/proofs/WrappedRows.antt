-- The rows of lines, and where a line is in their chunks.
use Rattle.std.proofs.Common.{◌≡◌, ℕ, ◌+◌, ◌*◌, ◌/◌, ◌%◌, ◌<◌, ◌≤◌, List, length, set, get_or, ap, ◌∙◌, arith}
use Rattle.std.specs.List.{All}
use Rattle.std.proofs.lemmas.List.Sums.{get_or-le-sum_by, sum_by-le, sum_by-set}
use Rattle.display_sheet.specs.declared.wraps.Wrapped.{Wrapped}
use Rattle.display_sheet.specs.declared.wraps.Wraps.TheInside.{Inside}
use Rattle.display_sheet.specs.Chunks.{joined}
use Rattle.display_sheet.specs.Wraps.{KeepsWraps, rows_of_lines}
use Rattle.display_sheet.proofs.Chunks.{StandsAt, stands-at}

-- a line of lines in chunks
pub stands-line : (w : Inside) → KeepsWraps w → (line : ℕ) → line < length (joined w.chunks.items) → StandsAt w.chunks.items (line / 2048) (line % 2048) line
stands-line w keeps line lt =
    stands-at 2048 w.chunks.items (line / 2048) (line % 2048) line keeps.full (omega arith) (omega arith) lt

-- few lines of few rows have few rows
pub sum-few : (ws : List Wrapped) → length ws < 4294967296 → All (λ (w : Wrapped). w.rows < 4294967296) ws → rows_of_lines ws ≤ length ws * 4294967295
sum-few ws few small = sum_by-le (λ (w : Wrapped). w.rows) 4294967295 ws (λ k d lt. omega (arith, small k d lt))

-- the rows of lines of which one is wrapped otherwise
pub rows-set : (ws : List Wrapped) (line : ℕ) (w own : Wrapped) → line < length ws → own ≡ get_or ws line own → rows_of_lines (set ws line w) + own.rows ≡ rows_of_lines ws + w.rows
rows-set ws line w own lt is =
    ap (λ (n : ℕ). rows_of_lines (set ws line w) + n) (ap (λ (w : Wrapped). w.rows) is) ∙ sum_by-set (λ (w : Wrapped). w.rows) ws line w own lt

pub rows-own : (ws : List Wrapped) (line : ℕ) (own : Wrapped) → line < length ws → own ≡ get_or ws line own → own.rows ≤ rows_of_lines ws
rows-own ws line own lt is =
    omega (arith, ap (λ (w : Wrapped). w.rows) is, get_or-le-sum_by (λ (w : Wrapped). w.rows) ws line own lt)
