-- Boundaries as the library finds them.
use Rattle.std.proofs.Common.{◌≡◌, ℕ, ◌+◌, ◌-◌, ◌<◌, ◌≤◌, List, [], length, get_or, drop, ap, arith, length-drop}
use Rattle.std.specs.Str.{IsCharBoundary, IsUtf8}
use Rattle.std.proofs.lemmas.List.{length-take-le}
use Rattle.cell_units.specs.declared.place.Point.{Point}
use Rattle.cell_units.specs.declared.place.Bias.{Bias}
use Rattle.cell_units.specs.Record.{line_count}
use Rattle.cell_units.specs.Text.{IsBoundary}
use Rattle.cell_units.specs.BufferLines.{buffer_lines, line_end, line_start}
use Rattle.cell_units.specs.Points.{IsFirstBoundary, IsLastBoundary, IsNearBoundary, offset_at}
use Rattle.cell_units.proofs.Boundaries.{boundary_from_test, test_from_boundary}
use Rattle.cell_units.proofs.BufferLines.{get_or-buffer_lines, line_bounds}
use Rattle.cell_units.proofs.Points.{offset_is}
use Rattle.cell_units.proofs.TextLaws.{tells_boundaries}

module _ (text : List ℕ) (utf8 : IsUtf8 text) where
  stands : (o : ℕ) → IsCharBoundary text o → IsBoundary text o
  stands o h = (tells_boundaries text utf8 o).0 (test_from_boundary text o h)

  found : (o : ℕ) → IsBoundary text o → IsCharBoundary text o
  found o h = boundary_from_test text o ((tells_boundaries text utf8 o).1 h)

  pub last-found : (o r : ℕ) → r ≤ o → IsCharBoundary text r → ((i : ℕ) → r < i → i ≤ o → ¬ (IsCharBoundary text i)) → IsLastBoundary text o r
  last-found o r le at none = record {
    boundary = stands r at;
    order = le;
    nearest = λ i from upto is. none i from upto (found i is);
  }

  pub first-found : (o r : ℕ) → o ≤ r → IsCharBoundary text r → ((i : ℕ) → o ≤ i → i < r → ¬ (IsCharBoundary text i)) → IsFirstBoundary text o r
  first-found o r le at none = record {
    boundary = stands r at;
    order = le;
    nearest = λ i from upto is. none i from upto (found i is);
  }

-- a line is as long as from its start to its end
pub line-length : (text : List ℕ) (line : ℕ) → line < line_count text →
    (line_start text line + length (get_or (buffer_lines text) line []) ≡ line_end text line) × (line_end text line ≤ length text)
line-length text line lt =
    let start = line_start text line in
    let end = line_end text line in
    let bounds = line_bounds text line lt in
    let rest = drop start text in (
      omega (
        arith,
        bounds.0,
        bounds.1,
        ap length (get_or-buffer_lines text line lt),
        length-drop start text,
        length-take-le (end - start) rest (omega (arith, bounds.0, bounds.1, length-drop start text)),
      ),
      bounds.1,
    )

-- ---- the offset at a point, by its three cases

module _ (text : List ℕ) (utf8 : IsUtf8 text) (p : Point) (bias : Bias) where
  pub offset-past_end : p.row < line_count text → line_end text p.row < line_start text p.row + p.column → line_end text p.row ≡ offset_at text p bias
  offset-past_end within past =
      offset_is text utf8 p bias (line_end text p.row)
      (record {
        past_rows = λ le. absurd (omega (arith, le, within));
        past_end = λ own lt. omega arith;
        in_row = λ own le. absurd (omega (arith, past, le));
      })

  pub offset-in_row : (r : ℕ) → p.row < line_count text → line_start text p.row + p.column ≤ line_end text p.row →
      IsNearBoundary text (line_start text p.row + p.column) bias r → r ≡ offset_at text p bias
  offset-in_row r within here near =
      offset_is text utf8 p bias r
      (record {
        past_rows = λ le. absurd (omega (arith, le, within));
        past_end = λ own lt. absurd (omega (arith, here, lt));
        in_row = λ own le. near;
      })
