-- How many rows and cells lines have at most.
use Rattle.std.proofs.Common.{ℕ, ◌-◌, ◌≤◌, Bool, true, false, cond, ltb, eqb, List, [], ◌∷◌, zero, suc, length, inl, inr, arith}
use Rattle.cell_units.specs.Lawful.{IsWidth}
use Rattle.cell_line.specs.declared.element.Element.{Element}
use Rattle.cell_line.specs.Wrapping.{cuts_of, indent_of, next_start_of, row_starts}
use Rattle.cell_line.proofs.Rows.{indent_le}

starts-few : (es : List Element) (room most start : ℕ) → length (row_starts es room most start) ≤ most
unfolding row_starts
starts-few es room zero start = omega arith
starts-few es room (suc most) start = go (ltb start (length es)) (starts-few es room most (next_start_of es room start)) where
  go : (c : Bool) → length (row_starts es room most (next_start_of es room start)) ≤ most → length (cond c (start ∷ row_starts es room most (next_start_of es room start)) []) ≤ suc most
  go true h = omega (arith, h)
  go false h = omega arith

-- a line has no more cuts than elements
pub cuts-few : (es : List Element) (width : ℕ) → length (cuts_of es width) ≤ length es
unfolding cuts_of
cuts-few es width = go (eqb width 0) where
  starts : List ℕ
  starts = row_starts es (width - indent_of es width) (length es) (next_start_of es width 0)

  go : (c : Bool) → length (cond c [] starts) ≤ length es
  go true = omega arith
  go false = starts-few es (width - indent_of es width) (length es) (next_start_of es width 0)

pub indent-narrow : (es : List Element) (width : ℕ) → IsWidth width → indent_of es width ≤ 10000
indent-narrow es width (inl none) = omega (arith, none, indent_le es width)
indent-narrow es width (inr some) = omega (arith, some.1, indent_le es width)
