-- Where a text ends, and which of its offsets are boundaries.
use Rattle.std.proofs.Common.{◌≡◌, ℕ, ◌≤◌, if◌then◌else◌, List, length, Some, None, arith}
use Rattle.std.proofs.lemmas.Bool.{le-leb}
use Rattle.std.proofs.lemmas.List.Sums.{count_by-le-length}
use Rattle.cell_units.specs.declared.limits.TheConstants.{TEXT_LIMIT}
use Rattle.cell_units.specs.declared.fault.Refusal.TheVariants.{BadRange}
use Rattle.cell_units.specs.declared.place.Bias.TheVariants.{Left}
use Rattle.cell_units.specs.Laws.{TellsBoundaries}
use Rattle.cell_units.specs.Points.{offset_at}
use Rattle.cell_units.specs.Record.{line_count}
use Rattle.cell_units.specs.Text.{IsBoundary, is_boundary, is_feed}
use Rattle.cell_units.proofs.BufferLines.{line_count-is}
use Rattle.display_map.proofs.Settled.{if-none}

-- no text has so many rows that the greatest number names one
pub text-end : (text : List ℕ) → length text ≤ TEXT_LIMIT → offset_at text (record { row = 4294967295; column = 0 }) Left ≡ length text
text-end text short =
    let few : line_count text ≤ 4294967295 = omega (arith, short, line_count-is text, count_by-le-length is_feed text) in
    rw (le-leb (line_count text) 4294967295 few)

-- an offset that isn't refused is a boundary
pub shown-boundary : (text : List ℕ) (o : ℕ) → TellsBoundaries text → (if is_boundary text o then None else Some BadRange) ≡ None → IsBoundary text o
shown-boundary text o tells e = (tells o).0 (if-none (is_boundary text o) BadRange e)
