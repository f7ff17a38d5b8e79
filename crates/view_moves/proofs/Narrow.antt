-- Of a lawful record each valid spot has few rows and columns before it.
use Rattle.std.proofs.Common.{◌≡◌, ◌≤◌, ◌+◌, ℕ, ◌==◌, Bool, true, false, if◌then◌else◌, List, ◌∷◌, length, nat_le, count_by, slice_range, slice_index, ap, arith}
use Rattle.std.proofs.lemmas.List.Sums.{count_by-le-length}
use Rattle.cell_units.specs.declared.limits.TheConstants.{TEXT_LIMIT}
use Rattle.cell_units.specs.declared.place.Bias.{Bias}
use Rattle.cell_units.specs.declared.place.Spot.{Spot}
use Rattle.cell_units.specs.Folded.{line_of, place_in_line}
use Rattle.cell_units.specs.Lawful.{IsLawful}
use Rattle.cell_units.specs.Record.{Record}
use Rattle.cell_line.specs.declared.element.Element.{Element}
use Rattle.cell_line.specs.Elements.{total_cells}
use Rattle.cell_line.specs.Wrapping.{cuts_of, indent_of}
use Rattle.cell_line.proofs.Scan.{range_le}
use Rattle.plain_rows.specs.Spots.{elements_at, elements_before, mark_at, positions, show}
use Rattle.plain_rows.specs.inside.SpotRows.{cells_limit}
use Rattle.plain_rows.proofs.SpotFronts.{line_of-within}
use Rattle.plain_rows.proofs.SpotLines.{indent-narrow}
use Rattle.plain_rows.proofs.SpotPositions.{boundary-within, contains-unmapped, position-boundary}
use Rattle.plain_rows.proofs.SpotSizes.{cells-few, first-few, width-lawful}
use Rattle.view_moves.specs.Laws.{IsNarrow}

nothing_or : (b : Bool) (n m : ℕ) → n ≤ m → (if b then 0 else n) ≤ m
nothing_or true n m le = omega arith
nothing_or false n m le = le

few-in_line : (es : List Element) (width place : ℕ) → indent_of es width ≤ 10000 → total_cells es ≤ cells_limit →
    (if count_by (λ cut. nat_le cut place) (cuts_of es width) == 0 then 0 else indent_of es width)
    + total_cells (slice_range es (slice_index (0 ∷ cuts_of es width) (count_by (λ cut. nat_le cut place) (cuts_of es width))) place) ≤ 2149590816
few-in_line es width place narrow few =
    let row = count_by (λ cut. nat_le cut place) (cuts_of es width) in
    omega (
      arith,
      nothing_or (row == 0) (indent_of es width) 10000 narrow,
      range_le es (slice_index (0 ∷ cuts_of es width) row) place,
      few,
    )

spot-few : (r : Record) → IsLawful r → length r.text ≤ 67108864 → (o : ℕ) (b : Bias) → o ≤ length r.text → ((show r o b).row ≤ 302252034) × ((show r o b).col ≤ 2149590816)
unfolding show
spot-few r lawful short o b le =
    let line = line_of r.text r.inlays r.folds o b in
    let es = elements_at r line in
    let width = (mark_at r line).width in
    let place = elements_before es (place_in_line r.text r.inlays r.folds o b) b in
    let within = line_of-within r lawful o b le in (
      omega (arith, count_by-le-length (λ cut. nat_le cut place) (cuts_of es width), first-few r lawful short line within),
      few-in_line es width place (indent-narrow es width (width-lawful r lawful short line within)) (cells-few r lawful short line within),
    )

pub narrow : (r : Record) → IsLawful r → length r.text ≤ TEXT_LIMIT → IsNarrow r
narrow r lawful few s m =
    let short : length r.text ≤ 67108864 = omega (arith, few) in
    let of = contains-unmapped (λ (p : ℕ × Bias). show r p.0 p.1) (positions r.text) s m in
    let small = spot-few r lawful short of.0.0 of.0.1 (boundary-within r.text of.0.0 (position-boundary r.text of.0 of.1)) in
    let row : (show r of.0.0 of.0.1).row ≡ s.row = ap (λ (t : Spot). t.row) of.2 in
    let col : (show r of.0.0 of.0.1).col ≡ s.col = ap (λ (t : Spot). t.col) of.2 in
    (omega (arith, small.0, row), omega (arith, small.1, col))
