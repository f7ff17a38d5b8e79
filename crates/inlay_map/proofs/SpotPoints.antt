-- The point of a place whose line begins in the text that it is in.
use Rattle.std.proofs.Common.{◌≡◌, ℕ, ◌+◌, ◌-◌, ◌<◌, ◌≤◌, [], ◌∙◌, length, ap, arith, refl}
use Rattle.cell_units.specs.declared.limits.TheConstants.{LAID_LIMIT}
use Rattle.cell_units.specs.declared.place.Point.{Point}
use Rattle.cell_units.specs.BufferLines.{line_start}
use Rattle.cell_units.specs.Lawful.{AreInlays}
use Rattle.cell_units.specs.Layers.{Source, point_of, shown_text}
use Rattle.cell_units.specs.Text.{row_of}
use Rattle.cell_units.proofs.PlainLayers.{line_of_offset}
use Rattle.cell_units.proofs.ReplacedRows.{row_of-le}
use Rattle.text_rope.proofs.RowStarts.{row_start_is}
use Rattle.inlay_map.specs.declared.spot.Spot.{Spot}
use Rattle.inlay_map.specs.Spots.{end_at}
use Rattle.inlay_map.proofs.SoughtSpots.{AreNumbers, row-text, start-text}
use Rattle.inlay_map.proofs.SourceLayers.{point-is}

module _ (v : Source) (none : v.folds ≡ []) (are : AreInlays v.text v.inlays) (short : length v.text ≤ LAID_LIMIT) where
  pub point-text : (place : ℕ) (spot : Spot) (p : Point) → AreNumbers v spot → spot.before.upper.bytes ≤ place → place ≤ length (shown_text v) → place - spot.before.upper.bytes ≤ spot.gap.bytes
      → p ≡ point_of v.text (spot.before.lower.bytes + (place - spot.before.upper.bytes)) → 0 < p.row - spot.before.lower.feeds
      → record { row = spot.before.upper.feeds + (p.row - spot.before.lower.feeds); column = p.column } ≡ point_of (shown_text v) place
  point-text place spot p n from within le is some =
      let o = spot.before.lower.bytes + (place - spot.before.upper.bytes) in
      let line = spot.before.upper.feeds + (p.row - spot.before.lower.feeds) in
      let inside : o ≤ length v.text = omega (arith, le, n.within) in
      let rows = row-text v none are short place spot n from le in
      let row : p.row ≡ row_of v.text o = ap (λ (q : Point). q.row) is in
      let last = row_of-le v.text o (end_at v.text v.inlays spot.index) (omega (arith, le, n.end)) in
      let begin = start-text v none are short line spot n (omega (arith, some)) (omega (arith, row, last, n.end_row)) in
      let own : spot.before.lower.feeds + (line - spot.before.upper.feeds) ≡ row_of v.text o = omega (arith, row, some) in
      let same = ap (line_start v.text) own in
      let column : p.column ≡ o - line_start v.text (row_of v.text o) = ap (λ (q : Point). q.column) is ∙ ap (λ k. o - k) (row_start_is v.text o inside) in
      let below = (line_of_offset v.text o inside).0 in
      let here : p.column ≡ place - line_start (shown_text v) line = omega (arith, column, same, below, begin.1, begin.2, from) in
      let at : line ≡ row_of (shown_text v) place = omega (arith, rows.1, row) in
      (λ i. record { row = line; column = here i }) ∙ (point-is (shown_text v) place line (line_start (shown_text v) line) within at refl).1
