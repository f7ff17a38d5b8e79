-- A place whose display line begins in the stretch of the lower layer in which the place lies.
use Rattle.std.proofs.Common.{◌≡◌, ℕ, ◌+◌, ◌-◌, ◌<◌, ◌≤◌, ◌⊎◌, List, length, take, get_or, min, Option, Some, None, sym, ap, ◌∙◌, inl, inr, arith}
use Rattle.std.specs.List.{slice_get}
use Rattle.std.proofs.lemmas.Option.{slice_get_cases}
use Rattle.cell_units.specs.declared.place.Point.{Point}
use Rattle.cell_units.specs.BufferLines.{line_start}
use Rattle.cell_units.specs.Layers.{Source, point_of, shown_lines, shown_text, unfolded}
use Rattle.cell_units.specs.Text.{row_of}
use Rattle.cell_units.proofs.PlainLayers.{line_of_offset}
use Rattle.cell_units.proofs.ReplacedRows.{row_of-le, row_of-lt}
use Rattle.text_rope.proofs.RowStarts.{row_start_is}
use Rattle.sum_core.specs.declared.load.NoLoad.{NoLoad}
use Rattle.splice_tree.specs.Splices.{Piece}
use Rattle.splice_tree.specs.declared.sides.Sides.{Sides}
use Rattle.fold_map.specs.declared.amount.Amount.{Amount}
use Rattle.fold_map.specs.declared.spots.Spot.{Spot}
use Rattle.fold_map.specs.Lines.{IsLineStart}
use Rattle.fold_map.specs.Splices.{AreSplices}
use Rattle.fold_map.specs.Spots.{IsSpotAt, kept_of}
use Rattle.fold_map.proofs.ShownSplices.{sums}
use Rattle.fold_map.proofs.LinesLayer.{lines-above, place-at}
use Rattle.fold_map.proofs.SpotsFound.{gap-end, spot-is, sums-next}

-- a place is so far after the start of its line as its column says
pub column-is : (text : List ℕ) (place : ℕ) (p : Point) → place ≤ length text → p ≡ point_of text place → (p.column ≤ place) × (place - p.column ≡ line_start text (row_of text place))
column-is text place p le e =
    let start = row_start_is text place le in
    let before = (line_of_offset text place le).0 in
    let column = ap (λ (q : Point). q.column) e in
    (omega (arith, column, start, before), omega (arith, column, start, before))

-- the line of a spot starts after the same splices, where it isn't the one in which these end
pub start-here : (s : Source) (ps : List (Piece Amount NoLoad)) → AreSplices s ps → (place row below : ℕ) (spot : Spot) (at : IsSpotAt ps place spot) → below ≡ row_of (shown_text (unfolded s)) spot.below → spot.before.lower.feeds < below
    → row ≡ spot.before.upper.feeds + (below - spot.before.lower.feeds) → IsLineStart ps row (record { index = at.index; before = spot.before; below = below })
start-here s ps are place row below spot at b some r = record {
  first = record {
    within = at.first.within;
    short = λ _. omega (arith, upper, r, some);
    reaching = λ lt. reach lt ((slice_get_cases ps at.index).1);
  };
  before = at.before;
  behind = omega (arith, r);
  below = omega (arith, r, some);
} where
  upper : spot.before.upper.feeds ≡ (sums (take at.index ps)).upper.feeds
  upper = ap (λ (b : Sides Amount). b.upper.feeds) at.before

  lower : spot.before.lower.feeds ≡ (sums (take at.index ps)).lower.feeds
  lower = ap (λ (b : Sides Amount). b.lower.feeds) at.before

  reach : at.index < length ps → ((p : Piece Amount NoLoad) × (at.index < length ps) × (slice_get ps at.index ≡ Some p) × (get_or ps at.index p ≡ p)) ⊎ ((length ps ≤ at.index) × (slice_get ps at.index ≡ None)) → row ≤ (sums (take (at.index + 1) ps)).upper.feeds
  reach lt (inr past) = absurd (omega (arith, lt, past.0))
  reach lt (inl found) =
      let p = found.0 in
      let e = found.2 in
      let next = sums-next ps at.index p e in
      let end = gap-end s ps are at.index place at.first p e in
      let kept : spot.below ≡ spot.before.lower.bytes + min (place - spot.before.upper.bytes) p.gap.bytes = at.below ∙ ap (λ (o : Option (Piece Amount NoLoad)). spot.before.lower.bytes + kept_of o (place - spot.before.upper.bytes)) e in
      let bytes = ap (λ (b : Sides Amount). b.lower.bytes) at.before in
      let most = row_of-le (shown_text (unfolded s)) spot.below ((sums (take at.index ps)).lower.bytes + p.gap.bytes) (omega (arith, kept, bytes)) in
      omega (arith, r, b, most, end.1, next.1, upper, lower)

-- where the line of a place begins, by the point of its place in the lower layer
pub record BeginsHere (s : Source) (place row : ℕ) (spot : Spot) (p : Point) : Type 0 where
  pub column : p.column ≤ spot.below
  pub behind : spot.before.lower.bytes ≤ spot.below - p.column
  pub row_is : row ≡ row_of (shown_text s) place
  pub begin : spot.before.upper.bytes + (spot.below - p.column - spot.before.lower.bytes) ≡ line_start (shown_text s) row

pub begins-here : (s : Source) (ps : List (Piece Amount NoLoad)) → AreSplices s ps → (place row : ℕ) (spot : Spot) (p : Point) → place ≤ length (shown_text s) → IsSpotAt ps place spot → p ≡ point_of (shown_text (unfolded s)) spot.below
    → 0 < p.row - spot.before.lower.feeds → row ≡ spot.before.upper.feeds + (p.row - spot.before.lower.feeds) → BeginsHere s place row spot p
begins-here s ps are place row spot p within at e some r =
    let is = spot-is s ps are place within spot at in
    let low = shown_text (unfolded s) in
    let below : p.row ≡ row_of low spot.below = ap (λ (q : Point). q.row) e in
    let row_is : row ≡ row_of (shown_text s) place = omega (arith, is.order, is.row, below, r) in
    let lt : row < length (shown_lines s) = omega (arith, row_is, row_of-lt (shown_text s) place, lines-above s ps are) in
    let begins = place-at s ps are row (record { index = at.index; before = spot.before; below = p.row }) (start-here s ps are place row p.row spot at below (omega (arith, some)) r) lt in
    let column = column-is low spot.below p is.within e in
    let first : spot.below - p.column ≡ line_start low p.row = column.1 ∙ ap (line_start low) (sym below) in
    record {
      column = column.0;
      behind = omega (arith, first, begins.behind);
      row_is = row_is;
      begin = ap (λ (k : ℕ). spot.before.upper.bytes + (k - spot.before.lower.bytes)) first ∙ sym begins.place;
    }
