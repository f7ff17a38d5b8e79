-- Where a place or a line of what is shown lies. It is in the text before an inlay, in what the inlay shows, or in the
-- text after all inlays.
use Rattle.std.specs.Prelude.{◌≡◌, ℕ, zero, suc, ◌+◌, ◌-◌, ◌<◌, ◌≤◌, List, [], ◌∷◌, length, take, drop, slice_get, Some}
use Rattle.cell_units.specs.declared.place.Bias.{Bias}
use Rattle.cell_units.specs.declared.piece.Piece.{Piece}
use Rattle.cell_units.specs.BufferLines.{line_start}
use Rattle.cell_units.specs.Inlaid.{Token, offset_of}
use Rattle.cell_units.specs.Folded.{folded}
use Rattle.cell_units.specs.Layers.{Source, place_of, shown_lines, shown_text}
use Rattle.cell_units.specs.Pieces.{pieces_of}
use Rattle.cell_units.specs.Record.{Inlay}
use Rattle.cell_units.specs.Text.{IsBoundary, row_of}
use Rattle.sum_core.specs.Sums.{total}
use Rattle.sum_tree.specs.Firsts.{IsReaching, IsShort}
use Rattle.splice_tree.specs.Sides.{none, both}
use Rattle.splice_tree.specs.Splices.{piece_sum}
use Rattle.splice_tree.specs.declared.sides.Sides.{Sides}
use Rattle.inlay_map.specs.declared.amount.Amount.{Amount}
use Rattle.inlay_map.specs.declared.spot.Spot.{Spot}
use Rattle.inlay_map.specs.Amounts.{amount_between, nothing, together}
use Rattle.inlay_map.specs.Splices.{base_at, splices_from}

-- how much is before the inlay of an index and after the one before it: of the text, and of what is shown
abbrev pub sum_before : List ℕ → ℕ → List Inlay → ℕ → Sides Amount
sum_before text base is n = total (none nothing) (both together) (piece_sum together) (take n (splices_from text base is))

-- the offset of the inlay of an index, and the text's end where there is none
abbrev pub end_at : List ℕ → List Inlay → ℕ → ℕ
end_at text [] n = length text
end_at text (i ∷ is) zero = i.offset
end_at text (i ∷ is) (suc n) = end_at text is n

-- The first inlay up to whose end as much is shown as is sought, or the end of all.
pub record IsSpot (s : Source) (number : Amount → ℕ) (target : ℕ) (bias : Bias) (spot : Spot) : Type 0 where
  pub within : spot.index ≤ length s.inlays
  pub before : spot.before ≡ sum_before s.text 0 s.inlays spot.index
  pub gap : spot.gap ≡ amount_between s.text (base_at 0 s.inlays spot.index) (end_at s.text s.inlays spot.index)
  pub short : 0 < spot.index → IsShort bias target (number spot.before.upper)
  pub reaching : spot.index < length s.inlays → IsReaching bias target (number (sum_before s.text 0 s.inlays (spot.index + 1)).upper)

-- what lies from one place to another, and the token after that
abbrev pub part_of : Source → ℕ → ℕ → List Token
part_of s place end = take (end + 1 - place) (drop place (folded s.text s.inlays s.folds))

-- ---- what is found there

-- the display line of a place
pub record IsRowAt (s : Source) (place line : ℕ) : Type 0 where
  pub row : line ≡ row_of (shown_text s) place
  pub there : line < length (shown_lines s)
  pub start : line_start (shown_text s) line ≤ place

-- The offset of what is at a place. Where an offset has this place, it is that one.
pub record IsOffsetAt (s : Source) (place offset : ℕ) : Type 0 where
  pub back : (o : ℕ) (bias : Bias) → o ≤ length s.text → place_of s o bias ≡ place → offset ≡ o
  pub token : (t : Token) → slice_get (folded s.text s.inlays s.folds) place ≡ Some t → offset ≡ offset_of t
  pub within : place ≤ length (shown_text s) → offset ≤ length s.text

-- the piece that goes on from a place, up to another one at most
pub record IsNextPiece (s : Source) (place end : ℕ) (p : Piece) : Type 0 where
  pub next : pieces_of (part_of s place end) ≡ p ∷ pieces_of (part_of s (place + length p.text) end)
  pub some : 0 < length p.text
  pub within : place + length p.text ≤ end
  pub boundary : IsBoundary (shown_text s) (place + length p.text)
