-- A source with folds as a layer: from a place back to an offset, and the point of a place.
use Rattle.std.proofs.Common.{◌≡◌, ℕ, ◌-◌, ◌<◌, ◌≤◌, ◌↔◌, ◌^◌, List, length, Option, Some, None, sym, ap, ◌∙◌, subst, arith}
use Rattle.cell_units.specs.declared.place.Bias.{Bias}
use Rattle.cell_units.specs.declared.place.Bias.TheVariants.{Left, Right}
use Rattle.cell_units.specs.BufferLines.{line_start}
use Rattle.cell_units.specs.Layers.{HasPlace, IsBack, Source, point_of, shown_text, unfolded}
use Rattle.cell_units.specs.Text.{is_feed, row_of}
use Rattle.cell_units.specs.Record.{Fold}
use Rattle.std.proofs.lemmas.List.Sums.{count_by-le-length}
use Rattle.cell_units.proofs.PlainLayers.{line_of_offset}
use Rattle.cell_units.proofs.ShownPlaces.{place-le}
use Rattle.cell_units.proofs.BufferLines.{line_count-is}
use Rattle.cell_units.proofs.ReplacedRows.{row_of-lt}
use Rattle.text_rope.proofs.RowStarts.{row_start_is}
use Rattle.sum_core.specs.declared.load.NoLoad.{NoLoad}
use Rattle.splice_tree.specs.Splices.{Piece}
use Rattle.fold_map.proofs.Positions.{unfold-same}
use Rattle.fold_map.specs.declared.amount.Amount.{Amount}
use Rattle.fold_map.specs.Snapshots.{IsSnapshot, with_folds}
use Rattle.fold_map.specs.Splices.{AreSplices}

-- ---- what a snapshot is seen as

-- The lower layer of a source, and its splices. Each place of it is a u32.
pub record IsOver (v low : Source) (ps : List (Piece Amount NoLoad)) : Type 0 where
  pub below : low ≡ unfolded v
  pub are : AreSplices v ps
  pub fits : length (shown_text v) < 2 ^ 32

pub over : (low v : Source) (folds : List Fold) (ps : List (Piece Amount NoLoad)) → IsSnapshot low folds ps → with_folds low folds ≡ v → IsOver v low ps
over low v folds ps is view = record {
  below = unfold-same low is.bare ∙ ap unfolded view;
  are = subst (λ (u : Source). AreSplices u ps) view is.spliced;
  fits = subst (λ (u : Source). length (shown_text u) < 2 ^ 32) view is.fits;
}

-- the row of a place is a u32 with it
pub row-small : (v : Source) (place : ℕ) → row_of (shown_text v) place ≤ length (shown_text v)
row-small v place = omega (arith, row_of-lt (shown_text v) place, line_count-is (shown_text v), count_by-le-length is_feed (shown_text v))

-- ---- places and offsets

-- the same offsets, so the same result
pub back-same : (s u : Source) (p q : ℕ) (bias : Bias) (found : Option ℕ) → ((o : ℕ) → HasPlace s p o ↔ HasPlace u q o) → IsBack u q bias found → IsBack s p bias found
back-same s u p q bias None same none = λ o h. none o ((same o).0 h)
back-same s u p q Left (Some o) same is = ((same o).1 is.0, λ k h. is.1 k ((same k).0 h))
back-same s u p q Right (Some o) same is = ((same o).1 is.0, λ k h. is.1 k ((same k).0 h))

-- no offset has a place after the last one
pub back-past : (s : Source) (p : ℕ) (bias : Bias) → length (shown_text s) < p → IsBack s p bias None
back-past s p bias past o h = omega (arith, past, place-le s o h.1 h.0.0.0, h.2)

-- the row of a place and the place at which that begins are its point
pub point-is : (text : List ℕ) (place row start : ℕ) → place ≤ length text → row ≡ row_of text place → start ≡ line_start text row
    → (start ≤ place) × (record { row = row; column = place - start } ≡ point_of text place)
point-is text place row start le r s =
    let at : start ≡ line_start text (row_of text place) = s ∙ ap (line_start text) r in
    let column = at ∙ sym (row_start_is text place le) in
    (omega (arith, at, (line_of_offset text place le).0), λ i. record { row = r i; column = place - column i })
