-- The place of an offset in the lines of a record.
use Rattle.std.proofs.Common.{◌≡◌, ◌≤◌, ◌+◌, ◌<◌, ℕ, false, length, sym, ap, subst, ◌∙◌}
use Rattle.std.specs.Prelude.{Option, None, Some}
use Rattle.cell_units.specs.declared.place.Bias.{Bias}
use Rattle.cell_units.specs.declared.place.Bias.TheVariants.{Left, Right}
use Rattle.cell_units.specs.declared.place.Point.{Point}
use Rattle.cell_units.specs.Folded.{inside, line_of, place_in_line}
use Rattle.cell_units.specs.Joined.{IsJoined}
use Rattle.cell_units.specs.Lawful.{IsLawful, IsWellFormed, source_of}
use Rattle.cell_units.specs.Layers.{IsBack, Source, place_of, point_of, shown_text}
use Rattle.cell_units.specs.Record.{Record}
use Rattle.cell_units.specs.Text.{IsBoundary, row_of}
use Rattle.plain_rows.specs.SpotRows.{HidesAround, IsFoldAround}
use Rattle.map_sheet.proofs.Folds.{PlaceLaws, ends-around, none-left, none-right, not-around}

-- laws of every layer, as they are called for
abbrev PlacesWithin : Type 0
PlacesWithin = (source : Source) (o : ℕ) (bias : Bias) → o ≤ length source.text → place_of source o bias ≤ length (shown_text source)

abbrev LinesOfPlaces : Type 0
LinesOfPlaces = (source : Source) (o : ℕ) (bias : Bias) → IsWellFormed source → o ≤ length source.text →
    row_of (shown_text source) (place_of source o bias) ≡ line_of source.text source.inlays source.folds o bias

abbrev ColumnsOfPlaces : Type 0
ColumnsOfPlaces = (source : Source) (o : ℕ) (bias : Bias) → IsWellFormed source → o ≤ length source.text →
    (point_of (shown_text source) (place_of source o bias)).column ≡ place_in_line source.text source.inlays source.folds o bias

module _ (r : Record) (is : IsLawful r) (layer : Source) (layer_is : layer ≡ source_of r) (o : ℕ) (bias : Bias) (boundary : IsBoundary r.text o) where
  pub boundary-there : IsBoundary layer.text o
  boundary-there = subst (λ (s : Source). IsBoundary s.text o) (sym layer_is) boundary

  module _ (place : ℕ) (place_is : place ≡ place_of layer o bias) where
    pub place-within : PlacesWithin → place ≤ length (shown_text layer)
    place-within law = subst (λ (n : ℕ). n ≤ length (shown_text layer)) (sym place_is) (law layer o bias boundary-there.0)

    module _ (point : Point) (point_is : point ≡ point_of (shown_text layer) place) where
      at : point ≡ point_of (shown_text (source_of r)) (place_of (source_of r) o bias)
      at = point_is ∙ ap (point_of (shown_text layer)) place_is ∙ ap (λ (s : Source). point_of (shown_text s) (place_of s o bias)) layer_is

      pub place-line : LinesOfPlaces → point.row ≡ line_of r.text r.inlays r.folds o bias
      place-line law = ap (λ (p : Point). p.row) at ∙ law (source_of r) o bias is.entries.source boundary.0

      pub place-byte : ColumnsOfPlaces → point.column ≡ place_in_line r.text r.inlays r.folds o bias
      place-byte law = ap (λ (p : Point). p.column) at ∙ law (source_of r) o bias is.entries.source boundary.0

-- the laws of places, of those that are called for
pub place-laws : (s : Source) →
    ((source : Source) (o p : ℕ) (bias : Bias) → o ≤ p → p ≤ length source.text → place_of source o bias ≤ place_of source p bias) →
    ((source : Source) (o : ℕ) → place_of source o Left ≤ place_of source o Right) →
    ((source : Source) (start end : ℕ) → IsJoined source.folds start end → start ≤ end → end ≤ length source.text →
    place_of source end Left ≡ place_of source start Right + 3) →
    ((source : Source) (start end o : ℕ) → IsJoined source.folds start end → start < o → o < end → end ≤ length source.text →
    (place_of source o Left ≡ place_of source start Right) × (place_of source o Right ≡ place_of source start Right + 3)) →
    PlaceLaws s
place-laws s rise left behind within = record { rise = rise s; left_first = left s; behind = behind s; within = within s }

-- ---- the joined fold around an offset

module _ (r : Record) (is : IsLawful r) (layer : Source) (layer_is : layer ≡ source_of r) (laws : PlaceLaws layer) (o : ℕ) (boundary : IsBoundary r.text o)
    (left right : ℕ) (left_is : left ≡ place_of layer o Left) (right_is : right ≡ place_of layer o Right) where
  formed : IsWellFormed layer
  formed = subst IsWellFormed (sym layer_is) is.entries.source

  there : IsBoundary layer.text o
  there = boundary-there r is layer layer_is o Left boundary

  at-left : (found : Option ℕ) → IsBack layer left Right found → IsBack layer (place_of layer o Left) Right found
  at-left found back = subst (λ (n : ℕ). IsBack layer n Right found) left_is back

  at-right : (found : Option ℕ) → IsBack layer right Left found → IsBack layer (place_of layer o Right) Left found
  at-right found back = subst (λ (n : ℕ). IsBack layer n Left found) right_is back

  pub fold-none-left : IsBack layer left Right None → IsFoldAround r.folds o None
  fold-none-left back = subst (λ (s : Source). inside s.folds o ≡ false) layer_is (none-left layer formed laws o there (at-left None back))

  pub fold-none-right : IsBack layer right Left None → IsFoldAround r.folds o None
  fold-none-right back = subst (λ (s : Source). inside s.folds o ≡ false) layer_is (none-right layer formed laws o there (at-right None back))

  module _ (start end : ℕ) (first : IsBack layer left Right (Some start)) (last : IsBack layer right Left (Some end)) where
    pub fold-found : start < o → o < end → IsFoldAround r.folds o (Some (record { start = start; end = end }))
    fold-found lt gt =
        subst (λ (s : Source). HidesAround s.folds o (record { start = start; end = end })) layer_is
        (ends-around layer formed laws o there start end (at-left (Some start) first) (at-right (Some end) last) lt gt)

    pub fold-none : (start < o → o < end → ⊥) → IsFoldAround r.folds o None
    fold-none apart =
        subst (λ (s : Source). inside s.folds o ≡ false) layer_is
        (not-around layer formed laws o there start end (at-left (Some start) first) (at-right (Some end) last) apart)
