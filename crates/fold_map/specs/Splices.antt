-- Joined folds as splices: before each the stretch of the layer that is shown, and in the place of what it hides a
-- placeholder.
use Rattle.std.specs.Prelude.{ℕ, ◌≡◌, ◌-◌, ◌≤◌, List, [], ◌∷◌, length, map}
use Rattle.cell_units.specs.declared.place.Bias.{Bias}
use Rattle.cell_units.specs.declared.place.Bias.TheVariants.{Left, Right}
use Rattle.cell_units.specs.Inlaid.{placeholder}
use Rattle.cell_units.specs.Layers.{Source, place_of, unfolded}
use Rattle.joined_folds.specs.declared.joined_fold.JoinedFold.{JoinedFold}
use Rattle.joined_folds.specs.JoinedLists.{AreAllJoined}
use Rattle.sum_core.specs.declared.load.NoLoad.{NoLoad}
use Rattle.splice_tree.specs.Splices.{Piece, measured, to_upper}
use Rattle.fold_map.specs.declared.amount.Amount.{Amount}
use Rattle.fold_map.specs.Amounts.{amount_between, bytes_of}

-- what is shown in the place of a joined fold
abbrev pub placeholder_of : JoinedFold → Amount
placeholder_of j = record { buffer = j.end - j.start; bytes = length placeholder; feeds = 0 }

-- A joined fold after the offset `base`: it hides the layer from after the inlays at its start to before those at its
-- end.
abbrev pub splice_of : Source → ℕ → JoinedFold → Piece Amount NoLoad
splice_of layer base j =
    record {
      gap = amount_between layer base Left j.start Right;
      old = amount_between layer j.start Right j.end Left;
      new = placeholder_of j;
      load = record {};
    }

-- joined folds in order, the first of them after the offset `base`
abbrev pub splices_from : Source → ℕ → List JoinedFold → List (Piece Amount NoLoad)
splices_from layer base [] = []
splices_from layer base (j ∷ js) = splice_of layer base j ∷ splices_from layer j.end js

-- the splices of a source: those of all its joined folds, over the layer without folds
pub record AreSplices (s : Source) (splices : List (Piece Amount NoLoad)) : Type 0 where
  pub joined : List JoinedFold
  pub all : AreAllJoined s.folds (length s.text) joined
  pub spliced : splices ≡ splices_from (unfolded s) 0 joined

-- Splices of joined folds carry each place of a layer, by either bias, to where it is among the folds.
abbrev pub CarryPlaces : Type 0
CarryPlaces = (s : Source) (splices : List (Piece Amount NoLoad)) (o : ℕ) (bias : Bias) → AreSplices s splices → o ≤ length s.text
    → place_of s o bias ≡ to_upper bias (map (measured bytes_of) splices) (place_of (unfolded s) o bias)
