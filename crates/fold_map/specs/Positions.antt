-- Positions of a layer, and how much there is between them.
use Rattle.std.specs.Prelude.{ℕ, ◌+◌, ◌-◌, ◌<◌, ◌≤◌, ◌^◌, List, [], ◌∷◌, length}
use Rattle.cell_units.specs.declared.place.Bias.{Bias}
use Rattle.cell_units.specs.declared.place.Bias.TheVariants.{Left, Right}
use Rattle.cell_units.specs.Inlaid.{placeholder}
use Rattle.cell_units.specs.Layers.{Source, place_of}
use Rattle.cell_units.specs.Text.{IsBoundary}
use Rattle.sum_core.specs.declared.load.NoLoad.{NoLoad}
use Rattle.splice_tree.specs.Splices.{Piece}
use Rattle.joined_folds.specs.declared.joined_fold.JoinedFold.{JoinedFold}
use Rattle.fold_map.specs.declared.amount.Amount.{Amount}
use Rattle.fold_map.specs.declared.position.Position.{Position}
use Rattle.fold_map.specs.Amounts.{line_at}

-- the position of an offset by a bias
abbrev pub position_of : Source → ℕ → Bias → Position
position_of s o bias = record { offset = o; place = place_of s o bias; line = line_at s o bias }

-- how much there is from one position to another
abbrev pub distance : Position → Position → Amount
distance p q = record { buffer = q.offset - p.offset; bytes = q.place - p.place; feeds = q.line - p.line }

-- the one position is at or before the other
pub record IsBefore (p q : Position) : Type 0 where
  pub offsets : p.offset ≤ q.offset
  pub places : p.place ≤ q.place
  pub lines : p.line ≤ q.line

-- what hides the layer from one position to another, after what is shown from a third on
abbrev pub hiding : Position → Position → Position → Piece Amount NoLoad
hiding from start end =
    record {
      gap = distance from start;
      old = distance start end;
      new = record { buffer = end.offset - start.offset; bytes = length placeholder; feeds = 0 };
      load = record {};
    }

-- a joined fold after an offset is at boundaries, and its placeholder at a place that is a u32
pub record IsInText (s : Source) (base : ℕ) (j : JoinedFold) : Type 0 where
  pub base_at : IsBoundary s.text base
  pub start_at : IsBoundary s.text j.start
  pub end_at : IsBoundary s.text j.end
  pub order : base ≤ j.start
  pub some : j.start < j.end
  pub fits : place_of s j.start Right - place_of s base Left + length placeholder < 2 ^ 32

abbrev pub AreInText : Source → ℕ → List JoinedFold → Type 0
AreInText s base [] = IsBoundary s.text base
AreInText s base (j ∷ js) = IsInText s base j × AreInText s j.end js
