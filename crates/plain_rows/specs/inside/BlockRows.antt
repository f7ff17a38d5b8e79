-- The rows of the buffer that blocks are anchored in.
use Rattle.std.specs.Prelude.{ℕ, ◌≡◌, ◌≤◌, List, length}
use Rattle.cell_units.specs.declared.place.Bias.TheVariants.{Left, Right}
use Rattle.cell_units.specs.declared.place.Side.{Side}
use Rattle.cell_units.specs.declared.place.Side.TheVariants.{Above, Below}
use Rattle.cell_units.specs.Folded.{line_of}
use Rattle.cell_units.specs.Layers.{Source}
use Rattle.cell_units.specs.Text.{row_end, row_start}

-- a row of the text, from its first offset to its end
pub record IsRow (text : List ℕ) (start end : ℕ) : Type 0 where
  pub starts : row_start text start ≡ start
  pub ends : row_end text start ≡ end
  pub within : start ≤ length text

-- the display line of a block on this side of the row
abbrev pub line_of_row : Source → Side → ℕ → ℕ → ℕ
line_of_row source Above start end = line_of source.text source.inlays source.folds start Left
line_of_row source Below start end = line_of source.text source.inlays source.folds end Right
