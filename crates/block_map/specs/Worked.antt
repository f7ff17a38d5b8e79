-- Lines and blocks that are known, for worked rows.
use Rattle.std.specs.Prelude.{ℕ, List, [], ◌∷◌, codes, flat_map, map}
use Rattle.cell_units.specs.Layers.{Source}
use Rattle.cell_units.specs.Record.{Block, Fold}
use Rattle.plain_rows.specs.Rows.{Row}
use Rattle.block_map.specs.Between.{Between}
use Rattle.block_map.specs.Maps.{rows_with}
use Rattle.block_map.specs.Stops.{Stop}

abbrev pub source_with : List ℕ → List Fold → Source
source_with text folds = record { text = text; inlays = []; folds = folds }

-- lines of one row each
abbrev pub one_row_each : List (List ℕ) → List (List (List ℕ))
one_row_each texts = map (λ text. text ∷ []) texts

-- the rows of a text with folds and blocks, whose lines have these texts and one row each
abbrev pub rows_shown : List ℕ → List Fold → List Block → List (List ℕ) → List Row
rows_shown text folds blocks texts =
    flat_map (λ rows. rows) (rows_with (source_with text folds) blocks (one_row_each texts))

abbrev pub stop : ℕ → List (List ℕ) → Stop
stop row lines = record { row = row; lines = lines }

-- a line of two rows and one of one row, a block below the first and one above the second
abbrev pub two_lines : Between
two_lines = record {
  lines = (codes "a " ∷ codes "b" ∷ []) ∷ (codes "c" ∷ []) ∷ [];
  above = stop 2 (codes "==" ∷ []) ∷ [];
  below = stop 2 (codes "note" ∷ []) ∷ [];
}
