-- Stops as splices. Before each are as many rows of text as there are between it and the one before it. Its own rows
-- take the place of none.
use Rattle.std.specs.Prelude.{◌≡◌, ℕ, ◌+◌, ◌<◌, ◌≤◌, ◌^◌, ◌++◌, List, [], ◌∷◌, drop, length, slice_index_or, take}
use Rattle.splice_tree.specs.Splices.{Piece}
use Rattle.block_map.specs.declared.row_count.RowCount.{RowCount}
use Rattle.block_map.specs.Stops.{Stop, all_stop_rows}

abbrev pub StopPiece : Type 0
StopPiece = Piece RowCount (List (List ℕ))

-- the stops of splices, the first of which has its gap after `base` rows of text
abbrev pub stops_from : ℕ → List StopPiece → List Stop
stops_from base [] = []
stops_from base (p ∷ ps) =
    record { row = base + p.gap.rows; lines = p.load } ∷ stops_from (base + p.gap.rows) ps

-- a splice takes no row out, and puts in as many as its block has
abbrev pub IsStopPiece : StopPiece → Type 0
IsStopPiece p = (p.old.rows ≡ 0) × (p.new.rows ≡ length p.load)

abbrev pub AreStopPieces : List StopPiece → Type 0
AreStopPieces [] = Unit {0}
AreStopPieces (p ∷ ps) = IsStopPiece p × AreStopPieces ps

-- ---- stops that are put among others

-- how many rows of text are before the last stop, or `base` where there is none
abbrev pub last_row : ℕ → List Stop → ℕ
last_row base [] = base
last_row base (s ∷ ss) = last_row s.row ss

-- rows of stops don't fall, from a row on
abbrev pub AreRising : ℕ → List Stop → Type 0
AreRising base [] = Unit {0}
AreRising base (s ∷ ss) = (base ≤ s.row) × AreRising s.row ss

-- all rows together are a u32, and so is the number of stops
pub record StopsFit (stops : List Stop) : Type 0 where
  pub rows : last_row 0 stops + all_stop_rows stops < 2 ^ 32
  pub count : length stops < 2 ^ 32

-- a row of text lies between the stops before an index and those from it on
pub record IsRowFor (stops : List Stop) (at row : ℕ) : Type 0 where
  pub within : at ≤ length stops
  pub behind : (k : ℕ) (d : Stop) → k < at → (slice_index_or stops k d).row ≤ row
  pub before : (k : ℕ) (d : Stop) → at ≤ k → k < length stops → row ≤ (slice_index_or stops k d).row

abbrev pub stop_with : ℕ → List (List ℕ) → Stop
stop_with row lines = record { row = row; lines = lines }

-- the stops with one more before an index
abbrev pub with_stop : ℕ → Stop → List Stop → List Stop
with_stop at s stops = take at stops ++ s ∷ drop at stops

-- A stop may be put before an index: there is its row, and all rows are a u32 without it and with it.
pub record MayBePut (stops : List Stop) (at : ℕ) (s : Stop) : Type 0 where
  pub place : IsRowFor stops at s.row
  pub fit : StopsFit stops
  pub fits : StopsFit (with_stop at s stops)

-- the stops without that of an index
abbrev pub without_stop : ℕ → List Stop → List Stop
without_stop at stops = take at stops ++ drop (at + 1) stops
