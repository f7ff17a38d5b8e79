-- The blocks of one side as the map keeps them: marks, beside each a stop, and the anchors of the blocks that weren't
-- shown yet.
use Rattle.std.specs.Prelude.{◌≡◌, ℕ, ◌==◌, ◌≤◌, ◌⊎◌, not, Bool, Option, Some, None, if◌then◌else◌, List, [], ◌∷◌, filter, length, map}
use Rattle.std.specs.Option.{is_some}
use Rattle.cell_units.specs.declared.limits.TheConstants.{ENTRY_LIMIT}
use Rattle.cell_units.specs.declared.place.Bias.TheVariants.{Right}
use Rattle.cell_units.specs.Lawful.{AreBlockLines}
use Rattle.mark_tree.specs.declared.mark.Mark.{Mark}
use Rattle.sum_core.specs.declared.load.NoLoad.{NoLoad}
use Rattle.block_map.specs.Maps.{Kept}
use Rattle.block_map.specs.Stops.{Stop}
use Rattle.block_map.specs.inside.StopLists.{StopsFit}

-- the mark of a block carries its lines
abbrev pub BlockMark : Type 0
BlockMark = Mark (List (List ℕ))

-- nothing is shown at a stop without lines
abbrev pub shown_at : Stop → Option ℕ
shown_at s = if length s.lines == 0 then None else Some s.row

abbrev pub kept : BlockMark → Stop → Kept
kept m s = record { offset = m.offset; id = m.id; lines = m.load; row = shown_at s }

-- each mark with its stop
abbrev pub kept_of : List BlockMark → List Stop → List Kept
kept_of [] ss = []
kept_of (m ∷ ms) [] = []
kept_of (m ∷ ms) (s ∷ ss) = kept m s ∷ kept_of ms ss

-- a stop has the lines of its block, or none where nothing of the block is shown yet
pub record IsOf (m : BlockMark) (s : Stop) : Type 0 where
  pub lines : (s.lines ≡ m.load) ⊎ (s.lines ≡ [])
  pub bias : m.bias ≡ Right
  pub lawful : AreBlockLines m.load

-- each mark has its stop
abbrev pub ArePaired : List BlockMark → List Stop → Type 0
ArePaired [] [] = Unit {0}
ArePaired [] (s ∷ ss) = ⊥
ArePaired (m ∷ ms) [] = ⊥
ArePaired (m ∷ ms) (s ∷ ss) = IsOf m s × ArePaired ms ss

-- nothing of the block is shown yet
abbrev pub is_unshown : Kept → Bool
is_unshown k = not (is_some k.row)

abbrev pub anchor_of : Kept → Mark NoLoad
anchor_of k = record { offset = k.offset; bias = Right; id = k.id; load = record {} }

-- the anchors of the blocks of which nothing is shown yet
abbrev pub unshown_anchors : List Kept → List (Mark NoLoad)
unshown_anchors ks = map anchor_of (filter is_unshown ks)

-- What a side keeps: a stop for each mark, rows that fit a u32, and the anchors of the blocks that weren't shown yet.
pub record IsSide (marks : List BlockMark) (stops : List Stop) (added : List (Mark NoLoad)) : Type 0 where
  pub each : ArePaired marks stops
  pub fits : StopsFit stops
  pub few : length marks ≤ ENTRY_LIMIT
  pub anchors : added ≡ unshown_anchors (kept_of marks stops)
