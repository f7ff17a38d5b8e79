-- Where stops go that edits of rows keep.
use Rattle.std.specs.Prelude.{◌≡◌, ℕ, ◌+◌, ◌-◌, ◌≤◌, ◌==◌, Bool, not, true, if◌then◌else◌, List, [], ◌∷◌, Some, map}
use Rattle.std.specs.List.{All}
use Rattle.cell_units.specs.declared.place.Bias.{Bias}
use Rattle.cell_units.specs.declared.place.Bias.TheVariants.{Left, Right}
use Rattle.edit_patch.specs.declared.edit.Edit.{Edit}
use Rattle.edit_patch.specs.Came.{carry_of}
use Rattle.edit_patch.specs.Fits.{added_count}
use Rattle.block_map.specs.Stops.{Stop, stands_before}
use Rattle.block_map.specs.inside.StopLists.{AreRising, StopsFit}

-- A stop that isn't before the end of some rows moves where others take their place.
abbrev pub moved_stop : Bias → ℕ → ℕ → ℕ → Stop → Stop
moved_stop bias start end count s =
    if stands_before bias end s then s else record s { row = s.row + count - (end - start) }

-- each edit takes its rows away, from the last to the first
abbrev pub shrunk : Bias → List Edit → Stop → Stop
shrunk bias [] s = s
shrunk bias (e ∷ es) s = moved_stop bias e.old_start e.old_end 0 (shrunk bias es s)

-- then each puts in its own, from the first to the last
abbrev pub grown : Bias → List Edit → Stop → Stop
grown bias [] s = s
grown bias (e ∷ es) s = grown bias es (moved_stop bias e.new_start e.new_start (added_count e) s)

-- of the stops that are before the end of some rows none is after their start
abbrev pub AreClear : Bias → ℕ → ℕ → List Stop → Type 0
AreClear bias start end stops = All (λ s. stands_before bias end s ≡ true → s.row ≤ start) stops

-- by all edits
abbrev pub carried : Bias → List Edit → Stop → Stop
carried bias es s = grown bias es (shrunk bias es s)

-- an edit puts in more rows than it takes away, or fewer
abbrev pub changes_count : Edit → Bool
changes_count e = not (e.old_end + e.new_start == e.new_end + e.old_start)

-- a stop has before it as many rows as its own row has (Left), or that row too (Right)
abbrev pub own : Bias → ℕ
own Left = 0
own Right = 1

-- the edits keep the own row of a stop
abbrev pub IsKeptStop : Bias → List Edit → Stop → Type 0
IsKeptStop bias es s = (row j : ℕ) × ((s.row ≡ row + own bias) × (carry_of es row ≡ Some j))

-- Stops may be moved by edits. These keep the own row of each, and after them as before the rows are a u32 and in
-- order.
pub record MayBeMoved (bias : Bias) (es : List Edit) (stops : List Stop) : Type 0 where
  pub kept : All (IsKeptStop bias es) stops
  pub fit : StopsFit stops
  pub rising : AreRising 0 (map (carried bias es) stops)
  pub fits : StopsFit (map (carried bias es) stops)
