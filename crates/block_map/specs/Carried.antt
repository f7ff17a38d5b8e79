-- Which blocks a `sync` shows anew, and how many steps it takes for them.
use Rattle.std.specs.Prelude.{◌≡◌, ℕ, ◌+◌, ◌<◌, ◌⊎◌, List, length, Option, Some, None, slice_get}
use Rattle.std.specs.List.{Contains}
use Rattle.cell_units.specs.declared.place.Shift.{Shift}
use Rattle.cell_units.specs.declared.place.Side.{Side}
use Rattle.cell_units.specs.declared.place.Side.TheVariants.{Above, Below}
use Rattle.edit_patch.specs.declared.edit.Edit.{Edit}
use Rattle.sum_tree.specs.Bounds.{TakesAtMost}
use Rattle.block_map.specs.Bounds.{syncing, syncing_side}
use Rattle.block_map.specs.Follows.{KeepsLine}
use Rattle.block_map.specs.Maps.{BlockState, Kept, row_at_line}

-- the replacement doesn't meet the block, if there was one
abbrev pub IsPassed : Option Shift → Kept → Type 0
IsPassed None k = Unit {0}
IsPassed (Some s) k = (k.offset < s.start) ⊎ (s.end < k.offset)

-- The block was shown at a line of which the edits keep every row, and the replacement doesn't meet it.
pub record IsCarried (shift : Option Shift) (es : List Edit) (lines : List (List (List ℕ)))
    (side : Side) (k : Kept) : Type 0 where
  pub line : ℕ
  pub within : line < length lines
  pub stood : k.row ≡ Some (row_at_line lines side line)
  pub kept : KeepsLine es lines line
  pub passed : IsPassed shift k

-- each block of a side that isn't carried is at one of the places
abbrev pub HaveAnew : Option Shift → List Edit → List (List (List ℕ)) → Side
    → List Kept → List ℕ → Type 0
HaveAnew shift es lines side ks places =
    (k : ℕ) (b : Kept) → slice_get ks k ≡ Some b
    → ¬ IsCarried shift es lines side b → Contains places k

-- one side takes so many steps, for any places that have all of its blocks that are shown anew
abbrev pub SyncsSideAtMost : Option Shift → List Edit → List (List (List ℕ)) → Side
    → List Kept → ℕ → ℕ → Type 0
SyncsSideAtMost shift es lines side ks old new =
    (places : List ℕ) → HaveAnew shift es lines side ks places
    → TakesAtMost (syncing_side (length places) (length es)) (length ks) old new

-- both sides together
abbrev pub SyncsAtMost : Option Shift → List Edit → BlockState → ℕ → ℕ → Type 0
SyncsAtMost shift es s old new =
    (above below : List ℕ)
    → HaveAnew shift es s.lines Above s.above above
    → HaveAnew shift es s.lines Below s.below below
    → TakesAtMost (syncing (length above + length below) (length es))
    (length s.above + length s.below) old new
