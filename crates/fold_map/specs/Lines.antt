-- Where a display line starts among the splices.
use Rattle.std.specs.Prelude.{ℕ, ◌≡◌, ◌+◌, ◌-◌, ◌<◌, ◌≤◌, ◌^◌, List, take}
use Rattle.cell_units.specs.declared.place.Bias.TheVariants.{Left}
use Rattle.sum_core.specs.declared.load.NoLoad.{NoLoad}
use Rattle.splice_tree.specs.Splices.{IsFirstUpper, Piece, covered}
use Rattle.fold_map.specs.declared.amount.Amount.{Amount}
use Rattle.fold_map.specs.declared.lines.LineStart.{LineStart}
use Rattle.fold_map.specs.Amounts.{feeds_of, nothing, together}

-- In the gap before the splice of an index, or after all: as many lines further on as in the lower layer.
pub record IsLineStart (ps : List (Piece Amount NoLoad)) (line : ℕ) (start : LineStart) : Type 0 where
  pub first : IsFirstUpper nothing together feeds_of ps line Left start.index
  pub before : start.before ≡ covered nothing together (take start.index ps)
  pub behind : start.before.upper.feeds ≤ line
  pub below : start.below ≡ start.before.lower.feeds + (line - start.before.upper.feeds)

-- its line in the lower layer is a u32
abbrev pub LineFits : List (Piece Amount NoLoad) → ℕ → Type 0
LineFits ps line = (start : LineStart) → IsLineStart ps line start → start.below < 2 ^ 32

-- where it is shown that starts at a place of the lower layer
abbrev pub start_shown : LineStart → ℕ → ℕ
start_shown start below = start.before.upper.bytes + (below - start.before.lower.bytes)

-- how many lines are shown of so many
abbrev pub lines_of : List (Piece Amount NoLoad) → ℕ → ℕ
lines_of ps below = let sum = covered nothing together ps in below - sum.lower.feeds + sum.upper.feeds

-- splices cover no more lines, and hide some or none
pub record CoverLines (ps : List (Piece Amount NoLoad)) (below : ℕ) : Type 0 where
  pub within : (covered nothing together ps).lower.feeds ≤ below
  pub fewer : (covered nothing together ps).upper.feeds ≤ (covered nothing together ps).lower.feeds
