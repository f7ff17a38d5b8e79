-- What the two conversions keep.
use Rattle.std.specs.Prelude.{◌≡◌, ℕ, ◌+◌, ◌-◌, ◌<◌, ◌≤◌, ◌++◌, List, [], ◌∷◌, sum_by}
use Rattle.cell_units.specs.declared.place.Bias.{Bias}
use Rattle.cell_units.specs.declared.place.Bias.TheVariants.{Left, Right}
use Rattle.splice_tree.specs.Splices.{Stretch, stretch, to_upper, to_lower}

-- what is taken out is always replaced by something
abbrev pub AreShown : List Stretch → Type 0
AreShown [] = Unit {0}
AreShown (s ∷ ss) = (0 < s.old → 0 < s.new) × AreShown ss

-- a place of the lower sequence is not strictly inside what a splice takes out
abbrev pub IsOutside : List Stretch → ℕ → Type 0
IsOutside [] x = Unit {0}
IsOutside (s ∷ ss) x = (s.gap < x → s.gap + s.old ≤ x) × IsOutside ss (x - (s.gap + s.old))

-- a place further on is carried no less far
abbrev pub DontFall : Type 0
DontFall = (bias : Bias) (ss : List Stretch) (x y : ℕ) → x ≤ y → to_upper bias ss x ≤ to_upper bias ss y

-- Left carries no further than Right
abbrev pub LeftAtMostRight : Type 0
LeftAtMostRight = (ss : List Stretch) (x : ℕ) → to_upper Left ss x ≤ to_upper Right ss x

-- there by either bias and back by either
abbrev pub ThereAndBack : Type 0
ThereAndBack = (ss : List Stretch) (there back : Bias) (x : ℕ) → AreShown ss → IsOutside ss x → to_lower back ss (to_upper there ss x) ≡ x

-- how much of the lower sequence splices cover, and how much of the upper one
abbrev pub lower_of : List Stretch → ℕ
lower_of ss = sum_by (λ s. s.gap + s.old) ss

abbrev pub upper_of : List Stretch → ℕ
upper_of ss = sum_by (λ s. s.gap + s.new) ss

-- a place strictly inside a gap is kept there
abbrev pub GapsAreKept : Type 0
GapsAreKept = (bias : Bias) (before after : List Stretch) (s : Stretch) (r : ℕ) → 0 < r → r < s.gap → to_upper bias (before ++ s ∷ after) (lower_of before + r) ≡ upper_of before + r

-- a place before a run of splices stays where it is carried, whatever comes in the place of the run
abbrev pub BeforeStays : Type 0
BeforeStays = (bias : Bias) (before run other : List Stretch) (x : ℕ) → x < lower_of before → to_upper bias (before ++ other) x ≡ to_upper bias (before ++ run) x

-- a place after a run moves by the difference of what is there then and what was there
abbrev pub BehindMoves : Type 0
BehindMoves = (bias : Bias) (run other after : List Stretch) (x : ℕ) → 0 < x
    → to_upper bias (other ++ after) (lower_of other + x) + upper_of run ≡ to_upper bias (run ++ after) (lower_of run + x) + upper_of other

-- and after a wider gap by as much as that is wider
abbrev pub WiderGapMoves : Type 0
WiderGapMoves = (bias : Bias) (s : Stretch) (after : List Stretch) (wider x : ℕ)
    → to_upper bias (stretch (s.gap + wider) s.old s.new ∷ after) (x + wider) ≡ to_upper bias (s ∷ after) x + wider

-- a place strictly inside what is taken out goes to an edge of what replaces it. By Left that is its start, and by
-- Right its end
abbrev pub InsideGoesToEdges : Type 0
InsideGoesToEdges = (before after : List Stretch) (s : Stretch) (r : ℕ) → s.gap < r → r < s.gap + s.old
    → (to_upper Left (before ++ s ∷ after) (lower_of before + r) ≡ upper_of before + s.gap) × (to_upper Right (before ++ s ∷ after) (lower_of before + r) ≡ upper_of before + (s.gap + s.new))
