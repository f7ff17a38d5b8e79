-- Which item of a list a place lies in, by one measure.
use Rattle.std.specs.Prelude.{ℕ, ◌+◌, ◌<◌, ◌≤◌, List, length, take}
use Rattle.cell_units.specs.declared.place.Bias.{Bias}
use Rattle.cell_units.specs.declared.place.Bias.TheVariants.{Left, Right}
use Rattle.sum_core.specs.Sums.{total}

-- an end stops short of the target: it is less (Left), or not greater (Right)
abbrev pub IsShort : Bias → ℕ → ℕ → Type 0
IsShort Left target end = end < target
IsShort Right target end = end ≤ target

-- an end reaches the target: it is at least the target (Left), or greater (Right)
abbrev pub IsReaching : Bias → ℕ → ℕ → Type 0
IsReaching Left target end = target ≤ end
IsReaching Right target end = target < end

module _ {T S : Type 0} (empty : S) (joined : S → S → S) (summary : T → S) (number : S → ℕ) where
  -- the measure of the first n items
  abbrev pub number_to : List T → ℕ → ℕ
  number_to items n = number (total empty joined summary (take n items))

  -- The index of the first item whose end reaches the target, or the number of items where none does.
  pub record IsFirst (items : List T) (target : ℕ) (bias : Bias) (index : ℕ) : Type 0 where
    pub within : index ≤ length items
    pub short : 0 < index → IsShort bias target (number_to items index)
    pub reaching : index < length items → IsReaching bias target (number_to items (index + 1))
