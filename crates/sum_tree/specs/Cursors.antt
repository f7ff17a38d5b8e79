-- Where a cursor is, and what it seeks.
use Rattle.std.specs.Prelude.{◌≡◌, ℕ, zero, suc, ◌+◌, ◌<◌, ◌≤◌, Bool, true, false, List, length, take, Option, None}
use Rattle.std.specs.List.{slice_get}
use Rattle.std.specs.Ordering.{is_lt, is_le}
use Rattle.std.specs.declared.cmp.Ordering.{Ordering}
use Rattle.cell_units.specs.declared.place.Bias.{Bias}
use Rattle.cell_units.specs.declared.place.Bias.TheVariants.{Left, Right}
use Rattle.sum_core.specs.Sums.{total}

-- A cursor on a list. Its place is 0 before the first item, i + 1 on item i, and one more than the number of items past
-- the last.
pub record Standing (T : Type 0) : Type 0 where
  pub items : List T
  pub place : ℕ

-- the item that the first n items end with
abbrev pub last_of : {T : Type 0} → List T → ℕ → Option T
last_of items zero = None
last_of items (suc i) = slice_get items i

-- A sum reaches the target where it is at least the target (Left), or greater (Right).
abbrev pub is_reached : {D : Type 0} → (D → D → Ordering) → Bias → D → D → Bool
is_reached cmp Left target sum = is_le (cmp target sum)
is_reached cmp Right target sum = is_lt (cmp target sum)

module _ {T S D : Type 0} (empty : S) (joined : S → S → S) (summary : T → S) (measure : S → D) where
  -- the measure of the first n items
  abbrev pub measure_to : List T → ℕ → D
  measure_to items n = measure (total empty joined summary (take n items))

  -- The place of the first item whose end reaches the target, or the one past the last item where none does.
  pub record IsSought (cmp : D → D → Ordering) (items : List T) (target : D) (bias : Bias) (place : ℕ) : Type 0 where
    pub past_start : 1 ≤ place
    pub at_most_past_end : place ≤ length items + 1
    pub none_before : (k : ℕ) → 1 ≤ k → k < place → is_reached cmp bias target (measure_to items k) ≡ false
    pub reached : place ≤ length items → is_reached cmp bias target (measure_to items place) ≡ true
