-- How a merge of two patches goes on. The middle text is the new one of the first patch and the old one of the second.
use Rattle.std.specs.Prelude.{ℕ, ◌+◌, ◌-◌, ◌^◌, ◌<◌, ◌≤◌, ◌||◌, List, [], ◌∷◌, max, nat_lt, if◌then◌else◌}
use Rattle.edit_patch.specs.declared.edit.Edit.{Edit}
use Rattle.edit_patch.specs.declared.merge.Place.{Place}
use Rattle.edit_patch.specs.declared.merge.Front.{Front}

-- where nothing is taken
abbrev pub begun : Front
begun = let place : Place = record { old = 0; new = 0 } in record { start = place; first = place; second = place }

-- how far the edits taken so far go in the middle text
abbrev pub reach_of : Front → ℕ
reach_of f = max f.first.new f.second.old

-- the old and the new place that correspond to the middle one, which is not before the reach
abbrev pub place_at : Front → ℕ → Place
place_at f middle = record { old = f.first.old + (middle - f.first.new); new = f.second.new + (middle - f.second.old) }

-- the open edit, which ends at the reach; nothing where it is empty on both sides
abbrev pub open_edit : Front → List Edit
open_edit f =
    let end = place_at f (reach_of f) in
    if nat_lt f.start.old end.old || nat_lt f.start.new end.new
    then record { old_start = f.start.old; old_end = end.old; new_start = f.start.new; new_end = end.new } ∷ []
    else []

-- another edit is open, and begins at the middle place
abbrev pub opened_at : Front → ℕ → Front
opened_at f middle =
    let place = place_at f middle in
    record { start = place; first = record { old = place.old; new = middle }; second = record { old = middle; new = place.new } }

-- at the middle place where the next edit begins: past the reach the open edit is closed, and another opened
abbrev pub advanced : Front → ℕ → Front
advanced f middle = if nat_lt (reach_of f) middle then opened_at f middle else f

-- what is closed on the way there
abbrev pub passed : Front → ℕ → List Edit
passed f middle = if nat_lt (reach_of f) middle then open_edit f else []

-- the next edit of the first patch, or of the second, is taken
abbrev pub with_first : Front → Edit → Front
with_first f e = record f { first = record { old = e.old_end; new = e.new_end } }

abbrev pub with_second : Front → Edit → Front
with_second f e = record f { second = record { old = e.old_end; new = e.new_end } }

-- no sum of places passes a u64
pub record IsBounded (f : Front) : Type 0 where
  pub first_old : f.first.old < f.first.new + 2 ^ 32
  pub first_new : f.first.new < 2 ^ 32
  pub second_old : f.second.old < 2 ^ 32
  pub second_new : f.second.new < f.second.old + 2 ^ 32

-- the open edit ends after its start, and where it is not empty its positions are u32
pub record IsClosable (f : Front) : Type 0 where
  pub bounded : IsBounded f
  pub old_order : f.start.old ≤ f.first.old
  pub new_order : f.start.new ≤ f.second.new
  pub fits : let end = place_at f (reach_of f) in f.start.old + f.start.new < end.old + end.new → (end.old < 2 ^ 32) × (end.new < 2 ^ 32)

-- the merge may go on to the middle place
pub record CanAdvance (f : Front) (middle : ℕ) : Type 0 where
  pub bounded : IsBounded f
  pub closable : reach_of f < middle → IsClosable f
