-- When a patch fits two lists, and what its edits meet.
use Rattle.std.specs.Prelude.{◌≡◌, ℕ, ◌+◌, ◌-◌, ◌<◌, ◌≤◌, ◌||◌, List, [], ◌∷◌, All, Any, length, nat_lt, slice_get, sum_by, if◌then◌else◌}
use Rattle.edit_patch.specs.declared.edit.Edit.{Edit}
use Rattle.edit_patch.specs.Came.{Came, edit_of}

-- how many positions an edit takes away, and how many it puts in their place
abbrev pub removed_count : Edit → ℕ
removed_count e = e.old_end - e.old_start

abbrev pub added_count : Edit → ℕ
added_count e = e.new_end - e.new_start

-- the edits lie within both lists, the lengths agree with them, and each position that came from j holds what j held
pub record Fits {A : Type 0} (es : List Edit) (old new : List A) : Type 0 where
  pub within : All (λ e. (e.old_end ≤ length old) × (e.new_end ≤ length new)) es
  pub lengths : length old + sum_by added_count es ≡ length new + sum_by removed_count es
  pub same : (i j : ℕ) → i < length new → Came es i j → slice_get new i ≡ slice_get old j

-- the closed ranges of places have a place in common
abbrev pub HaveCommon : ℕ → ℕ → ℕ → ℕ → Type 0
HaveCommon start end first last = (place : ℕ) × (start ≤ place) × (place ≤ end) × (first ≤ place) × (place ≤ last)

-- in the old text, an edit meets the line that goes from the place `first` to the place `last`
abbrev pub MeetsOld : List Edit → ℕ → ℕ → Type 0
MeetsOld es first last = Any (λ e. HaveCommon e.old_start e.old_end first last) es

-- the same in the new text
abbrev pub MeetsNew : List Edit → ℕ → ℕ → Type 0
MeetsNew es first last = Any (λ e. HaveCommon e.new_start e.new_end first last) es

-- the patch that puts `count` positions in the place of those from `start` up to `end`: no edit where nothing replaces
-- nothing
abbrev pub replacement : ℕ → ℕ → ℕ → List Edit
replacement start end count =
    if nat_lt start end || nat_lt 0 count then edit_of start end start (start + count) ∷ [] else []
