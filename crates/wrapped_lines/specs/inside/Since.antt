-- The patch from old lines to present ones, by the places of some of them.
use Rattle.std.specs.Prelude.{ℕ, ◌≡◌, ◌+◌, ◌<◌, ◌≤◌, ◌||◌, nat_lt, if◌then◌else◌, List, [], ◌∷◌, All, sum_by, Option, Some, None}
use Rattle.std.specs.List.{position_from}
use Rattle.edit_patch.specs.declared.edit.Edit.{Edit}
use Rattle.edit_patch.specs.Came.{edit_of, origin_of}
use Rattle.edit_patch.specs.Fits.{added_count, removed_count}
use Rattle.edit_patch.specs.Patch.{IsPatch}
use Rattle.wrapped_lines.specs.declared.since.Pair.{Pair}
use Rattle.wrapped_lines.specs.Places.{is_line}

abbrev pub pair : ℕ → ℕ → Pair
pair old now = record { old = old; now = now }

-- the edit that replaces the lines from one pair to another: none where there are none
abbrev pub between : Pair → Pair → List Edit
between from to =
    if nat_lt from.old to.old || nat_lt from.now to.now
    then edit_of from.old to.old from.now to.now ∷ []
    else []

-- the lines up to an old line that is kept are replaced
abbrev pub edits_at : Pair → ℕ → Option ℕ → List Edit
edits_at kept line None = []
edits_at kept line (Some now) = between kept (pair line now)

-- after the last line that is kept
abbrev pub kept_after : Pair → ℕ → Option ℕ → Pair
kept_after kept line None = kept
kept_after kept line (Some now) = pair (line + 1) (now + 1)

-- after a place
abbrev pub end_of : Option ℕ → ℕ
end_of None = 0
end_of (Some now) = now + 1

-- the patch of so many lines before and after by which a present line came from the old line that has its place here
pub record IsSince (old now first : ℕ) (places : List (Option ℕ)) (patch : List Edit) : Type 0 where
  pub normal : IsPatch patch
  pub within : All (λ e. (e.old_end ≤ old) × (e.new_end ≤ now)) patch
  pub lengths : old + sum_by added_count patch ≡ now + sum_by removed_count patch
  pub came : (line : ℕ) → line < now → origin_of patch line ≡ position_from (is_line line) first places
