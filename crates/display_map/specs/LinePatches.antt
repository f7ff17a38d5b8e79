-- Which line of an earlier record of a history each line of a later one came from.
use Rattle.std.specs.Prelude.{ℕ, ◌≡◌, ◌<◌, ◌↔◌, Bool, List, [], ◌∷◌, length, slice_get, Some}
use Rattle.std.specs.List.{range_with_len}
use Rattle.cell_units.specs.Record.{Record}
use Rattle.cell_units.specs.Operation.{Operation, operated}
use Rattle.cell_units.specs.Touched.{untouched}
use Rattle.edit_patch.specs.declared.edit.Edit.{Edit}
use Rattle.edit_patch.specs.Came.{Came}
use Rattle.edit_patch.specs.Patch.{IsComposed, IsPatch}
use Rattle.display_sheet.specs.LineStep.{flags_after, flags_before}
use Rattle.display_map.specs.Events.{Event, Did}
use Rattle.display_map.specs.Identity.{stamps_in}
use Rattle.display_map.specs.Replay.{State, happens}

-- the numbers of the lines that aren't touched
abbrev pub untouched_lines : List Bool → List ℕ
untouched_lines flags = untouched flags (range_with_len 0 (length flags))

-- line i after the operation is line j before it: each is the k-th untouched line of its side
pub record IsKeptLine (operation : Operation) (r : Record) (i j : ℕ) : Type 0 where
  pub k : ℕ
  pub after : slice_get (untouched_lines (flags_after operation r (operated operation r))) k ≡ Some i
  pub before : slice_get (untouched_lines (flags_before operation r)) k ≡ Some j

-- the line patch of an operation: a line came from the untouched line that it is, and a touched line is new
pub record IsLinePatch (operation : Operation) (r : Record) (patch : List Edit) : Type 0 where
  pub normal : IsPatch patch
  pub came :
      (i j : ℕ) → i < length (flags_after operation r (operated operation r)) →
      Came patch i j ↔ IsKeptLine operation r i j

-- that of an event: whatever isn't an operation leaves the lines as they are
abbrev pub IsPatchOf : State → Event → List Edit → Type 0
IsPatchOf s (Did op) patch = IsLinePatch op s.present patch
IsPatchOf s _ patch = patch ≡ []

-- the composition of those of the events, in order
abbrev pub IsPatchOver : State → List Event → List Edit → Type 0
IsPatchOver s [] patch = patch ≡ []
IsPatchOver s (e ∷ events) patch =
    (first : List Edit) × (rest : List Edit)
    × IsPatchOf s e first × IsPatchOver (happens s e) events rest × IsComposed first rest patch

-- by the patch a line of the later record came from a line of the earlier exactly where both have one stamp
abbrev pub CameByStamp : List Edit → Record → Record → Type 0
CameByStamp patch earlier later =
    (i j : ℕ) → i < length later.marks →
    Came patch i j ↔ (slice_get (stamps_in later) i ≡ slice_get (stamps_in earlier) j)
