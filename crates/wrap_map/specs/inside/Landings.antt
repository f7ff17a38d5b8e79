-- How lines land: neighbours that land are a group, which is put in place at once.
use Rattle.std.specs.Prelude.{◌≡◌, ℕ, ◌+◌, ◌<◌, ◌≤◌, ◌^◌, ◌==◌, if◌then◌else◌, List, [], ◌∷◌, ◌++◌, length, take, drop}
use Rattle.std.specs.Option.{option_map_or}
use Rattle.edit_patch.specs.declared.edit.Edit.{Edit}
use Rattle.edit_patch.specs.Came.{carry_of, edit_of}
use Rattle.edit_patch.specs.Fits.{Fits}
use Rattle.cell_line.specs.declared.element.Element.{Element}
use Rattle.cell_line.specs.declared.lines.Run.{Run}
use Rattle.wrap_map.specs.Landing.{IsPatchOfLanded, cuts_of_run, standing_landed}
use Rattle.wrap_map.specs.Standing.{StandSo, Standing, stood_of}
use Rattle.wrap_map.specs.Stood.{Stood, put_in, rows_in}

-- lines with all groups that are closed in place, the edits of their rows, and the open group: lines from `start` on
pub record Landings : Type 0 where
  pub lines : List Stood
  pub edits : List Edit
  pub start : ℕ
  pub fresh : List Stood

-- where nothing has landed
abbrev pub begun : List Stood → Landings
begun lines = record { lines = lines; edits = []; start = 0; fresh = [] }

-- after the open group
abbrev pub end_of : Landings → ℕ
end_of l = l.start + length l.fresh

-- the lines with the open group in place
abbrev pub with_group : Landings → List Stood
with_group l = put_in l.start (end_of l) l.fresh l.lines

-- the edit that replaces the rows of the lines from start to end
abbrev pub edit_between : List Stood → List Stood → ℕ → ℕ → Edit
edit_between before after start end =
    edit_of
    (rows_in (take start before)) (rows_in (take end before))
    (rows_in (take start after)) (rows_in (take end after))

-- the open group is closed
abbrev pub closed : List Stood → Landings → Landings
closed before l =
    record {
      lines = with_group l;
      edits = l.edits ++ edit_between before (with_group l) l.start (end_of l) ∷ [];
      start = end_of l;
      fresh = [];
    }

-- where it has a line
abbrev pub closed_if_any : List Stood → Landings → Landings
closed_if_any before l = if length l.fresh == 0 then l else closed before l

-- the open group goes on with this line, or another begins with it
abbrev pub moved_to : List Stood → ℕ → Landings → Landings
moved_to before line l = if line == end_of l then l else record (closed_if_any before l) { start = line }

-- one more line lands: as the next of the open group, or as the first of another
abbrev pub taken : List Stood → ℕ → Stood → Landings → Landings
taken before line stood l =
    if line == end_of l
    then record l { fresh = l.fresh ++ stood ∷ [] }
    else record (closed_if_any before l) { start = line; fresh = stood ∷ [] }

-- a line of an old run lands, where it is still there
abbrev pub carried : List Stood → List Edit → ℕ → Stood → Landings → Landings
carried before since line stood l =
    option_map_or (λ present. taken before present stood l) (carry_of since line) l

-- the open group can be closed: it is within the lines, no line from its start on has landed, and lines and rows stay
-- u32
pub record CanClose (before : List Stood) (l : Landings) : Type 0 where
  pub unlanded : drop l.start l.lines ≡ drop l.start before
  pub same_long : length l.lines ≡ length before
  pub within : end_of l ≤ length l.lines
  pub lines_fit : length l.lines < 2 ^ 32
  pub rows_fit : rows_in (with_group l) < 2 ^ 32

-- A run of old lines, that are to be put at a mark where they are still there. It says how the present lines are
-- wrapped, and that `since` leads to them from the old ones. It has where the run's lines are cut at the mark.
pub record IsLate (lines old : List (List Element)) (from : List Stood) (since : List Edit) (run : Run)
    (mark : ℕ) (wraps : List (List ℕ)) : Type 0 where
  pub stands : StandSo lines from
  pub leads : Fits since old lines
  pub within : run.first + run.count ≤ length old
  pub cuts : wraps ≡ cuts_of_run old run mark

-- whichever of the lines are wrapped as they are after it, and those after them as before, their rows are u32
abbrev pub FitBetween : List Stood → List Stood → Type 0
FitBetween before after = (d : ℕ) → d ≤ length before → rows_in (take d after ++ drop d before) < 2 ^ 32

-- the lines of the run are wrapped at the mark, and the patch replaces their rows
pub record IsPut (s : Standing) (since : List Edit) (run : Run) (mark : ℕ)
    (lines : List Stood) (patch : List Edit) : Type 0 where
  pub lines_are : lines ≡ stood_of (standing_landed since run mark s)
  pub rows : IsPatchOfLanded s (standing_landed since run mark s) since run patch
