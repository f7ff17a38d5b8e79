-- What the wraps of an old run give the present lines.
use Rattle.std.specs.Prelude.{◌≡◌, ℕ, ◌+◌, ◌<◌, Bool, false, if◌then◌else◌, List, map, length, take, drop, Option, Some, None}
use Rattle.std.specs.List.{enumerate_from}
use Rattle.std.specs.Option.{option_map_or}
use Rattle.cell_line.specs.declared.element.Element.{Element}
use Rattle.cell_line.specs.declared.lines.Run.{Run}
use Rattle.cell_line.specs.Wrapping.{cuts_of}
use Rattle.cell_units.specs.Rows.{all_rows, line_rows, rows_before}
use Rattle.edit_patch.specs.declared.edit.Edit.{Edit}
use Rattle.edit_patch.specs.Came.{origin_of}
use Rattle.edit_patch.specs.Fits.{Fits}
use Rattle.edit_patch.specs.Patch.{IsPatch}
use Rattle.wrap_map.specs.Standing.{Standing, Wrapped, shown_rows}
use Rattle.cell_line.specs.Waiting.{has_line}

-- of each line of a run where it is cut at a width
abbrev pub cuts_of_run : List (List Element) → Run → ℕ → List (List ℕ)
cuts_of_run lines run width = map (λ elements. cuts_of elements width) (take run.count (drop run.first lines))

-- the present line came from a line of the run
abbrev pub is_landed : List Edit → Run → ℕ → Bool
is_landed since run line = option_map_or (has_line run) (origin_of since line) false

-- these lines are wrapped at the width, and all others as before
abbrev pub marks_landed : List Edit → Run → ℕ → List ℕ → List ℕ
marks_landed since run width marks =
    map (λ p. if is_landed since run p.0 then width else p.1) (enumerate_from 0 marks)

-- the lines as they are wrapped then
abbrev pub standing_landed : List Edit → Run → ℕ → Standing → Standing
standing_landed since run width s = record s { marks = marks_landed since run width s.marks }

-- where a row of a present line came from: from nowhere where the line landed, and else from the same row of it
abbrev pub row_origin : Standing → List Edit → Run → ℕ → ℕ → Option ℕ
row_origin old since run line k =
    if is_landed since run line then None else Some (rows_before (shown_rows old) line + k)

-- the patch counts rows, and replaces exactly those of the lines that landed
pub record IsPatchOfLanded (old new : Standing) (since : List Edit) (run : Run)
    (patch : List Edit) : Type 0 where
  pub normal : IsPatch patch
  pub fits : Fits patch (all_rows (shown_rows old)) (all_rows (shown_rows new))
  pub came : (line k : ℕ) → line < length new.lines → k < length (line_rows (shown_rows new) line)
      → origin_of patch (rows_before (shown_rows new) line + k) ≡ row_origin old since run line k

-- at the present width
pub record IsLanded (old : Wrapped) (since : List Edit) (run : Run) (new : Wrapped)
    (patch : List Edit) : Type 0 where
  pub map : new ≡ record old { standing = standing_landed since run old.width old.standing }
  pub rows : IsPatchOfLanded old.standing new.standing since run patch
