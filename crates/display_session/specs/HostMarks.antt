-- Marks of a host's own, which move with edits.
use Rattle.std.specs.Prelude.{ℕ, not, Bool, List, [], ◌∷◌, length, map, fold, Option, option_map}
use Rattle.std.specs.List.{find, list_all, list_any}
use Rattle.sum_core.specs.declared.load.NoLoad.{NoLoad}
use Rattle.cell_units.specs.declared.fault.Refusal.{Refusal}
use Rattle.cell_units.specs.declared.fault.Refusal.TheVariants.{BadRange, IdInUse, TooLong, UnknownId}
use Rattle.cell_units.specs.Anchor.{move}
use Rattle.cell_units.specs.Operation.{Operation, Replace}
use Rattle.cell_units.specs.Sorting.{sort_by}
use Rattle.cell_units.specs.Text.{clean, is_boundary}
use Rattle.mark_tree.specs.declared.mark.Mark.{Mark}
use Rattle.mark_tree.specs.Marks.{has_id, mark_le, mark_with}
use Rattle.display_sheet.specs.Changes.{first_of, is_full}
use Rattle.edit_script.specs.Verdict.{Verdict, Refused, Accepted, ops_of}

-- a mark of a host's own: an offset, a bias and an id
abbrev pub HostMark : Type 0
HostMark = Mark NoLoad

-- the mark after n bytes took the place of [a, b)
abbrev pub moved_mark : (a b n : ℕ) → HostMark → HostMark
moved_mark a b n m = mark_with (move m.offset m.bias a b n) m.bias m.id m.load

-- the marks after an operation: a replacement moves each as an anchor, and they are sorted again
abbrev pub marks_after : List HostMark → Operation → List HostMark
marks_after marks (Replace a b s) = sort_by mark_le (map (moved_mark a b (length (clean s))) marks)
marks_after marks _ = marks

-- the marks after operations, in order
abbrev pub marks_moved : List Operation → List HostMark → List HostMark
marks_moved ops marks = fold marks_after marks ops

-- the marks after a line of this verdict
abbrev pub marks_at : Verdict → List HostMark → List HostMark
marks_at (Refused refusal) marks = marks
marks_at (Accepted command) marks = marks_moved (ops_of command) marks

-- each mark is at a boundary of the text
abbrev pub are_placed : List ℕ → List HostMark → Bool
are_placed text marks = list_all (λ m. is_boundary text m.offset) marks

-- the offset of the mark of this id, if there is one
abbrev pub offset_of : ℕ → List HostMark → Option ℕ
offset_of id marks = option_map (λ m. m.offset) (find (has_id id) marks)

-- why a mark of this id isn't added at an offset of a text, if it isn't
abbrev pub mark_refusal : List ℕ → List HostMark → (id offset : ℕ) → Option Refusal
mark_refusal text marks id offset = first_of (
    (list_any (has_id id) marks, IdInUse)
    ∷ (not (is_boundary text offset), BadRange)
    ∷ (is_full marks, TooLong)
    ∷ [])

-- why the mark of this id isn't removed, if it isn't
abbrev pub unmark_refusal : List HostMark → ℕ → Option Refusal
unmark_refusal marks id = first_of ((not (list_any (has_id id) marks), UnknownId) ∷ [])
