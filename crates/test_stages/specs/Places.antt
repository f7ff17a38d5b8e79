-- A run of lines that was cut elsewhere, and where its lines are now.
use Rattle.std.specs.Prelude.{ℕ, ◌≡◌, ◌+◌, ◌-◌, ◌<◌, nat_lt, if◌then◌else◌, List, [], ◌∷◌, length, map, slice_index_or, Option, Some, None}
use Rattle.std.proofs.Props.{props}
use Rattle.std.specs.Coded.{Unit-prop}
use Rattle.std.specs.List.{range_with_len}
use Rattle.cell_line.specs.declared.element.Element.{Element}
use Rattle.cell_line.specs.declared.lines.Run.{Run}
use Rattle.cell_line.specs.Waiting.{IsNext, IsNextIfAny}
use Rattle.cell_units.specs.declared.place.Shift.{Shift}
use Rattle.kept_sheet.specs.Kept.{AreLinesAt, lines_in}
use Rattle.wrapped_lines.specs.Places.{marks_at}
use Rattle.wrapped_lines.specs.WrappedSource.{WrappedSource, lines_of}

-- What is kept of a run: all lines of the moment at which it was taken, the run, the width at which it is cut, and of
-- each of its lines the line that it is now, if it is still there.
pub record OutParts : Type 0 where
  pub taken : List (List Element)
  pub run : Run
  pub width : ℕ
  pub places : List (Option ℕ)

-- the places of the lines of a run that was just taken
abbrev pub places_from : ℕ → ℕ → List (Option ℕ)
places_from first count = map (λ line. Some line) (range_with_len first count)

-- where a line goes when others come for a run of lines
abbrev pub carried : Shift → Option ℕ → Option ℕ
carried s None = None
carried s (Some line) =
    if nat_lt line s.start then Some line
    else if nat_lt line s.end then None
    else Some (line - s.end + (s.start + s.count))

-- the lines at the places are those of the run, in order
abbrev pub IsOutOf : List (List Element) → OutParts → Type 0
IsOutOf lines out = AreLinesAt lines out.places (lines_in out.taken out.run)

-- a run of no lines
abbrev pub no_run : List (List Element) → OutParts
no_run lines = record { taken = lines; run = record { first = 0; count = 0 }; width = 0; places = [] }

-- a run of lines that was just taken
abbrev pub taken_from : WrappedSource → Run → OutParts
taken_from w run = record { taken = lines_of w; run = run; width = w.width; places = places_from run.first run.count }

-- the first lines that wait were taken, or no line waits
abbrev pub IsTakenIfAny : WrappedSource → Option OutParts → Type 0
IsTakenIfAny w None = IsNextIfAny w.marks w.width [] None
IsTakenIfAny w (Some out) = IsNext w.marks w.width [] out.run × (out ≡ taken_from w out.run)

-- the lines of a run wrapped at the width, and all others as they were
abbrev pub wrapped_at : WrappedSource → Option Run → WrappedSource
wrapped_at w None = w
wrapped_at w (Some run) = record w { marks = marks_at (places_from run.first run.count) w.width w.marks }

-- each of these facts has at most one proof
three-prop : {A B C : Type 0} → IsProp A → IsProp B → IsProp C → IsProp (A × B × C)
three-prop a b c = λ x y i. (a x.0 y.0 i, b x.1 y.1 i, c x.2 y.2 i)

pub AreLinesAt-prop : (now : List (List Element)) (places : List (Option ℕ)) (es : List (List Element)) → IsProp (AreLinesAt now places es)
AreLinesAt-prop now [] [] = Unit-prop
AreLinesAt-prop now [] (e ∷ es) = Prim.hlevel props
AreLinesAt-prop now (None ∷ places) [] = Prim.hlevel props
AreLinesAt-prop now (Some line ∷ places) [] = Prim.hlevel props
AreLinesAt-prop now (None ∷ places) (e ∷ es) = AreLinesAt-prop now places es
AreLinesAt-prop now (Some line ∷ places) (e ∷ es) =
    three-prop {A = line < length now} {B = e ≡ slice_index_or now line []} {C = AreLinesAt now places es}
    (Prim.hlevel props) (Prim.hlevel props) (AreLinesAt-prop now places es)

pub IsOutOf-prop : (lines : List (List Element)) (out : OutParts) → IsProp (IsOutOf lines out)
IsOutOf-prop lines out = AreLinesAt-prop lines out.places (lines_in out.taken out.run)
