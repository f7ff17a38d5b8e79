-- The rule of the board: what is shown is of the row that each seat knows, if it knows one.
use Rattle.std.specs.Prelude.{◌≡◌, ℕ, List, Option, None, Some}
use mathlib.Core.Option.{some}
use lib.ListN.{get_elem?}
use Rattle.atomic_table.specs.declared.shared.Seat.{Seat}
use Rattle.left_right.specs.declared.board.Doing.{Doing}
use Rattle.left_right.specs.declared.part.Part.{Part}
use Rattle.left_right.specs.Sides.{view}
use Rattle.logbook.specs.Pages.{Book}
use Rattle.version_board.specs.Known.{Known}
use Rattle.version_board.specs.declared.shown.Shown.{Shown}
use Rattle.version_board.specs.declared.seats.View.{View}

-- what a seat knows
abbrev pub known_at : Seat (Option (Part Shown)) (Doing Shown View) → Option Known
known_at seat = (view seat).known

-- no row is known, or it is this one
abbrev pub MayBeOf : Book → Option Known → Type 0
MayBeOf b None = Unit {0}
MayBeOf b (Some k) = b ≡ k.board

-- this row is known
abbrev pub IsTied : Book → Option Known → Type 0
IsTied b None = ⊥
IsTied b (Some k) = b ≡ k.board

abbrev pub AreTied : Shown → List View → Type 0
AreTied x views =
    (seat : ℕ) (v : View) → get_elem? views seat ≡ some v → MayBeOf x.kept.board v.known

-- what is seen is of the row that the seat knows
abbrev pub SeesRow : View → Shown → Shown → View → Type 0
SeesRow v x y w = (w ≡ v) × MayBeOf y.kept.board v.known

-- the seat knows from now on which row is shown
abbrev pub BecomesTied : View → Shown → Shown → View → Type 0
BecomesTied v x y w = w ≡ record { known = Some y.kept }
