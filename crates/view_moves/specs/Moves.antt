-- Where a caret goes, and what a selection covers. All of it is over the list of valid spots.
use Rattle.std.specs.Prelude.{ℕ, ◌+◌, ◌-◌, ◌==◌, not, Bool, if◌then◌else◌, nat_lt, nat_le, List, [], ◌∷◌, length, map, filter, Option, Some, None, unwrap_or}
use Rattle.std.specs.List.{range_with_len}
use Rattle.std.specs.Option.{option_or}
use Rattle.cell_units.specs.declared.place.Bias.TheVariants as bias
use Rattle.cell_units.specs.declared.place.Motion.{Motion}
use Rattle.cell_units.specs.declared.place.Motion.TheVariants.{Left, Right, Up, Down, Start, End}
use Rattle.cell_units.specs.declared.place.Spot.{Spot}
use Rattle.cell_units.specs.Record.{Record}
use Rattle.plain_rows.specs.Spots.{back, clip, greatest, least, spot_le, valid_spots}
use Rattle.view_moves.specs.declared.caret.Caret.{Caret}
use Rattle.view_moves.specs.declared.caret.RowSpan.{RowSpan}

-- one spot is before the other: by row, then column
abbrev pub is_before : Spot → Spot → Bool
is_before s t = not (spot_le t s)

abbrev pub before : Spot → List Spot → List Spot
before c spots = filter (λ s. is_before s c) spots

abbrev pub after : Spot → List Spot → List Spot
after c spots = filter (λ s. is_before c s) spots

abbrev pub in_row : ℕ → List Spot → List Spot
in_row row spots = filter (λ s. s.row == row) spots

abbrev pub above : Spot → List Spot → List Spot
above c spots = filter (λ s. nat_lt s.row c.row) spots

abbrev pub below : Spot → List Spot → List Spot
below c spots = filter (λ s. nat_lt c.row s.row) spots

-- of one row the greatest spot whose column is at most the goal, or the least where there is none
abbrev pub at_goal : ℕ → List Spot → Option Spot
at_goal goal row = option_or (greatest (filter (λ s. nat_le s.col goal) row)) (least row)

-- the spot at the goal in the row of a spot that was found, or the other one where none was
abbrev pub in_row_of : List Spot → ℕ → Option Spot → Option Spot → Option Spot
in_row_of spots goal (Some s) other = at_goal goal (in_row s.row spots)
in_row_of spots goal None other = other

-- the valid spot to which a motion leads from c, if there is one
abbrev pub target : List Spot → Spot → ℕ → Motion → Option Spot
target spots c goal Left = greatest (before c spots)
target spots c goal Right = least (after c spots)
target spots c goal Up = in_row_of spots goal (greatest (above c spots)) (least spots)
target spots c goal Down = in_row_of spots goal (least (below c spots)) (greatest spots)
target spots c goal Start = least (in_row c.row spots)
target spots c goal End = greatest (in_row c.row spots)

-- Up and Down keep the goal, and every other motion takes the column
abbrev pub next_goal : ℕ → Spot → Motion → ℕ
next_goal goal s Left = s.col
next_goal goal s Right = s.col
next_goal goal s Up = goal
next_goal goal s Down = goal
next_goal goal s Start = s.col
next_goal goal s End = s.col

-- where a motion leads from c; c where there is no spot to go to
abbrev pub moved : List Spot → Spot → ℕ → Motion → Spot
moved spots c goal motion = unwrap_or (target spots c goal motion) c

-- the caret after a motion from the spot that d is clipped to
unfoldable pub caret : Record → Spot → ℕ → Motion → Caret
caret r d goal motion =
    let s = moved (valid_spots r) (clip r d bias.Left) goal motion in
    record { spot = s; goal = next_goal goal s motion }

abbrev pub lesser : Spot → Spot → Spot
lesser s t = if spot_le s t then s else t

abbrev pub greater : Spot → Spot → Spot
greater s t = if spot_le s t then t else s

abbrev pub column : Option Spot → ℕ
column None = 0
column (Some s) = s.col

-- the columns that a selection from a to b has in a row
abbrev pub span : List Spot → Spot → Spot → ℕ → RowSpan
span spots a b row =
    record {
      row = row;
      from = if row == a.row then a.col else column (least (in_row row spots));
      to = if row == b.row then b.col else column (greatest (in_row row spots));
    }

-- the rows from a's to b's that have a valid spot
abbrev pub rows_from : List Spot → Spot → Spot → List ℕ
rows_from spots a b =
    filter (λ row. nat_lt 0 (length (in_row row spots))) (range_with_len a.row (b.row + 1 - a.row))

abbrev pub spans_from : List Spot → Spot → Spot → List RowSpan
spans_from spots a b = map (span spots a b) (rows_from spots a b)

-- what is selected: the offsets from start to end, and the columns of each row
pub record Selected : Type 0 where
  pub start : ℕ
  pub end : ℕ
  pub spans : List RowSpan

-- what is selected between the spots to which two are clipped, in any order
unfoldable pub selection : Record → Spot → Spot → Selected
selection r one other =
    let s = clip r one bias.Left in
    let t = clip r other bias.Left in
    record {
      start = back r (lesser s t) bias.Left;
      end = back r (greater s t) bias.Right;
      spans = spans_from (valid_spots r) (lesser s t) (greater s t);
    }

-- the span of one row, if it has any
abbrev pub spans_of_row : List Spot → Spot → Spot → ℕ → List RowSpan
spans_of_row spots a b row = map (span spots a b) (filter (λ row. nat_lt 0 (length (in_row row spots))) (row ∷ []))
