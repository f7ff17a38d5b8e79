-- Where an offset is shown, and which offset a spot shows.
use Rattle.std.specs.Prelude.{ℕ, ◌+◌, ◌-◌, ◌==◌, ◌&&◌, ◌||◌, not, Bool, false, if◌then◌else◌, nat_lt, nat_le, List, [], ◌∷◌, length, map, filter, flat_map, take, count_by, slice_range, slice_index, slice_index_or, Option, Some, None, unwrap_or}
use Rattle.std.specs.List.{range_with_len}
use Rattle.std.specs.Option.{option_or}
use Rattle.cell_units.specs.declared.place.Bias.{Bias}
use Rattle.cell_units.specs.declared.place.Bias.TheVariants.{Left, Right}
use Rattle.cell_units.specs.declared.place.Side.TheVariants.{Above}
use Rattle.cell_units.specs.declared.place.Spot.{Spot}
use Rattle.cell_units.specs.Text.{is_boundary}
use Rattle.cell_units.specs.Record.{Mark, Record, in_order, plain_mark}
use Rattle.cell_units.specs.Folded.{inside, line_of, place_in_line}
use Rattle.cell_line.specs.declared.element.Element.{Element}
use Rattle.cell_line.specs.Elements.{total_cells}
use Rattle.cell_line.specs.Wrapping.{cuts_of, indent_of}
use Rattle.plain_rows.specs.Rows.{blocks_at, line_elements, rows_by_line}

-- how many elements are before a byte of their line. Strictly inside an element Left is before it, Right after it
abbrev pub elements_before : List Element → ℕ → Bias → ℕ
elements_before [] byte bias = 0
elements_before (e ∷ es) byte bias =
    if byte == 0 then 0
    else if nat_lt byte (length e.text) then at_element bias
    else 1 + elements_before es (byte - length e.text) bias where
      at_element : Bias → ℕ
      at_element Left = 0
      at_element Right = 1

-- a byte of a line is strictly inside one of its elements
abbrev pub is_within : List Element → ℕ → Bool
is_within [] byte = false
is_within (e ∷ es) byte =
    not (byte == 0) && (nat_lt byte (length e.text) || is_within es (byte - length e.text))

-- the row and the column, within its line, of a place between elements. A place equal to a cut is on the row that
-- starts there
abbrev pub spot_in_line : List Element → ℕ → ℕ → Spot
spot_in_line es width place =
    let row = count_by (λ cut. nat_le cut place) (cuts_of es width) in
    record {
      row = row;
      col = (if row == 0 then 0 else indent_of es width)
          + total_cells (slice_range es (slice_index (0 ∷ cuts_of es width) row) place);
    }

abbrev pub elements_at : Record → ℕ → List Element
elements_at r line = slice_index_or (line_elements r) line []

abbrev pub mark_at : Record → ℕ → Mark
mark_at r line = slice_index_or r.marks line (plain_mark 0)

-- how many rows are before the text rows of a display line
abbrev pub rows_before : Record → ℕ → ℕ
rows_before r line =
    length (flat_map (λ rows. rows) (take line (rows_by_line r))) + length (blocks_at r Above line)

-- where a position is shown
unfoldable pub show : Record → ℕ → Bias → Spot
show r o bias =
    let line = line_of r.text r.inlays r.folds o bias in
    let byte = place_in_line r.text r.inlays r.folds o bias in
    let within = spot_in_line (elements_at r line) (mark_at r line).width (elements_before (elements_at r line) byte bias) in
    record { row = rows_before r line + within.row; col = within.col }

-- the position is strictly inside neither a joined fold nor an element
unfoldable pub is_open : Record → ℕ → Bias → Bool
is_open r o bias =
    not (inside r.folds o)
    && not (is_within (elements_at r (line_of r.text r.inlays r.folds o bias)) (place_in_line r.text r.inlays r.folds o bias))

-- the positions of a text in order: each boundary with Left and with Right
abbrev pub positions : List ℕ → List (ℕ × Bias)
positions text =
    flat_map (λ o. (o, Left) ∷ (o, Right) ∷ []) (filter (is_boundary text) (range_with_len 0 (length text + 1)))

-- by row, then column
abbrev pub spot_le : Spot → Spot → Bool
spot_le s t = in_order s.row t.row (nat_le s.col t.col)

abbrev pub is_spot : Spot → Spot → Bool
is_spot s t = (s.row == t.row) && (s.col == t.col)

-- the one that comes first by the order: x, or the other where there is one and it comes before x
abbrev pub earlier : {X : Type 0} → (X → X → Bool) → X → Option X → X
earlier le x None = x
earlier le x (Some y) = if le x y then x else y

-- the first of a list by an order, if it has any
abbrev pub first_by : {X : Type 0} → (X → X → Bool) → List X → Option X
first_by le [] = None
first_by le (x ∷ xs) = Some (earlier le x (first_by le xs))

abbrev pub least : List Spot → Option Spot
least spots = first_by spot_le spots

abbrev pub greatest : List Spot → Option Spot
greatest spots = first_by (λ s t. spot_le t s) spots

-- a spot is valid where it is that of some position
abbrev pub valid_spots : Record → List Spot
valid_spots r = map (λ p. show r p.0 p.1) (positions r.text)

abbrev pub at_or_before : Spot → List Spot → List Spot
at_or_before d spots = filter (λ s. spot_le s d) spots

abbrev pub at_or_after : Spot → List Spot → List Spot
at_or_after d spots = filter (λ s. spot_le d s) spots

-- the spots of d's row, where d is past each of them
abbrev pub past : Spot → List Spot → List Spot
past d spots =
    let row = filter (λ s. s.row == d.row) spots in
    if nat_lt 0 (length (at_or_after d row)) then [] else row

abbrev pub origin : Spot
origin = record { row = 0; col = 0 }

-- the nearest valid spot. Left takes the greatest at or before d. Right takes the last of d's row where d is past it,
-- and else the least at or after d. Where there is none on that side, it is the nearest one of the other side
unfoldable pub clip : Record → Spot → Bias → Spot
clip r d Left =
    let spots = valid_spots r in
    unwrap_or (option_or (greatest (at_or_before d spots)) (least spots)) origin
clip r d Right =
    let spots = valid_spots r in
    unwrap_or (option_or (greatest (past d spots)) (option_or (least (at_or_after d spots)) (greatest spots))) origin

-- the offsets of the open positions that are shown at a spot, in order
unfoldable pub offsets_at : Record → Spot → List ℕ
offsets_at r s =
    map (λ p. p.0) (filter (λ p. is_open r p.0 p.1 && is_spot (show r p.0 p.1) s) (positions r.text))

-- the least offset that is shown at the nearest valid spot for Left, the greatest for Right
unfoldable pub back : Record → Spot → Bias → ℕ
back r d Left = unwrap_or (first_by nat_le (offsets_at r (clip r d Left))) 0
back r d Right = unwrap_or (first_by (λ a b. nat_le b a) (offsets_at r (clip r d Right))) 0
