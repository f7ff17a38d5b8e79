-- Rows and spots that are known, for worked rows.
use Rattle.std.specs.Prelude.{ℕ, ◌+◌, List, [], ◌∷◌, ◌++◌, codes, flat_map, slice_set}
use Rattle.std.specs.List.{range_with_len}
use Rattle.cell_units.specs.declared.place.Bias.TheVariants.{Right}
use Rattle.cell_units.specs.declared.place.Side.TheVariants.{Above}
use Rattle.cell_units.specs.declared.place.Spot.{Spot}
use Rattle.cell_units.specs.Record.{Fold, Mark, Record}
use Rattle.cell_units.specs.Worked.{block, inlay, settled}
use Rattle.plain_rows.specs.Rows.{Row, block_kind, head_kind, more_kind}

abbrev pub head : List ℕ → Row
head text = record { kind = head_kind; text = text }

abbrev pub more : List ℕ → Row
more text = record { kind = more_kind; text = text }

abbrev pub block_row : List ℕ → Row
block_row text = record { kind = block_kind; text = text }

abbrev pub spot : ℕ → ℕ → Spot
spot row col = record { row = row; col = col }

-- the record with another mark at a display line, whose stamp is fresh
abbrev pub marked : Record → ℕ → ℕ → Record
marked r line width =
    let mark : Mark = record { stamp = r.next_stamp; width = width } in
    record r { marks = slice_set r.marks line mark; next_stamp = r.next_stamp + 1 }

-- ten lines of two words, wrapped at the width
abbrev pub ten_lines : ℕ → Record
ten_lines width =
    settled (flat_map (λ n. codes "aaa bbb\n") (range_with_len 0 9) ++ codes "aaa bbb") [] [] [] width

-- a program of 69 bytes with an inlay and a block above its third row, at width 24
abbrev pub ordinary_source : List Fold → Record
ordinary_source folds =
    settled
    (codes "fn main() {\n\tlet total = items.iter().sum();\n\tprintln!(\"{total}\");\n}\n")
    (inlay 22 Right 1 (codes ": u32") ∷ [])
    folds
    (block 45 1 Above (codes "-- prints it" ∷ []) ∷ [])
    24
