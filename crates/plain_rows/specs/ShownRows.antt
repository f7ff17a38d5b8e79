-- The rows that a snapshot gives.
use Rattle.std.specs.Prelude.{ℕ, List, map, Option, Some, None}
use Rattle.plain_rows.specs.Rows.{Row, head_kind, more_kind, block_kind}
use Rattle.plain_rows.specs.declared.shown.Kind.{Kind}
use Rattle.plain_rows.specs.declared.shown.Kind.TheVariants.{Head, More, Block}
use Rattle.plain_rows.specs.declared.shown.Shown.{Shown}

-- the letter that is printed for a row of the kind
abbrev pub letter_of : Kind → ℕ
letter_of Head = head_kind
letter_of More = more_kind
letter_of Block = block_kind

abbrev pub row_of_shown : Shown → Row
row_of_shown shown = record { kind = letter_of shown.kind; text = shown.text }

-- the row that is shown, if one is
abbrev pub shown_row : Option Shown → Option Row
shown_row None = None
shown_row (Some shown) = Some (row_of_shown shown)

-- the rows that are shown
abbrev pub shown_rows : List Shown → List Row
shown_rows shown = map row_of_shown shown
