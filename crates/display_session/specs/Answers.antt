-- What is kept as an answer.
use Rattle.std.specs.Prelude.{ℕ, ◌-◌, ◌++◌, List, [], ◌∷◌, length, take, drop, flat_map}
use Rattle.plain_rows.specs.Rows.{Row}
use Rattle.plain_rows.specs.ShownRows.{letter_of}
use Rattle.plain_rows.specs.declared.shown.Kind.{Kind}

-- lines, each with a line feed after it
abbrev pub printed : List (List ℕ) → List ℕ
printed lines = flat_map (λ line. line ++ 10 ∷ []) lines

-- the row of this kind and this text
abbrev pub row_of : List ℕ → Kind → Row
row_of text kind = record { kind = letter_of kind; text = text }

-- room that has the bytes from one on, as many as there are and as fit, and else what it had
abbrev pub filled_with : List ℕ → ℕ → List ℕ → List ℕ
filled_with bytes from room = take (length room) (drop from bytes) ++ drop (length bytes - from) room
