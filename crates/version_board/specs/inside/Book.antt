-- The rule of the row, and what the step that adds to it says.
use Rattle.std.specs.Prelude.{ℕ, ◌≡◌, ◌==◌, ◌+◌, true, List, [], ◌∷◌, ◌++◌, length, MatchBool}
use Rattle.logbook.specs.Pages.{Cell, Step, View, Book, Named}
use Rattle.display_map.specs.Versions.{Version}
use Rattle.version_board.specs.Rows.{IsRow}

-- the log is a row of versions, and the one word is the number of its newest
pub record IsKept (cells : List Cell) (row : List Version) : Type 0 where
  pub number : ℕ
  pub word : cells ≡ (number, true) ∷ []
  pub counted : length row ≡ number + 1
  pub is_row : IsRow row

-- the word of a book
abbrev pub head_of : Book → Named
head_of b = record { tracked = true; key = 0; book = b }

-- where the number was the expected one, the version was added to all that had been seen
abbrev pub Adds : Step Version → View Version ℕ → ℕ → View Version ℕ → Type 0
Adds s v found w = MatchBool (found == s.old) (w.0 ≡ v.0 ++ s.ask ∷ []) (Unit {0})
