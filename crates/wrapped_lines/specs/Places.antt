-- The marks of lines when those of an earlier run land at the places where they are now.
use Rattle.std.specs.Prelude.{ℕ, ◌==◌, Bool, false, if◌then◌else◌, List, map, Option}
use Rattle.std.specs.List.{enumerate_from, list_any}
use Rattle.std.specs.Option.{option_map_or}

-- the place is this line
abbrev pub is_line : ℕ → Option ℕ → Bool
is_line line place = option_map_or (λ at. at == line) place false

-- one of the places is this line
abbrev pub is_at : List (Option ℕ) → ℕ → Bool
is_at places line = list_any (is_line line) places

-- the lines at the places are wrapped at the width, and all others as before
abbrev pub marks_at : List (Option ℕ) → ℕ → List ℕ → List ℕ
marks_at places width marks =
    map (λ p. if is_at places p.0 then width else p.1) (enumerate_from 0 marks)
