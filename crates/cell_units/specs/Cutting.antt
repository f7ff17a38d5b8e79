-- Cutting a list after each break.
use Rattle.std.specs.Prelude.{Bool, if◌then◌else◌, List, [], ◌∷◌}

-- an element before the first line
abbrev pub onto_line : {X : Type 0} → X → List (List X) → List (List X)
onto_line x [] = (x ∷ []) ∷ []
onto_line x (line ∷ lines) = (x ∷ line) ∷ lines

-- the lines, each of which ends with its break
abbrev pub cut_lines : {X : Type 0} → (X → Bool) → List X → List (List X)
cut_lines is_end [] = []
cut_lines is_end (x ∷ xs) =
    if is_end x then ((x ∷ []) ∷ cut_lines is_end xs) else onto_line x (cut_lines is_end xs)
