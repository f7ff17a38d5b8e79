-- The texts that random changes put in.
use Rattle.std.specs.Prelude.{ℕ, List, [], ◌∷◌, codes, get_or}

-- texts with line breaks of all kinds
abbrev pub given_texts : List (List ℕ)
given_texts = [] ∷ codes ">" ∷ (195 ∷ 169 ∷ []) ∷ codes "x\r\ny" ∷ codes "\r" ∷ codes "a\n\n" ∷ []

abbrev pub given_text : ℕ → List ℕ
given_text number = get_or given_texts number []

-- texts that are wrapped: words, blanks, tabs and lines
abbrev pub line_texts : List (List ℕ)
line_texts =
    [] ∷ codes "a" ∷ codes " " ∷ codes "bb cc" ∷ codes "\n" ∷ codes "dd\nee ff" ∷ codes "\tg" ∷ codes "hh ii jj kk" ∷ codes "  m" ∷ codes "\n\n"
    ∷ codes "nnnnnnnnnn" ∷ []

-- widths at which they are
abbrev pub widths : List ℕ
widths = 0 ∷ 4 ∷ 5 ∷ 8 ∷ 12 ∷ 30 ∷ []
