-- The folded text: what each offset of the buffer shows, cut into display lines.
use Rattle.std.specs.Prelude.{ℕ, ◌-◌, ◌&&◌, nat_lt, nat_le, Bool, if◌then◌else◌, List, [], ◌∷◌, ◌++◌, flat_map, take, length, count_by}
use Rattle.std.specs.List.{list_any, after_last}
use Rattle.cell_units.specs.declared.place.Bias.{Bias}
use Rattle.cell_units.specs.declared.place.Bias.TheVariants.{Left, Right}
use Rattle.cell_units.specs.Text.{line_feed, row_of}
use Rattle.cell_units.specs.Cutting.{cut_lines}
use Rattle.cell_units.specs.Record.{Inlay, Fold}
use Rattle.cell_units.specs.Inlaid.{Token, Byte, Hidden, offset_of, is_break, bytes_of, inlays_at, show_each}

-- a fold starts before the offset and ends after it. That is: the offset is strictly inside a joined fold
abbrev pub inside : List Fold → ℕ → Bool
inside folds o = list_any (λ f. nat_lt f.start o && nat_lt o f.end) folds

-- a fold hides the byte at the offset
abbrev pub covered : List Fold → ℕ → Bool
covered folds o = list_any (λ f. nat_le f.start o && nat_lt o f.end) folds

-- an offset strictly inside a joined fold shows nothing. Any other shows its inlays, and then its byte or, where a
-- joined fold starts, the placeholder
abbrev pub shown : List Inlay → List Fold → ℕ → ℕ → List Token
shown inlays folds o b =
    if inside folds o then []
    else (inlays_at inlays o ++ (if covered folds o then Hidden o else Byte o b) ∷ [])

-- the text is read with one more line break at its end, so that each display line ends with one
abbrev pub folded : List ℕ → List Inlay → List Fold → List Token
folded text inlays folds = show_each (shown inlays folds) 0 (text ++ line_feed ∷ [])

-- the display lines, each with its break
abbrev pub display_lines : List ℕ → List Inlay → List Fold → List (List Token)
display_lines text inlays folds = cut_lines is_break (folded text inlays folds)

-- the folded text before an offset: strictly inside a joined fold up to and with the placeholder
abbrev pub folded_before : List ℕ → List Inlay → List Fold → ℕ → List Token
folded_before text inlays folds o = show_each (shown inlays folds) 0 (take o text)

-- the folded text before a position: strictly inside a joined fold Left is before its placeholder and Right after it
abbrev pub folded_to : List ℕ → List Inlay → List Fold → ℕ → Bias → List Token
folded_to text inlays folds o Left =
    let before = folded_before text inlays folds o in
    if inside folds o then take (length before - 1) before else before
folded_to text inlays folds o Right =
    let before = folded_before text inlays folds o in
    if inside folds o then before else before ++ inlays_at inlays o

-- the place of a position in the folded text, in bytes
abbrev pub folded_place : List ℕ → List Inlay → List Fold → ℕ → Bias → ℕ
folded_place text inlays folds o bias = length (flat_map bytes_of (folded_to text inlays folds o bias))

-- the display line that holds a position
abbrev pub line_of : List ℕ → List Inlay → List Fold → ℕ → Bias → ℕ
line_of text inlays folds o bias = count_by is_break (folded_to text inlays folds o bias)

-- how many bytes of its display line are before a position
abbrev pub place_in_line : List ℕ → List Inlay → List Fold → ℕ → Bias → ℕ
place_in_line text inlays folds o bias =
    length (flat_map bytes_of (after_last is_break (folded_to text inlays folds o bias)))

-- the buffer row of a token
abbrev pub token_row : List ℕ → Token → ℕ
token_row text t = row_of text (offset_of t)

-- a line's span is from the buffer row of its first token to that of its break
abbrev pub span_start : List ℕ → List Token → ℕ
span_start text [] = 0
span_start text (t ∷ ts) = token_row text t

abbrev pub span_end : List ℕ → List Token → ℕ
span_end text [] = 0
span_end text (t ∷ []) = token_row text t
span_end text (t ∷ u ∷ us) = span_end text (u ∷ us)
