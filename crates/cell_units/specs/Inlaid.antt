-- The inlaid text: the buffer with each inlay's text written at its offset.
use Rattle.std.specs.Prelude.{ℕ, ◌+◌, ◌==◌, Bool, false, List, [], ◌∷◌, ◌++◌, filter, flat_map, map, take, length}
use Rattle.cell_units.specs.declared.place.Bias.{Bias}
use Rattle.cell_units.specs.declared.place.Bias.TheVariants.{Left, Right}
use Rattle.cell_units.specs.Text.{line_feed, is_feed, clean}
use Rattle.cell_units.specs.Record.{Inlay}

-- a part of what is displayed, with the offset of the buffer that it comes from. It is a byte of the buffer, a byte of
-- an inlay's text, or the placeholder of the joined fold that starts there
pub data Token : Type 0 where
  Byte : (offset byte : ℕ) → Token
  InlayByte : (offset id byte : ℕ) → Token
  Hidden : (offset : ℕ) → Token

abbrev pub offset_of : Token → ℕ
offset_of (Byte o b) = o
offset_of (InlayByte o id b) = o
offset_of (Hidden o) = o

-- the token is a line break, of the buffer or of an inlay
abbrev pub is_break : Token → Bool
is_break (Byte o b) = is_feed b
is_break (InlayByte o id b) = is_feed b
is_break (Hidden o) = false

-- U+22EF
abbrev pub placeholder : List ℕ
placeholder = 0xE2 ∷ 0x8B ∷ 0xAF ∷ []

abbrev pub bytes_of : Token → List ℕ
bytes_of (Byte o b) = b ∷ []
bytes_of (InlayByte o id b) = b ∷ []
bytes_of (Hidden o) = placeholder

abbrev pub inlay_bytes : Inlay → List Token
inlay_bytes i = map (λ b. InlayByte i.offset i.id b) (clean i.text)

-- the inlays at an offset, in the record's order
abbrev pub inlays_at : List Inlay → ℕ → List Token
inlays_at inlays o = flat_map inlay_bytes (filter (λ i. i.offset == o) inlays)

-- what the bytes show of which the first is at the offset
abbrev pub show_each : (ℕ → ℕ → List Token) → ℕ → List ℕ → List Token
show_each shown o [] = []
show_each shown o (b ∷ bs) = shown o b ++ show_each shown (o + 1) bs

-- each offset shows its inlays and then its byte
abbrev pub shown_inlaid : List Inlay → ℕ → ℕ → List Token
shown_inlaid inlays o b = inlays_at inlays o ++ Byte o b ∷ []

-- the text is read with one more line break at its end
abbrev pub inlaid : List ℕ → List Inlay → List Token
inlaid text inlays = show_each (shown_inlaid inlays) 0 (text ++ line_feed ∷ [])

-- the inlaid text before a position: Left before all inlays at the offset, Right after them
abbrev pub inlaid_before : List ℕ → List Inlay → ℕ → Bias → List Token
inlaid_before text inlays o Left = show_each (shown_inlaid inlays) 0 (take o text)
inlaid_before text inlays o Right = show_each (shown_inlaid inlays) 0 (take o text) ++ inlays_at inlays o

-- the place of a position in the inlaid text, in bytes
abbrev pub inlaid_place : List ℕ → List Inlay → ℕ → Bias → ℕ
inlaid_place text inlays o bias = length (flat_map bytes_of (inlaid_before text inlays o bias))
