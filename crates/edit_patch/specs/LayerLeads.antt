-- What a replacement of a layer's text leads from, and what to.
use Rattle.std.specs.Prelude.{ℕ, ◌-◌, List, map, flat_map, length, Option, Some, None}
use Rattle.cell_units.specs.declared.place.Bias.TheVariants.{Left, Right}
use Rattle.cell_units.specs.Anchor.{move}
use Rattle.cell_units.specs.Inlaid.{Token, Byte, InlayByte, Hidden, bytes_of}
use Rattle.cell_units.specs.Folded.{folded_to}
use Rattle.cell_units.specs.Layers.{Source, place_of}
use Rattle.edit_patch.specs.Leads.{LeadsIfAny, Reach}

-- the offset of a byte after a replacement of the buffer's text, or before it
abbrev pub offset_after : Option Reach → ℕ → ℕ
offset_after None o = o
offset_after (Some s) o = move o Right s.start s.end s.count

-- the token with its offset moved
abbrev pub token_after : Option Reach → Token → Token
token_after s (Byte o b) = Byte (offset_after s o) b
token_after s (InlayByte o id b) = InlayByte (offset_after s o) id b
token_after s (Hidden o) = Hidden (offset_after s o)

-- a token once for each of its places
abbrev pub token_places : Token → List Token
token_places t = map (λ b. t) (bytes_of t)

-- what is at each place of a layer's text
abbrev pub layer_places : Source → List Token
layer_places source = flat_map token_places (folded_to source.text source.inlays source.folds (length source.text) Right)

-- the replacement of a layer's text leads from what it was to what it is, after that of the buffer's text
abbrev pub LayerLeads : Option Reach → Source → Source → Option Reach → Type 0
LayerLeads shift old new answer = LeadsIfAny (map (token_after shift)) (layer_places old) (layer_places new) answer

-- the places from the left one of an offset to the right one of another, which `count` bytes replace
abbrev pub shown_shift : Source → ℕ → ℕ → ℕ → Reach
shown_shift source start end count = record { start = place_of source start Left; end = place_of source end Right; count = count }

-- how many bytes are shown from the left place of an offset to the right one of another
abbrev pub shown_between : Source → ℕ → ℕ → ℕ
shown_between source start end = place_of source end Right - place_of source start Left
