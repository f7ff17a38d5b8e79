-- A batch of replacements in one pass over the text before it.
use Rattle.std.specs.Prelude.{ℕ, Bool, List, [], ◌∷◌, ◌++◌, drop, slice_range, map, ◌&&◌, nat_le}
use Rattle.cell_units.specs.Text.{clean, is_boundary}
use Rattle.display_sheet.specs.declared.change.Splice.{Splice}
use Rattle.display_map.specs.Events.{Event, Did}
use Rattle.display_sheet.specs.Changes.{batch}

-- the text from an offset on, with the splices after it done
abbrev pub spliced_text : List ℕ → ℕ → List Splice → List ℕ
spliced_text text from [] = drop from text
spliced_text text from (s ∷ splices) = slice_range text from s.start ++ (clean s.text ++ spliced_text text s.end splices)

-- the range lies between boundaries of the text, not before an offset
abbrev pub is_range : List ℕ → ℕ → Splice → Bool
is_range text from s = nat_le from s.start && nat_le s.start s.end && is_boundary text s.start && is_boundary text s.end

-- the events of a batch
abbrev pub did_events : List Splice → List Event
did_events splices = map Did (batch splices)
