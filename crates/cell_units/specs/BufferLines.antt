-- The lines of a buffer by themselves, without inlays and folds.
use Rattle.std.specs.Prelude.{ℕ, ◌+◌, ◌-◌, if◌then◌else◌, List, [], ◌∷◌, length, slice_index, slice_index_or}
use Rattle.cell_units.specs.Text.{is_feed}
use Rattle.cell_units.specs.Cutting.{onto_line}

-- the lines without their feeds. The last has none, so that after a feed at the text's end there is an empty line
abbrev pub buffer_lines : List ℕ → List (List ℕ)
buffer_lines [] = [] ∷ []
buffer_lines (b ∷ bs) = if is_feed b then ([] ∷ buffer_lines bs) else onto_line b (buffer_lines bs)

-- the offsets after the feeds of bytes of which the first is at the offset
abbrev pub behind_feeds : ℕ → List ℕ → List ℕ
behind_feeds o [] = []
behind_feeds o (b ∷ bs) = if is_feed b then ((o + 1) ∷ behind_feeds (o + 1) bs) else behind_feeds (o + 1) bs

-- a line starts at 0 and after each feed
abbrev pub line_starts : List ℕ → List ℕ
line_starts text = 0 ∷ behind_feeds 0 text

abbrev pub line_start : List ℕ → ℕ → ℕ
line_start text line = slice_index (line_starts text) line

-- a line ends before its feed, and the last at the text's end
abbrev pub line_end : List ℕ → ℕ → ℕ
line_end text line = slice_index_or (behind_feeds 0 text) line (length text + 1) - 1
