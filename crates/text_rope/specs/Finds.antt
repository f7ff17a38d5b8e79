-- Where in the chunks an offset lies, and where a row starts.
use Rattle.std.specs.Prelude.{◌≡◌, ℕ, ◌+◌, ◌-◌, ◌<◌, ◌≤◌, List, length, take, count_by, slice_index}
use Rattle.std.specs.List.{concat}
use Rattle.cell_units.specs.Text.{is_feed, line_feed, row_of}
use Rattle.text_rope.specs.Sizes.{total_size}
use Rattle.text_rope.specs.RowSizes.{row_size_of}
use Rattle.text_rope.specs.declared.chunk.TextSize.{TextSize}
use Rattle.text_rope.specs.declared.rows.RowSize.{RowSize}

-- r is the size of what is before a chunk that begins at the offset or before it, and ends at it or after it
pub record IsBefore (chunks : List (List ℕ)) (offset : ℕ) (r : TextSize) : Type 0 where
  pub size : r ≡ total_size (take r.chunks chunks)
  pub within : r.chunks ≤ length chunks
  pub start : r.bytes ≤ offset
  pub end : offset ≤ length (concat (take (r.chunks + 1) chunks))

-- r is the size of what is before the chunk with that many line feeds at its end, and fewer before it
pub record IsBeforeRow (chunks : List (List ℕ)) (row : ℕ) (r : RowSize) : Type 0 where
  pub size : r ≡ row_size_of (total_size (take r.chunks chunks))
  pub within : r.chunks ≤ length chunks
  pub start : r.feeds < row
  pub end : row ≤ count_by is_feed (concat (take (r.chunks + 1) chunks))

-- right before the place is a line feed, which is that many of the text's line feeds on
pub record IsBehindFeed (text : List ℕ) (feeds place : ℕ) : Type 0 where
  pub some : 0 < place
  pub within : place ≤ length text
  pub feed : slice_index text (place - 1) ≡ line_feed
  pub row : row_of text place ≡ feeds
