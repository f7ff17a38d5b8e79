-- How display lines are wrapped, in chunks.
use Rattle.std.specs.Prelude.{ℕ, ◌≡◌, ◌<◌, ◌^◌, List, All, length, sum_by}
use Rattle.display_sheet.specs.Chunks.{AreChunks, joined}
use Rattle.display_sheet.specs.declared.wraps.TheConstants.{CHUNK}
use Rattle.display_sheet.specs.declared.wraps.Wrapped.{Wrapped}
use Rattle.display_sheet.specs.declared.wraps.Wraps.TheInside.{Inside}

-- how a line that was touched is wrapped
abbrev pub fresh : Wrapped
fresh = record { mark = 0; rows = 1 }

-- the rows of lines that are wrapped so
abbrev pub rows_of_lines : List Wrapped → ℕ
rows_of_lines wraps = sum_by (λ w. w.rows) wraps

-- the lines are in chunks, and their number and the number of their rows are kept. Each of these numbers is a u32, but
-- for that of all rows
pub record KeepsWraps (w : Inside) : Type 0 where
  pub full : AreChunks CHUNK w.chunks.items
  pub counted : w.len ≡ length (joined w.chunks.items)
  pub few : length (joined w.chunks.items) < 2 ^ 32
  pub summed : w.rows ≡ rows_of_lines (joined w.chunks.items)
  pub small : All (λ l. l.rows < 2 ^ 32) (joined w.chunks.items)
