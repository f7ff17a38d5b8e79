-- Which buffer rows a replacement of what is shown meets.
use Rattle.std.specs.Prelude.{ℕ, ◌≡◌, ◌==◌, ◌+◌, ◌<◌, ◌≤◌, ◌↔◌, [], List, Some, find, length}
use Rattle.cell_units.specs.BufferLines.{line_end, line_start}
use Rattle.cell_units.specs.Laws.{HasRow}
use Rattle.cell_units.specs.Lawful.{HasRoom, IsInlayOf, IsWellFormed}
use Rattle.cell_units.specs.Layers.{Source, inlay_source, shown_lines, shown_text, span_of}
use Rattle.cell_units.specs.Operation.{without_inlay}
use Rattle.cell_units.specs.Record.{Inlay, inlay_le}
use Rattle.cell_units.specs.Sorting.{insert_by}
use Rattle.cell_units.specs.Touched.{RowRange, row_range}
use Rattle.edit_patch.specs.Leads.{Leads, Reach, unmoved}
use Rattle.inlay_map.specs.InlaidShifts.{inlaid_shift, inlay_shift}
use Rattle.inlay_map.specs.Maps.{source_after}

-- The line begins at the last of the places or before it, and ends at the first or after it: they meet it.
pub record MeetsLine (s : Source) (first last line : ℕ) : Type 0 where
  pub there : line < length (shown_lines s)
  pub start : line_start (shown_text s) line ≤ last
  pub end : first ≤ line_end (shown_text s) line

-- a line that they meet has the row in its span
abbrev pub MeetsRow : Source → ℕ → ℕ → ℕ → Type 0
MeetsRow s first last row = (line : ℕ) × MeetsLine s first last line × HasRow (span_of s line) row

-- the rows of the lines that they meet are exactly these
abbrev pub MeetsRows : Source → ℕ → ℕ → RowRange → Type 0
MeetsRows s first last rows = (row : ℕ) → MeetsRow s first last row ↔ ((rows.first ≤ row) × (row ≤ rows.last))

-- What is replaced meets exactly the rows before it, and what is there then exactly the rows after it.
pub record TouchesRows (before after : Source) (s : Reach) (old new : RowRange) : Type 0 where
  pub before_it : MeetsRows before s.start s.end old
  pub after_it : MeetsRows after s.start (s.start + s.count) new

-- ---- changes

-- a lawful text with inlays
abbrev pub IsLawful : Source → Type 0
IsLawful v = IsWellFormed v × (v.folds ≡ [])

-- other inlays at an offset touch its row
abbrev pub TouchesRowOf : ℕ → Source → List Inlay → Type 0
TouchesRowOf offset v inlays =
    let after = inlay_source v.text inlays in
    let row = row_range v.text offset offset in
    TouchesRows v after (inlay_shift v after offset) row row

-- an inlay that is added touches its row
abbrev pub AddedTouches : Type 0
AddedTouches = (v : Source) (i : Inlay) → IsLawful v → IsInlayOf v.text i → HasRoom (λ j. j.id) i.id v.inlays
    → TouchesRowOf i.offset v (insert_by inlay_le i v.inlays)

-- an inlay that is removed touches its row
abbrev pub RemovedTouches : Type 0
RemovedTouches = (v : Source) (i : Inlay) → IsLawful v → find (λ j. j.id == i.id) v.inlays ≡ Some i
    → TouchesRowOf i.offset v (without_inlay i.id v.inlays)

-- a replacement of the text touches the rows from its start to its end
abbrev pub ReplacedTouches : Type 0
ReplacedTouches = (v : Source) (text : List ℕ) (s : Reach) → IsLawful v → IsWellFormed (source_after text (Some s) v)
    → s.start ≤ s.end → Leads unmoved v.text text s
    → let after = source_after text (Some s) v in
    TouchesRows v after (inlaid_shift v after s) (row_range v.text s.start s.end) (row_range text s.start (s.start + s.count))
