-- The row at which a block is, by what a layer and rows return.
use Rattle.std.proofs.Common.{◌≡◌, ℕ, ◌<◌, ◌≤◌, length, subst}
use Rattle.cell_units.specs.declared.place.Bias.{Bias}
use Rattle.cell_units.specs.Folded.{line_of}
use Rattle.cell_units.specs.Lawful.{IsWellFormed}
use Rattle.cell_units.specs.Layers.{Source, place_of, shown_lines, shown_text}
use Rattle.cell_units.specs.Text.{row_of}
use Rattle.cell_units.proofs.LineSpans.{place-line}
use Rattle.cell_units.proofs.Sources.{ends_open, row-lt}

-- the line of a place is that of its offset
pub line-at : (s : Source) → IsWellFormed s → (o : ℕ) (bias : Bias) → o ≤ length s.text → row_of (shown_text s) (place_of s o bias) ≡ line_of s.text s.inlays s.folds o bias
line-at s w o bias le = place-line s (ends_open s w) o bias le

pub line-within : (s : Source) → IsWellFormed s → (o : ℕ) (bias : Bias) → o ≤ length s.text → line_of s.text s.inlays s.folds o bias < length (shown_lines s)
line-within s w o bias le = subst (λ (n : ℕ). n < length (shown_lines s)) (line-at s w o bias le) (row-lt s w (place_of s o bias))
