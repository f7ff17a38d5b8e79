-- The lines of the blocks of a layer.
use Rattle.std.proofs.Common.{◌≡◌, ℕ, ◌+◌, ◌<◌, ◌≤◌, length, Some, subst, arith, inl, inr}
use Rattle.std.proofs.lemmas.Bool.{cases_order}
use Rattle.cell_units.specs.declared.place.Bias.TheVariants.{Left, Right}
use Rattle.cell_units.specs.declared.place.Side.{Side}
use Rattle.cell_units.specs.declared.place.Side.TheVariants.{Above, Below}
use Rattle.cell_units.specs.Lawful.{IsWellFormed}
use Rattle.cell_units.specs.Layers.{Source, place_of, shown_lines}
use Rattle.cell_units.specs.Rows.{HaveRows, rows_before}
use Rattle.cell_units.specs.Text.{row_end, row_start}
use Rattle.cell_units.proofs.LineSpans.{place-line}
use Rattle.cell_units.proofs.Sources.{ends_open, row-lt}
use Rattle.plain_rows.proofs.RisingLines.{row_end-within, row_start-le}
use Rattle.block_map.specs.Maps.{Kept, line_of_kept, row_at_line}
use Rattle.block_map.proofs.BlockRows.{starts-apart}
use Rattle.blocked_rows.specs.Records.{Lines}
use Rattle.blocked_rows.specs.Standing.{IsBlockOf}

-- the line of a block is one of the layer's
pub line-in : (source : Source) (side : Side) (k : Kept) → IsWellFormed source → k.offset ≤ length source.text → line_of_kept source side k < length (shown_lines source)
line-in source Above k formed le =
    let o = row_start source.text k.offset in
    let within : o ≤ length source.text = omega (arith, row_start-le source.text k.offset, le) in
    subst (λ (n : ℕ). n < length (shown_lines source)) (place-line source (ends_open source formed) o Left within) (row-lt source formed (place_of source o Left))
line-in source Below k formed le =
    let o = row_end source.text k.offset in
    let within : o ≤ length source.text = row_end-within source.text k.offset le in
    subst (λ (n : ℕ). n < length (shown_lines source)) (place-line source (ends_open source formed) o Right within) (row-lt source formed (place_of source o Right))

-- no two lines begin at one row
same-line : (lines : Lines) → HaveRows lines → (l m : ℕ) → l ≤ length lines → m ≤ length lines → rows_before lines l ≡ rows_before lines m → l ≡ m
same-line lines have l m lle mle same = elim (cases_order l m) [
  | inl e ↦ e
  | inr (inl lt) ↦ absurd (omega (arith, same, starts-apart lines have l m lt mle))
  | inr (inr gt) ↦ absurd (omega (arith, same, starts-apart lines have m l gt lle))
]

same-place : (lines : Lines) (side : Side) → HaveRows lines → (l m : ℕ) → l < length lines → m < length lines → row_at_line lines side l ≡ row_at_line lines side m → l ≡ m
same-place lines Above have l m llt mlt same = same-line lines have l m (omega (arith, llt)) (omega (arith, mlt)) same
same-place lines Below have l m llt mlt same =
    let e = same-line lines have (l + 1) (m + 1) (omega (arith, llt)) (omega (arith, mlt)) same in
    omega (arith, e)

-- the line at which a block was shown is its own
pub shown-at : (source : Source) (lines : Lines) (side : Side) (k : Kept) → IsWellFormed source → HaveRows lines → length (shown_lines source) ≡ length lines
    → IsBlockOf source lines side k → (line : ℕ) → line < length lines → k.row ≡ Some (row_at_line lines side line) → line ≡ line_of_kept source side k
shown-at source lines side k formed have equal is line lt at =
    same-place lines side have line (line_of_kept source side k) lt (omega (arith, equal, line-in source side k formed is.anchor.0))
    (is.shown (row_at_line lines side line) at)
