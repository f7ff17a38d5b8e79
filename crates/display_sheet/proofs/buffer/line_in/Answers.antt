use Rattle.std.proofs.Common.{◌≡◌, ℕ, ◌<◌, rules, length, get_or, slice_range, ap, sym, ◌∙◌, arith, List, subst}
use Rattle.std.specs.Str.{IsCharBoundary}
use Rattle.cell_units.specs.BufferLines.{line_starts, line_start}
use Rattle.cell_units.proofs.BufferLines.{length-line_starts, line_bounds, get_or-buffer_lines, boundary_at_end, boundary_at_start}
use Rattle.display_sheet.proofs.buffer.line_in.Goals as goal

start_is : (text starts : List ℕ) (line : ℕ) → starts ≡ line_starts text → get_or starts line 0 ≡ line_start text line
start_is text starts line e = ap (λ (l : List ℕ). get_or l line 0) e

pub bounds-starts-line : goal.bounds-starts-line
bounds-starts-line c = omega (arith, ap length c.requires.starts, length-line_starts c.args.text.now)

pub offset_bounds-starts-line : goal.offset_bounds-starts-line
offset_bounds-starts-line c =
    let within : c.args.line < length c.args.starts.now = omega (arith, ap length c.requires.starts, length-line_starts c.args.text.now) in
    search rules

pub range-requires-clause-start_le_end : goal.range-requires-clause-start_le_end
range-requires-clause-start_le_end c =
    omega (arith, start_is c.args.text.now c.args.starts.now c.args.line c.requires.starts, c.line_end-end.ensures, (line_bounds c.args.text.now c.args.line c.requires.within).0)

pub range-requires-clause-start_boundary : goal.range-requires-clause-start_boundary
range-requires-clause-start_boundary c =
    λ _. subst (IsCharBoundary c.args.text.now) (sym (start_is c.args.text.now c.args.starts.now c.args.line c.requires.starts))
    (boundary_at_start c.args.text.now c.args.line c.utf8.text c.requires.within)

pub range-requires-clause-end_boundary : goal.range-requires-clause-end_boundary
range-requires-clause-end_boundary c =
    subst (IsCharBoundary c.args.text.now) (sym c.line_end-end.ensures) (boundary_at_end c.args.text.now c.args.line c.requires.within)

pub returns-clause-line : goal.returns-clause-line
returns-clause-line c =
    c.range.ensures.value
    ∙ (λ i. slice_range c.args.text.now (start_is c.args.text.now c.args.starts.now c.args.line c.requires.starts i) (c.line_end-end.ensures i))
    ∙ sym (get_or-buffer_lines c.args.text.now c.args.line c.requires.within)

pub returns-clause-size : goal.returns-clause-size
returns-clause-size c =
    omega (arith, c.range.ensures.len, (line_bounds c.args.text.now c.args.line c.requires.within).1, c.line_end-end.ensures)
