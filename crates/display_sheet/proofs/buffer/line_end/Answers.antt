use Rattle.std.proofs.Common.{ℕ, ◌+◌, ◌<◌, length, get_or, ap, arith, List}
use Rattle.cell_units.specs.Record.{line_count}
use Rattle.cell_units.proofs.BufferLines.{length-line_starts, line_end_next}
use Rattle.display_sheet.proofs.buffer.line_end.Goals as goal

pub overflow_sub-result : goal.overflow_sub-result
overflow_sub-result c =
    let text = c.args.text.now in
    let e = length-line_starts text in
    let l = ap length c.requires.starts in
    let next : c.args.line + 1 < line_count text = omega arith in
    omega (arith, line_end_next text c.args.line next, ap {B = ℕ} (λ (starts : List ℕ). get_or starts (c.args.line + 1) 0) c.requires.starts)
