use Rattle.std.proofs.Common.{◌≡◌, ◌+◌, ◌<◌, subst, arith}
use Rattle.cell_units.specs.Lawful.{IsWellFormed}
use Rattle.cell_units.specs.Layers.{shown_text}
use Rattle.cell_units.specs.Record.{line_count}
use Rattle.cell_units.proofs.BufferLines.{line_end_last, line_end_next}
use Rattle.cell_units.proofs.ShownText.{length-shown_lines}
use Rattle.cell_units.proofs.Sources.{ends_open}
use Rattle.inlay_map.proofs.InlaidSources.{well-formed}
use Rattle.inlay_map.proofs.snapshot.InlaySnapshot.row_end.Goals as goal

pub overflow_sub-result : goal.overflow_sub-result
overflow_sub-result c =
    let s = c.args.self.now in
    let w : IsWellFormed s = subst IsWellFormed c.self.view_is (well-formed c.self.inside.inlaid c.len-len.ensures.lawful.text c.len-len.ensures.lawful.inlays c.len-len.ensures.lawful.folds) in
    let more : c.args.line + 1 < line_count (shown_text s) = omega (arith, length-shown_lines s (ends_open s w), c.lines-lines.ensures, c.if-line-lines.true) in
    omega (arith, line_end_next (shown_text s) c.args.line more, c.row_start.ensures.start)

pub returns-then-line-lines-clause-end : goal.returns-then-line-lines-clause-end
returns-then-line-lines-clause-end c =
    let s = c.args.self.now in
    let w : IsWellFormed s = subst IsWellFormed c.self.view_is (well-formed c.self.inside.inlaid c.len-len.ensures.lawful.text c.len-len.ensures.lawful.inlays c.len-len.ensures.lawful.folds) in
    let more : c.args.line + 1 < line_count (shown_text s) = omega (arith, length-shown_lines s (ends_open s w), c.lines-lines.ensures, c.if-line-lines.true) in
    omega (arith, line_end_next (shown_text s) c.args.line more, c.row_start.ensures.start)

pub returns-else-line-lines-clause-end : goal.returns-else-line-lines-clause-end
returns-else-line-lines-clause-end c =
    let s = c.args.self.now in
    let w : IsWellFormed s = subst IsWellFormed c.self.view_is (well-formed c.self.inside.inlaid c.len-len.ensures.lawful.text c.len-len.ensures.lawful.inlays c.len-len.ensures.lawful.folds) in
    let last : c.args.line + 1 ≡ line_count (shown_text s) = omega (arith, length-shown_lines s (ends_open s w), c.lines-lines.ensures, c.if-line-lines.false, c.requires) in
    omega (arith, line_end_last (shown_text s) c.args.line last, c.length.ensures)
