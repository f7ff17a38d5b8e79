use Rattle.std.proofs.Common.{◌≡◌, length, ap, sym, ◌∙◌, arith}
use Rattle.cell_units.specs.Text.{row_of}
use Rattle.cell_units.specs.BufferLines.{line_end}
use Rattle.cell_units.proofs.BufferLines.{line_bounds}
use Rattle.display_sheet.proofs.RowEnds.{row_end_is}
use Rattle.display_sheet.proofs.buffer.Buffer.row_end.Goals as goal

pub overflow_cast-result : goal.overflow_cast-result
overflow_cast-result c =
    let now = c.args.self.now in
    let row = row_of now c.args.offset in
    let text : c.as_str.result.now ≡ now = c.as_str.ensures.value ∙ c.self.view_is in
    let is : c.line_end.result ≡ line_end now row = c.line_end.ensures ∙ (λ i. line_end (text i) (c.row_of.ensures.row i)) in
    omega (arith, is, (line_bounds now row (omega (arith, c.row_of.ensures.within, c.row_of.ensures.row))).1, c.self.invariant.1, ap length c.self.view_is)

pub returns : goal.returns
returns c =
    let now = c.args.self.now in
    let text : c.as_str.result.now ≡ now = c.as_str.ensures.value ∙ c.self.view_is in
    c.line_end.ensures ∙ (λ i. line_end (text i) (c.row_of.ensures.row i)) ∙ sym (row_end_is now c.args.offset c.requires)
