use Rattle.std.proofs.Common.{◌≡◌, ap, sym, ◌∙◌}
use Rattle.cell_units.specs.Text.{row_of}
use Rattle.cell_units.specs.BufferLines.{line_end, line_start}
use Rattle.text_rope.proofs.Layers.{row_end_is}
use Rattle.text_rope.proofs.RowStarts.{row_start_is}
use Rattle.text_rope.proofs.layer.RopeLayer.row_ends.Goals as goal

pub returns : goal.returns
returns c =
    let text = c.args.self.now in
    let o = c.args.offset in
    let row : c.point_of-row.result.row ≡ row_of text o = ap (λ p. p.row) c.point_of-row.ensures.point in
    c.row_range.ensures.range
    ∙ (λ i. (line_start text (row i), line_end text (row i)))
    ∙ (λ i. (sym (row_start_is text o c.requires.0) i, sym (row_end_is text o c.requires.0) i))
