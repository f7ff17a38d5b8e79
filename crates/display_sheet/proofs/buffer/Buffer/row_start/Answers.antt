use Rattle.std.proofs.Common.{List, ℕ, length, get_or, ap, sym, ◌∙◌, arith, ◌<◌}
use Rattle.std.proofs.lemmas.List.{get_or_read}
use Rattle.std.specs.String.{string_bytes}
use Rattle.cell_units.specs.Text.{row_of}
use Rattle.cell_units.specs.Record.{line_count}
use Rattle.cell_units.specs.BufferLines.{line_start}
use Rattle.cell_units.proofs.BufferLines.{length-line_starts}
use Rattle.display_sheet.proofs.RowEnds.{row_start_is}
use Rattle.display_sheet.proofs.buffer.Buffer.row_start.Goals as goal

pub index-requires : goal.index-requires
index-requires c =
    let text = string_bytes c.self.inside.text in
    omega (arith, c.row_of.ensures.within, ap line_count c.self.view_is, ap length c.self.invariant.0, length-line_starts text)

pub returns : goal.returns
returns c =
    let text = string_bytes c.self.inside.text in
    let now = c.args.self.now in
    let lt : c.row_of.result < length c.self.inside.starts.items = omega (arith, c.row_of.ensures.within, ap line_count c.self.view_is, ap length c.self.invariant.0, length-line_starts text) in
    get_or_read c.self.inside.starts.items _ _ lt c.index.ensures 0
    ∙ (λ i. get_or (c.self.invariant.0 i) (c.row_of.ensures.row i) 0)
    ∙ ap (λ (t : List ℕ). line_start t (row_of now c.args.offset)) c.self.view_is
    ∙ sym (row_start_is now c.args.offset c.requires)
