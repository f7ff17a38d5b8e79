use Rattle.std.proofs.Common.{◌≡◌, ap, ◌∙◌, length, arith}
use Rattle.std.proofs.lemmas.List.Sums.{count_by-le-length}
use Rattle.std.specs.String.{string_bytes}
use Rattle.cell_units.specs.Text.{is_feed}
use Rattle.cell_units.specs.Record.{line_count}
use Rattle.cell_units.proofs.BufferLines.{length-line_starts, line_count-is}
use Rattle.display_sheet.proofs.buffer.Buffer.lines.Goals as goal

pub overflow_cast-result : goal.overflow_cast-result
overflow_cast-result c =
    let text = string_bytes c.self.inside.text in
    omega (arith, c.self.invariant.1, c.len.ensures, ap length c.self.invariant.0, length-line_starts text, line_count-is text, count_by-le-length is_feed text)

pub returns-clause-count : goal.returns-clause-count
returns-clause-count c =
    let text = string_bytes c.self.inside.text in
    let long : c.len.result ≡ length c.self.inside.starts.items = omega (arith, c.len.ensures) in
    long ∙ ap length c.self.invariant.0 ∙ length-line_starts text ∙ ap line_count c.self.view_is
