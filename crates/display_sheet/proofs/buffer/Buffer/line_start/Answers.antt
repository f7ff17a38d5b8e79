use Rattle.std.proofs.Common.{◌<◌, List, ℕ, length, get_or, ap, ◌∙◌, arith}
use Rattle.std.proofs.lemmas.List.{get_or_read}
use Rattle.std.specs.String.{string_bytes}
use Rattle.cell_units.specs.Record.{line_count}
use Rattle.cell_units.specs.BufferLines.{line_start}
use Rattle.cell_units.proofs.BufferLines.{length-line_starts}
use Rattle.display_sheet.proofs.buffer.Buffer.line_start.Goals as goal

pub index-requires : goal.index-requires
index-requires c =
    let text = string_bytes c.self.inside.text in
    omega (arith, c.requires, ap line_count c.self.view_is, ap length c.self.invariant.0, length-line_starts text)

pub returns : goal.returns
returns c =
    let text = string_bytes c.self.inside.text in
    let within : c.args.line < length c.self.inside.starts.items =
    omega (arith, c.requires, ap line_count c.self.view_is, ap length c.self.invariant.0, length-line_starts text) in
    get_or_read c.self.inside.starts.items _ _ within c.index.ensures 0
    ∙ ap (λ (starts : List ℕ). get_or starts c.args.line 0) c.self.invariant.0
    ∙ ap (λ (t : List ℕ). line_start t c.args.line) c.self.view_is
