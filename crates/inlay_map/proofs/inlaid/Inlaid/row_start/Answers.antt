use Rattle.std.proofs.Common.{◌∙◌, ℕ, List, ap, arith}
use Rattle.cell_units.specs.BufferLines.{line_start}
use Rattle.cell_units.specs.Layers.{Source}
use Rattle.cell_units.specs.Record.{line_count}
use Rattle.cell_units.proofs.PlainLayers.{plain_line_count, text_of_plain}
use Rattle.inlay_map.proofs.inlaid.Inlaid.row_start.Goals as goal

pub line_start-requires : goal.line_start-requires
line_start-requires c = omega (arith, c.requires, plain_line_count c.self.inside.rope, ap (λ (s : Source). line_count s.text) c.self.view_is)

pub returns : goal.returns
returns c =
    c.line_start.ensures
    ∙ ap (λ (t : List ℕ). line_start t c.args.row) (text_of_plain c.self.inside.rope)
    ∙ ap (λ (s : Source). line_start s.text c.args.row) c.self.view_is
