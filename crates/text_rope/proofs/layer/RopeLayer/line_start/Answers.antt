use Rattle.std.proofs.Common.{ap, sym, ◌∙◌, List, ℕ, arith}
use Rattle.cell_units.specs.BufferLines.{line_start}
use Rattle.cell_units.proofs.PlainLayers.{plain_line_count, text_of_plain}
use Rattle.text_rope.proofs.layer.RopeLayer.line_start.Goals as goal

pub row_start-requires : goal.row_start-requires
row_start-requires c = omega (arith, c.requires, plain_line_count c.args.self.now)

pub returns : goal.returns
returns c =
    c.row_start.ensures.start
    ∙ ap (λ (text : List ℕ). line_start text c.args.line) (sym (text_of_plain c.args.self.now))
