use Rattle.std.proofs.Common.{◌∙◌, ap, arith}
use Rattle.cell_units.specs.BufferLines.{line_end, line_start}
use Rattle.cell_units.specs.Layers.{Source}
use Rattle.cell_units.specs.Record.{line_count}
use Rattle.inlay_map.proofs.layer.InlaySnapshotLayer.row_range.Goals as goal

pub row_range-requires : goal.row_range-requires
row_range-requires c = omega (arith, c.requires, ap (λ (s : Source). line_count s.text) c.self.view_is)

pub returns : goal.returns
returns c = c.row_range.ensures ∙ ap (λ (s : Source). (line_start s.text c.args.row, line_end s.text c.args.row)) c.self.view_is
