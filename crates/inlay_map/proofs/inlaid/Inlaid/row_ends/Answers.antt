use Rattle.std.proofs.Common.{◌∙◌, ap, subst, sym}
use Rattle.cell_units.specs.Layers.{Source}
use Rattle.cell_units.specs.Text.{IsBoundary, row_end, row_start}
use Rattle.inlay_map.proofs.inlaid.Inlaid.row_ends.Goals as goal

pub row_ends-requires : goal.row_ends-requires
row_ends-requires c = subst (λ (s : Source). IsBoundary s.text c.args.offset) (sym c.self.view_is) c.requires

pub returns : goal.returns
returns c = c.row_ends.ensures ∙ ap (λ (s : Source). (row_start s.text c.args.offset, row_end s.text c.args.offset)) c.self.view_is
