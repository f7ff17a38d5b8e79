use Rattle.std.proofs.Common.{◌↔◌, IsTrue, subst}
use Rattle.cell_units.specs.Layers.{Source}
use Rattle.cell_units.specs.Text.{IsBoundary}
use Rattle.inlay_map.proofs.layer.InlaySnapshotLayer.on_boundary.Goals as goal

pub returns : goal.returns
returns c = subst (λ (s : Source). IsTrue c.is_boundary.result ↔ IsBoundary s.text c.args.offset) c.self.view_is c.is_boundary.ensures.test
