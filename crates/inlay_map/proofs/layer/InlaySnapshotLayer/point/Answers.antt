use Rattle.cell_units.specs.Layers.{shown_text}
use Rattle.inlay_map.proofs.SourceLayers.{point-is}
use Rattle.inlay_map.proofs.layer.InlaySnapshotLayer.point.Goals as goal

pub overflow_sub-result : goal.overflow_sub-result
overflow_sub-result c =
    (point-is (shown_text c.args.self.now) c.args.place c.row_at-row.result c.row_start-start.result c.requires c.row_at-row.ensures.row.row c.row_start-start.ensures.start).0

pub returns : goal.returns
returns c =
    (point-is (shown_text c.args.self.now) c.args.place c.row_at-row.result c.row_start-start.result c.requires c.row_at-row.ensures.row.row c.row_start-start.ensures.start).1
