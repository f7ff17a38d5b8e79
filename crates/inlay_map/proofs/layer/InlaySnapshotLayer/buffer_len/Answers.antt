use Rattle.inlay_map.proofs.InlaidSources.{well-formed}
use Rattle.inlay_map.proofs.layer.InlaySnapshotLayer.buffer_len.Goals as goal

pub returns-clause-well_formed : goal.returns-clause-well_formed
returns-clause-well_formed c =
    let e = c.text_len.ensures.lawful in
    well-formed c.args.self.now e.text e.inlays e.folds
