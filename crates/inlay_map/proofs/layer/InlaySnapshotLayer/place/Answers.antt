use Rattle.inlay_map.proofs.layer.InlaySnapshotLayer.place.Goals as goal

pub place-requires : goal.place-requires
place-requires c = c.requires.0

pub returns : goal.returns
returns c = c.place.ensures.place
