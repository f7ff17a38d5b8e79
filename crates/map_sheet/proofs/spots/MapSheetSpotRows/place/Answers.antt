use Rattle.std.proofs.Common.{◌∙◌}
use Rattle.map_sheet.proofs.SpotPlaces.{boundary-there, place-byte, place-line, place-within}
use Rattle.map_sheet.proofs.spots.MapSheetSpotRows.place.Goals as goal

pub place-place-requires : goal.place-place-requires
place-place-requires c = boundary-there c.args.self.now c.lawful.ensures.lawful c.layer-layer.result.now (c.layer-layer.ensures ∙ c.text.ensures) c.args.offset c.args.bias c.requires

pub point-point-requires : goal.point-point-requires
point-point-requires c =
    place-within c.args.self.now c.lawful.ensures.lawful c.layer-layer.result.now (c.layer-layer.ensures ∙ c.text.ensures) c.args.offset c.args.bias c.requires
    c.place-place.result c.place-place.ensures c.layer_laws.ensures.within

pub returns-clause-line : goal.returns-clause-line
returns-clause-line c =
    place-line c.args.self.now c.lawful.ensures.lawful c.layer-layer.result.now (c.layer-layer.ensures ∙ c.text.ensures) c.args.offset c.args.bias c.requires
    c.place-place.result c.place-place.ensures c.point-point.result c.point-point.ensures c.layer_laws.ensures.line

pub returns-clause-byte : goal.returns-clause-byte
returns-clause-byte c =
    place-byte c.args.self.now c.lawful.ensures.lawful c.layer-layer.result.now (c.layer-layer.ensures ∙ c.text.ensures) c.args.offset c.args.bias c.requires
    c.place-place.result c.place-place.ensures c.point-point.result c.point-point.ensures c.layer_laws.ensures.column
