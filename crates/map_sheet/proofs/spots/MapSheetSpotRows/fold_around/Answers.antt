use Rattle.std.proofs.Common.{◌∙◌, arith}
use Rattle.cell_units.specs.declared.place.Bias.TheVariants.{Left, Right}
use Rattle.map_sheet.proofs.SpotPlaces.{boundary-there, fold-found, fold-none, fold-none-left, fold-none-right, place-laws}
use Rattle.map_sheet.proofs.spots.MapSheetSpotRows.fold_around.Goals as goal
use Rattle.map_sheet.proofs.spots.MapSheetSpotRows.fold_around.Goals.{else-start-offset-via-then-start-offset+else-offset-end, else-start-offset-via-else-start-offset}

pub place-left-requires : goal.place-left-requires
place-left-requires c = boundary-there c.args.self.now c.lawful.ensures.lawful c.layer-layer.result.now (c.layer-layer.ensures ∙ c.text.ensures) c.args.offset Left c.requires

pub place-right-requires : goal.place-right-requires
place-right-requires c = boundary-there c.args.self.now c.lawful.ensures.lawful c.layer-layer.result.now (c.layer-layer.ensures ∙ c.text.ensures) c.args.offset Right c.requires

pub returns-in_default-clause-around : goal.returns-in_default-clause-around
returns-in_default-clause-around c =
    fold-none-left c.args.self.now c.lawful.ensures.lawful c.layer-layer.result.now (c.layer-layer.ensures ∙ c.text.ensures)
    (place-laws c.layer-layer.result.now c.layer_laws.ensures.rise c.layer_laws.ensures.left_first c.folding_laws.ensures.behind c.folding_laws.ensures.inside)
    c.args.offset c.requires c.place-left.result c.place-right.result c.place-left.ensures c.place-right.ensures c.in_default.ensures

pub returns-in_default-back-clause-around : goal.returns-in_default-back-clause-around
returns-in_default-back-clause-around c =
    fold-none-right c.args.self.now c.lawful.ensures.lawful c.layer-layer.result.now (c.layer-layer.ensures ∙ c.text.ensures)
    (place-laws c.layer-layer.result.now c.layer_laws.ensures.rise c.layer_laws.ensures.left_first c.folding_laws.ensures.behind c.folding_laws.ensures.inside)
    c.args.offset c.requires c.place-left.result c.place-right.result c.place-left.ensures c.place-right.ensures c.in_default-back.ensures

pub returns-then-offset-end-clause-around : goal.returns-then-offset-end-clause-around
returns-then-offset-end-clause-around c =
    fold-found c.args.self.now c.lawful.ensures.lawful c.layer-layer.result.now (c.layer-layer.ensures ∙ c.text.ensures)
    (place-laws c.layer-layer.result.now c.layer_laws.ensures.rise c.layer_laws.ensures.left_first c.folding_laws.ensures.behind c.folding_laws.ensures.inside)
    c.args.offset c.requires c.place-left.result c.place-right.result c.place-left.ensures c.place-right.ensures
    c.in-Some.start c.in-Some-back.end c.in-Some.ensures c.in-Some-back.ensures (omega (arith, c.if-start-offset.true)) (omega (arith, c.if-offset-end.true))

pub returns-else-start-offset-clause-around : goal.returns-else-start-offset-clause-around
returns-else-start-offset-clause-around c =
    fold-none c.args.self.now c.lawful.ensures.lawful c.layer-layer.result.now (c.layer-layer.ensures ∙ c.text.ensures)
    (place-laws c.layer-layer.result.now c.layer_laws.ensures.rise c.layer_laws.ensures.left_first c.folding_laws.ensures.behind c.folding_laws.ensures.inside)
    c.args.offset c.requires c.place-left.result c.place-right.result c.place-left.ensures c.place-right.ensures
    c.in-Some.start c.in-Some-back.end c.in-Some.ensures c.in-Some-back.ensures
    (λ a b. elim c.else-start-offset.branch [
      | else-start-offset-via-then-start-offset+else-offset-end w ↦ omega (arith, a, b, w.if-offset-end.false)
      | else-start-offset-via-else-start-offset w ↦ omega (arith, a, b, w.if-start-offset.false)
    ])
