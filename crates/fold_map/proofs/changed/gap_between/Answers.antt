use Rattle.std.proofs.Common.{sym, subst}
use Rattle.cell_units.specs.declared.place.Bias.TheVariants.{Left}
use Rattle.fold_map.specs.declared.position.Position.{Position}
use Rattle.fold_map.specs.Positions.{IsBefore, position_of}
use Rattle.fold_map.proofs.Positions.{left-right}
use Rattle.fold_map.proofs.changed.gap_between.Goals as goal

pub until-requires : goal.until-requires
until-requires g c =
    let s = g.L.Layer.source c.args.layer.now in
    subst (λ (p : Position). IsBefore p c.of-to.result) (sym c.of-from.ensures)
    (subst (λ (p : Position). IsBefore (position_of s c.args.start Left) p) (sym c.of-to.ensures) (left-right s c.requires.bare c.args.start c.args.end c.requires.order c.requires.end.0))
