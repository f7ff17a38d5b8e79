use Rattle.std.proofs.Common.{◌∙◌, ap, length, refl, arith}
use Rattle.cell_units.specs.declared.place.Side.TheVariants.{Above, Below}
use Rattle.block_map.specs.Maps.{BlockState, fresh}
use Rattle.block_map.specs.inside.TwoSides.{is_kept}
use Rattle.block_map.proofs.TwoSides.{kept-above_added, kept-below_added, on-neither}
use Rattle.block_map.proofs.block_map.BlockMap.add.Goals as goal

pub add-requires-clause-room : goal.add-requires-clause-room
add-requires-clause-room g c =
    let i = c.self.inside in
    omega (arith, ap (λ (s : BlockState). length s.above) c.self.view_is, ap (λ (s : BlockState). length s.below) c.self.view_is, c.requires.room)

pub add-requires-clause-unused : goal.add-requires-clause-unused
add-requires-clause-unused g c = ap (λ (s : BlockState). is_kept c.args.id s.above) c.self.view_is ∙ on-neither c.args.id c.args.self.now c.requires.unused Above

pub add-requires-in-Below-clause-room : goal.add-requires-in-Below-clause-room
add-requires-in-Below-clause-room g c =
    let i = c.self.inside in
    omega (arith, ap (λ (s : BlockState). length s.above) c.self.view_is, ap (λ (s : BlockState). length s.below) c.self.view_is, c.requires.room)

pub add-requires-in-Below-clause-unused : goal.add-requires-in-Below-clause-unused
add-requires-in-Below-clause-unused g c = ap (λ (s : BlockState). is_kept c.args.id s.below) c.self.view_is ∙ on-neither c.args.id c.args.self.now c.requires.unused Below

pub invariant_of-self : goal.invariant_of-self
invariant_of-self g c =
    let i = c.self.inside in
    kept-above_added (g.R.Rows.shown i.rows) i.above i.below c.args.self.now c.self.invariant c.self.view_is c.add.result c.add.new.self (fresh c.args.id c.args.offset c.args.lines) refl c.requires.unused c.requires.room c.add.ensures.ok c.add.ensures.unchanged

pub invariant_of-self-in-Below : goal.invariant_of-self-in-Below
invariant_of-self-in-Below g c =
    let i = c.self.inside in
    kept-below_added (g.R.Rows.shown i.rows) i.above i.below c.args.self.now c.self.invariant c.self.view_is c.add-in-Below.result c.add-in-Below.new.self (fresh c.args.id c.args.offset c.args.lines) refl c.requires.unused c.requires.room c.add-in-Below.ensures.ok c.add-in-Below.ensures.unchanged
