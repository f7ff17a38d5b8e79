use Rattle.std.proofs.Common.{◌∙◌, ◌+◌, ◌<◌, ◌^◌, length, sym, ap, subst}
use Rattle.cell_units.specs.Rows.{all_rows}
use Rattle.cell_units.specs.declared.place.Side.TheVariants.{Above, Below}
use Rattle.block_map.specs.Follows.{block_height}
use Rattle.block_map.specs.Maps.{BlockState, IsShown, moved_kept}
use Rattle.block_map.specs.inside.ShownStops.{AreShown, shown_between}
use Rattle.block_map.proofs.ShownStops.{placed-shown}
use Rattle.block_map.proofs.SyncedMaps.{is-shown, sizes-after}
use Rattle.block_map.proofs.block_map.BlockMap.sync.Goals as goal

pub shown-requires-clause-above : goal.shown-requires-clause-above
shown-requires-clause-above g c κs within =
    subst (λ (s : BlockState). AreShown s.above) (sym c.in_ok-next.ensures.ok)
    (placed-shown (g.P.Layer.source c.args.layer.now) (g.R.Rows.shown c.args.rows) Above (moved_kept c.args.shift c.args.self.now.above))

pub shown-requires-clause-below : goal.shown-requires-clause-below
shown-requires-clause-below g c κs within =
    subst (λ (s : BlockState). AreShown s.below) (sym c.in_ok-next.ensures.ok)
    (placed-shown (g.P.Layer.source c.args.layer.now) (g.R.Rows.shown c.args.rows) Below (moved_kept c.args.shift c.args.self.now.below))

pub shown-requires-clause-sizes : goal.shown-requires-clause-sizes
shown-requires-clause-sizes g c κs within =
    let s = g.P.Layer.source c.args.layer.now in
    let lines = g.R.Rows.shown c.args.rows in
    subst (λ (s : BlockState). length (all_rows s.lines) + (block_height s.above + block_height s.below) < 2 ^ 32) (sym c.in_ok-next.ensures.ok)
    (sizes-after s c.buffer_len-len.ensures.well_formed c.args.shift c.args.row_edits.now lines c.args.self.now c.requires)

pub returns-clause-shown : goal.returns-clause-shown
returns-clause-shown g c =
    let s = g.P.Layer.source c.args.layer.now in
    let lines = g.R.Rows.shown c.args.rows in
    subst (IsShown s c.args.shift lines c.args.self.now) (sym (c.in_ok-shown.ensures ∙ ap shown_between c.in_ok-next.ensures.ok))
    (is-shown s c.buffer_len-len.ensures.well_formed c.args.shift c.args.row_edits.now lines c.args.self.now c.requires c.lines-lines.ensures.rows)

pub returns-clause-steps : goal.returns-clause-steps
returns-clause-steps g c = c.in_ok-next.ensures.steps

pub returns-in_err-next-clause-steps : goal.returns-in_err-next-clause-steps
returns-in_err-next-clause-steps g c = c.after.ensures.steps

pub returns-in_err-shown-clause-steps : goal.returns-in_err-shown-clause-steps
returns-in_err-shown-clause-steps g c = c.in_ok-next.ensures.steps
