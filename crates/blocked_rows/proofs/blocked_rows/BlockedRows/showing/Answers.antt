use Rattle.std.proofs.Common.{◌∙◌, List, None, ap, subst, sym}
use Rattle.cell_units.specs.Rows.{HaveRows}
use Rattle.edit_patch.specs.declared.edit.Edit.{Edit}
use Rattle.block_map.specs.Carried.{SyncsAtMost}
use Rattle.block_map.specs.Maps.{BlockState}
use Rattle.blocked_rows.proofs.FollowedRows.{followed-given}
use Rattle.blocked_rows.proofs.blocked_rows.BlockedRows.showing.Goals as goal

pub show-requires-after_bounds : goal.show-requires-after_bounds
show-requires-after_bounds g c κs within =
    followed-given (g.P.Layer.source c.args.layer.now) c.buffer_len-len.ensures.well_formed c.args.blocks (g.R.Rows.shown c.in_ok-rows.rows) c.none.result
    (c.requires.same ∙ ap (λ (s : BlockState). s.lines) (sym c.self.view_is) ∙ c.self.invariant.lines_are ∙ sym c.in_ok-rows.ensures) c.none.ensures
    (subst HaveRows (sym c.in_ok-rows.ensures) c.lines-lines.ensures.rows) c.requires.placed

pub returns-clause-steps : goal.returns-clause-steps
returns-clause-steps g c =
    subst (λ (es : List Edit). SyncsAtMost None es c.args.blocks c.args.steps.now c.show.new.steps) c.none.ensures c.show.ensures.steps
