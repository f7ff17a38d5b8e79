use Rattle.std.proofs.Common.{ap, sym, ◌∙◌}
use Rattle.wrap_map.specs.Stood.{rows_in}
use Rattle.wrap_map.specs.declared.extent.Extent.{Extent}
use Rattle.wrap_map.proofs.Spreads.{rows-spread}
use Rattle.wrap_map.proofs.stretches.Stretches.rows.Goals as goal

pub returns : goal.returns
returns c =
    ap (λ (t : Extent). t.rows) c.sum.ensures ∙ sym (rows-spread c.self.inside.tree c.self.invariant.0.each) ∙ ap rows_in c.self.view_is
