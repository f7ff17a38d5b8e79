use Rattle.std.proofs.Common.{length, ap, sym, ◌∙◌}
use Rattle.wrap_map.specs.declared.extent.Extent.{Extent}
use Rattle.wrap_map.proofs.Spreads.{lines-spread}
use Rattle.wrap_map.proofs.stretches.Stretches.lines.Goals as goal

pub returns : goal.returns
returns c = ap (λ (t : Extent). t.lines) c.sum.ensures ∙ sym (lines-spread c.self.inside.tree) ∙ ap length c.self.view_is
