use Rattle.std.proofs.Common.{ap, sym, ◌∙◌}
use Rattle.wrap_map.specs.Stood.{runs_in}
use Rattle.wrap_map.proofs.Spreads.{runs-spread}
use Rattle.wrap_map.proofs.stretches.Stretches.items.Goals as goal

pub returns : goal.returns
returns c =
    let are = c.self.invariant.0 in
    c.len.ensures ∙ sym (runs-spread c.self.inside.tree are.each are.apart) ∙ ap runs_in c.self.view_is
