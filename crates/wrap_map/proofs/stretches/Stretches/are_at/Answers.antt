use Rattle.std.proofs.Common.{◌==◌, List, ap, sym, ◌∙◌}
use Rattle.std.specs.List.{list_all}
use Rattle.wrap_map.specs.Stood.{Stood, marks_in}
use Rattle.wrap_map.specs.declared.extent.Extent.{Extent}
use Rattle.wrap_map.specs.inside.Extents.{are_at}
use Rattle.wrap_map.proofs.Settled.{marks-told}
use Rattle.wrap_map.proofs.stretches.Stretches.are_at.Goals as goal

pub returns : goal.returns
returns c =
    c.is_at.ensures
    ∙ ap (λ (t : Extent). are_at c.args.width t.switches t.ends) c.sum.ensures
    ∙ sym (marks-told c.args.width c.self.inside.tree c.self.invariant.0.each)
    ∙ ap (λ (l : List Stood). list_all (λ mark. mark == c.args.width) (marks_in l)) c.self.view_is
