use Rattle.std.proofs.Common.{ℕ, List, ap, ◌∙◌}
use Rattle.cell_units.specs.Points.{offset_at}
use Rattle.display_map.proofs.Views.{text-read}
use Rattle.display_map.proofs.view.ViewOn.offset_of.Goals as goal

pub returns-clause-value : goal.returns-clause-value
returns-clause-value g c =
    c.offset_of.ensures.value ∙ ap (λ (text : List ℕ). offset_at text c.args.point c.args.bias) (text-read c.self.invariant c.self.view_is)
