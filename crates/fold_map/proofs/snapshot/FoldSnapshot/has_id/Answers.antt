use Rattle.std.proofs.Common.{◌==◌, ◌∙◌, ap}
use Rattle.std.specs.List.{list_any}
use Rattle.cell_units.specs.Layers.{Source}
use Rattle.fold_map.proofs.Refusals.{same-ids}
use Rattle.fold_map.proofs.snapshot.FoldSnapshot.has_id.Goals as goal

pub returns-clause-value : goal.returns-clause-value
returns-clause-value g c =
    c.contains.ensures.value ∙ same-ids c.args.id c.self.inside.folds ∙ ap (λ (s : Source). list_any (λ f. f.id == c.args.id) s.folds) c.self.view_is
