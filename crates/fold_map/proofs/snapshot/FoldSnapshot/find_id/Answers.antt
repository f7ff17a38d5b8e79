use Rattle.std.proofs.Common.{◌==◌, ◌∙◌, ap, position, refl}
use Rattle.cell_units.specs.Layers.{Source}
use Rattle.joined_folds.specs.Sweeps.{fold_of}
use Rattle.mark_tree.specs.Ranges.{has_range_id}
use Rattle.mark_tree.proofs.Finding.{position-map}
use Rattle.fold_map.proofs.snapshot.FoldSnapshot.find_id.Goals as goal

pub returns-clause-place : goal.returns-clause-place
returns-clause-place g c =
    c.find.ensures.place
    ∙ position-map fold_of (has_range_id c.args.id) (λ f. f.id == c.args.id) (λ r. refl) c.self.inside.folds
    ∙ ap (λ (s : Source). position (λ f. f.id == c.args.id) s.folds) c.self.view_is
