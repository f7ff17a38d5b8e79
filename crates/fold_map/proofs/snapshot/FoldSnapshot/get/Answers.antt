use Rattle.std.proofs.Common.{◌≡◌, ◌∙◌, ap, sym, length, arith}
use Rattle.std.specs.Prelude.{option_map}
use Rattle.std.specs.List.{slice_get}
use Rattle.std.proofs.lemmas.List.{length-map}
use Rattle.std.proofs.lemmas.Option.{slice_get-map}
use Rattle.cell_units.specs.Layers.{Source}
use Rattle.joined_folds.specs.Sweeps.{fold_of}
use Rattle.fold_map.proofs.snapshot.FoldSnapshot.get.Goals as goal

pub returns-clause-fold : goal.returns-clause-fold
returns-clause-fold g c =
    ap (option_map fold_of) c.get.ensures.range
    ∙ sym (slice_get-map fold_of c.self.inside.folds c.args.at)
    ∙ ap (λ (s : Source). slice_get s.folds c.args.at) c.self.view_is

pub returns-clause-steps : goal.returns-clause-steps
returns-clause-steps g c h few =
    c.get.ensures.steps h (omega (arith, few, length-map c.self.inside.folds fold_of, ap (λ (s : Source). length s.folds) c.self.view_is))
