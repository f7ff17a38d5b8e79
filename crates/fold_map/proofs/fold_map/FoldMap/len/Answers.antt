use Rattle.std.proofs.Common.{length, ap, subst, ◌∙◌}
use Rattle.cell_units.specs.Lawful.{IsWellFormed}
use Rattle.fold_map.specs.Maps.{FoldState}
use Rattle.fold_map.proofs.fold_map.FoldMap.len.Goals as goal

pub returns-clause-len : goal.returns-clause-len
returns-clause-len g c = c.count.ensures ∙ ap (λ (s : FoldState). length s.current.folds) c.self.view_is

pub returns-clause-lawful : goal.returns-clause-lawful
returns-clause-lawful g c = subst (λ (s : FoldState). IsWellFormed s.current) c.self.view_is c.text_len-text.ensures.lawful.formed
