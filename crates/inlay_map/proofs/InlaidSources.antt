-- A text with inlays as a source.
use Rattle.std.proofs.Common.{◌≡◌, [], subst, sym}
use Rattle.cell_units.specs.Lawful.{AreFolds, AreInlays, IsFoldOf, IsWellFormed}
use Rattle.cell_units.specs.Layers.{Source}
use Rattle.cell_units.specs.Record.{Fold, fold_le}
use Rattle.cell_units.specs.Text.{IsText}
use Rattle.cell_units.proofs.PlainLayers.{no_entries}

pub well-formed : (s : Source) → IsText s.text → AreInlays s.text s.inlays → s.folds ≡ [] → IsWellFormed s
well-formed s text inlays none = record {
  text = text;
  inlays = inlays;
  folds = subst (AreFolds s.text) (sym none) (no_entries fold_le (λ (f : Fold). f.id) (IsFoldOf s.text));
}
