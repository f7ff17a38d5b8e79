use Rattle.cell_units.specs.Record.{Block, Fold, Inlay, block_le, fold_le, inlay_le}
use Rattle.cell_units.specs.Lawful.{IsBlockOf, IsFoldOf, IsInlayOf}
use Rattle.cell_units.proofs.Entries.{entries-pairs}
use Rattle.cell_units.proofs.EntryOrders.{block_total, block_trans, fold_total, fold_trans, inlay_total, inlay_trans}
use Rattle.cell_units.proofs.laws.entry_laws.Goals as goal

pub returns : goal.returns
returns c = record {
  inlays = λ text inlays are. entries-pairs inlay_le inlay_total inlay_trans (λ (i : Inlay). i.id) (IsInlayOf text) inlays are;
  folds = λ text folds are. entries-pairs fold_le fold_total fold_trans (λ (f : Fold). f.id) (IsFoldOf text) folds are;
  blocks = λ text blocks are. entries-pairs block_le block_total block_trans (λ (k : Block). k.id) (IsBlockOf text) blocks are;
}
