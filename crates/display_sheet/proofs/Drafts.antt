-- What operations leave of a record's lists.
use Rattle.std.proofs.Common.{◌≡◌, ℕ, ◌+◌, ◌≤◌, List, map, length, refl, sym, ap, ◌∙◌, arith}
use Rattle.std.specs.Prelude.{Some, ◌==◌}
use Rattle.std.specs.List.{find}
use Rattle.std.specs.Arc.{arc_value}
use Rattle.cell_units.specs.Text.{clean}
use Rattle.cell_units.specs.Sorting.{insert_by}
use Rattle.cell_units.specs.Record.{Fold, Inlay, Record, fold_le, inlay_le}
use Rattle.cell_units.specs.Operation.{AddFold, AddInlay, RemoveFold, RemoveInlay, Replace, moved_blocks, moved_folds, moved_inlays, replaced_text, without_fold, without_inlay}
use Rattle.cell_units.specs.Touched.{Rows, row_range, rows_of, rows_of_fold, rows_of_inlay}
use Rattle.cell_units.specs.Lawful.{IsAllowed}
use Rattle.plain_rows.specs.Plain.{block_of, fold_of, inlay_of}
use Rattle.display_sheet.specs.declared.sheet.Draft.{Draft}
use Rattle.display_sheet.specs.declared.sheet.Reach.{Reach}
use Rattle.display_sheet.specs.Sheets.{IsDraft}

module _ (r : Record) (draft : Draft) where
  pub inlay-added : (i : Inlay) (at : Reach) → IsAllowed (AddInlay i) r → i.offset ≤ length r.text → at.start ≡ i.offset → at.end ≡ i.offset →
      arc_value draft.text ≡ r.text → map inlay_of (arc_value draft.inlays).items ≡ insert_by inlay_le i r.inlays →
      map fold_of (arc_value draft.folds).items ≡ r.folds → map block_of (arc_value draft.blocks).items ≡ r.blocks → IsDraft (AddInlay i) r draft at at
  inlay-added i at allowed within start end text inlays folds blocks = record {
    allowed = allowed;
    touches = λ k. rows_of r.text (sym start k) (sym end k);
    order = (omega (arith, start, end), omega (arith, end, within));
    order_after = (omega (arith, start, end), omega (arith, end, within));
    text_is = sym text;
    inlays_are = sym inlays;
    folds_are = sym folds;
    blocks_are = sym blocks;
    tab_is = refl;
    width_is = refl;
  }

  pub inlay-removed : (id : ℕ) (i : Inlay) (at : Reach) → find (λ j. j.id == id) r.inlays ≡ Some i → i.offset ≤ length r.text → at.start ≡ i.offset → at.end ≡ i.offset →
      arc_value draft.text ≡ r.text → map inlay_of (arc_value draft.inlays).items ≡ without_inlay id r.inlays →
      map fold_of (arc_value draft.folds).items ≡ r.folds → map block_of (arc_value draft.blocks).items ≡ r.blocks → IsDraft (RemoveInlay id) r draft at at
  inlay-removed id i at found within start end text inlays folds blocks = record {
    allowed = tt;
    touches = ap (rows_of_inlay r.text) found ∙ (λ k. rows_of r.text (sym start k) (sym end k));
    order = (omega (arith, start, end), omega (arith, end, within));
    order_after = (omega (arith, start, end), omega (arith, end, within));
    text_is = sym text;
    inlays_are = sym inlays;
    folds_are = sym folds;
    blocks_are = sym blocks;
    tab_is = refl;
    width_is = refl;
  }

  pub fold-added : (f : Fold) (at : Reach) → IsAllowed (AddFold f) r → f.start ≤ f.end → f.end ≤ length r.text → at.start ≡ f.start → at.end ≡ f.end →
      arc_value draft.text ≡ r.text → map inlay_of (arc_value draft.inlays).items ≡ r.inlays →
      map fold_of (arc_value draft.folds).items ≡ insert_by fold_le f r.folds → map block_of (arc_value draft.blocks).items ≡ r.blocks → IsDraft (AddFold f) r draft at at
  fold-added f at allowed le within start end text inlays folds blocks = record {
    allowed = allowed;
    touches = λ k. rows_of r.text (sym start k) (sym end k);
    order = (omega (arith, start, end, le), omega (arith, end, within));
    order_after = (omega (arith, start, end, le), omega (arith, end, within));
    text_is = sym text;
    inlays_are = sym inlays;
    folds_are = sym folds;
    blocks_are = sym blocks;
    tab_is = refl;
    width_is = refl;
  }

  pub fold-removed : (id : ℕ) (f : Fold) (at : Reach) → find (λ g. g.id == id) r.folds ≡ Some f → f.start ≤ f.end → f.end ≤ length r.text → at.start ≡ f.start → at.end ≡ f.end →
      arc_value draft.text ≡ r.text → map inlay_of (arc_value draft.inlays).items ≡ r.inlays →
      map fold_of (arc_value draft.folds).items ≡ without_fold id r.folds → map block_of (arc_value draft.blocks).items ≡ r.blocks → IsDraft (RemoveFold id) r draft at at
  fold-removed id f at found le within start end text inlays folds blocks = record {
    allowed = tt;
    touches = ap (rows_of_fold r.text) found ∙ (λ k. rows_of r.text (sym start k) (sym end k));
    order = (omega (arith, start, end, le), omega (arith, end, within));
    order_after = (omega (arith, start, end, le), omega (arith, end, within));
    text_is = sym text;
    inlays_are = sym inlays;
    folds_are = sym folds;
    blocks_are = sym blocks;
    tab_is = refl;
    width_is = refl;
  }

  pub replaced : (a b : ℕ) (s : List ℕ) (before after : Reach) → IsAllowed (Replace a b s) r → a ≤ b → b ≤ length r.text → before.start ≡ a → before.end ≡ b →
      after.start ≡ a → after.end ≡ a + length (clean s) → a + length (clean s) ≤ length (replaced_text r.text a b (clean s)) →
      arc_value draft.text ≡ replaced_text r.text a b (clean s) →
      map inlay_of (arc_value draft.inlays).items ≡ moved_inlays a b (length (clean s)) r.inlays →
      map fold_of (arc_value draft.folds).items ≡ moved_folds a b (length (clean s)) r.folds →
      map block_of (arc_value draft.blocks).items ≡ moved_blocks a b (length (clean s)) r.blocks → IsDraft (Replace a b s) r draft before after
  replaced a b s before after allowed le within start end start' end' within' text inlays folds blocks = record {
    allowed = allowed;
    touches = λ k. Rows (row_range r.text (sym start k) (sym end k)) (row_range (replaced_text r.text a b (clean s)) (sym start' k) (sym end' k));
    order = (omega (arith, start, end, le), omega (arith, end, within));
    order_after = (omega (arith, start', end'), omega (arith, end', within'));
    text_is = sym text;
    inlays_are = sym inlays;
    folds_are = sym folds;
    blocks_are = sym blocks;
    tab_is = refl;
    width_is = refl;
  }
