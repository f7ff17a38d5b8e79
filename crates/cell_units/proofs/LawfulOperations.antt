-- The record of a text is lawful, and each operation that is allowed leaves one with lawful entries.
use Rattle.std.proofs.Common.{ℕ, ◌+◌, ◌<◌, zero, suc, ltb, not, eqb, List, length, refl, sym, ◌∙◌, inl, inr, arith}
use Rattle.std.specs.List.{range_with_len}
use Rattle.std.specs.Str.{IsUtf8}
use Rattle.std.proofs.lemmas.Bool.{ltb-true}
use Rattle.std.proofs.lemmas.List.{length-map}
use Rattle.std.proofs.lemmas.List.FromFn.{length-range_with_len}
use Rattle.std.proofs.lemmas.Str.{IsUtf8-take}
use Rattle.cell_units.specs.declared.place.Bias.{Bias}
use Rattle.cell_units.specs.declared.place.Bias.TheVariants.{Left, Right}
use Rattle.cell_units.specs.Text.{IsBoundary, IsText, clean}
use Rattle.cell_units.specs.Anchor.{move}
use Rattle.cell_units.specs.BufferLines.{line_start}
use Rattle.cell_units.specs.Record.{Block, Fold, Inlay, Mark, Record, block_le, fold_le, inlay_le, line_count, opened, plain_mark, plain_marks}
use Rattle.cell_units.specs.Operation.{Operation, Replace, AddInlay, RemoveInlay, AddFold, RemoveFold, AddBlock, RemoveBlock, SetTab, SetWidth, block_at_row, move_block, move_fold, move_inlay, operated, replaced_text}
use Rattle.cell_units.specs.Lawful.{HasLawfulEntries, IsAllowed, IsBlockOf, IsFoldOf, IsInlayOf, IsLawful, IsWidth}
use Rattle.cell_units.proofs.BufferLines.{boundary_at_start}
use Rattle.cell_units.proofs.Characters.{clean-utf8}
use Rattle.cell_units.proofs.CutLists.{Every}
use Rattle.cell_units.proofs.FoundEntries.{All-from_Every}
use Rattle.cell_units.proofs.PlainLayers.{no_entries, plain_well_formed}
use Rattle.cell_units.proofs.Unfolded.{length-display_lines}
use Rattle.cell_units.proofs.Entries.{entries-added, entries-kept, entries-moved, entries-moved_some}
use Rattle.cell_units.proofs.EntryOrders.{block_total, block_trans, fold_total, fold_trans, inlay_total, inlay_trans}
use Rattle.cell_units.proofs.MovedBoundaries.{boundary-moved, replaced-is_text}

-- a row starts at a boundary
pub start_boundary : (text : List ℕ) (row : ℕ) → IsUtf8 text → row < line_count text → IsBoundary text (line_start text row)
start_boundary text row utf8 lt =
    let at = boundary_at_start text row utf8 lt in
    (at.0, IsUtf8-take text (line_start text row) utf8 at)

abbrev inlay_id : Inlay → ℕ
inlay_id i = i.id

abbrev fold_id : Fold → ℕ
fold_id f = f.id

abbrev block_id : Block → ℕ
block_id k = k.id

module _ (r : Record) (is : HasLawfulEntries r) where
  module _ (a b : ℕ) (s : List ℕ) (ok : IsAllowed (Replace a b s) r) where
    abbrev n : ℕ
    n = length (clean s)

    abbrev new : List ℕ
    new = replaced_text r.text a b (clean s)

    goes : (p : ℕ) (bias : Bias) → IsBoundary r.text p → IsBoundary new (move p bias a b n)
    goes p bias h = boundary-moved r.text a b (clean s) is.source.text.0 ok.0 ok.1 ok.2 (clean-utf8 s ok.3) p bias h

    lawful_replaced : HasLawfulEntries (operated (Replace a b s) r)
    lawful_replaced = record {
      source = record {
        text = replaced-is_text r.text a b s is.source.text ok.0 ok.1 ok.2 ok.3;
        inlays = entries-moved inlay_le inlay_total inlay_trans inlay_id (IsInlayOf r.text) (IsInlayOf new) (move_inlay a b n) (λ i. refl)
            (λ i h. record { boundary = goes i.offset i.bias h.boundary; utf8 = h.utf8; some = h.some; short = h.short }) r.inlays is.source.inlays;
        folds = entries-moved_some fold_le fold_total fold_trans fold_id (IsFoldOf r.text) (λ f. IsBoundary new f.start × IsBoundary new f.end) (IsFoldOf new) (move_fold a b n) (λ f. ltb f.start f.end) (λ f. refl)
            (λ f h. (goes f.start Right h.start, goes f.end Left h.end))
            (λ f h k. record { start = h.0; end = h.1; some = ltb-true f.start f.end k }) r.folds is.source.folds;
      };
      blocks = entries-moved block_le block_total block_trans block_id (IsBlockOf r.text) (IsBlockOf new) (move_block a b n) (λ k. refl)
          (λ k h. record { boundary = goes k.offset Right h.boundary; lines = h.lines }) r.blocks is.blocks;
      tab = is.tab;
      width = is.width;
    }

  pub lawful-operated : (operation : Operation) → IsAllowed operation r → HasLawfulEntries (operated operation r)
  lawful-operated (Replace a b s) ok = lawful_replaced a b s ok
  lawful-operated (AddInlay i) ok = record {
    source = record {
      text = is.source.text;
      inlays = entries-added inlay_le inlay_total inlay_trans inlay_id (IsInlayOf r.text) i r.inlays is.source.inlays ok.0 ok.1;
      folds = is.source.folds;
    };
    blocks = is.blocks;
    tab = is.tab;
    width = is.width;
  }
  lawful-operated (RemoveInlay id) ok = record {
    source = record {
      text = is.source.text;
      inlays = entries-kept inlay_le inlay_total inlay_trans inlay_id (IsInlayOf r.text) (λ i. not (eqb i.id id)) r.inlays is.source.inlays;
      folds = is.source.folds;
    };
    blocks = is.blocks;
    tab = is.tab;
    width = is.width;
  }
  lawful-operated (AddFold f) ok = record {
    source = record {
      text = is.source.text;
      inlays = is.source.inlays;
      folds = entries-added fold_le fold_total fold_trans fold_id (IsFoldOf r.text) f r.folds is.source.folds ok.0 ok.1;
    };
    blocks = is.blocks;
    tab = is.tab;
    width = is.width;
  }
  lawful-operated (RemoveFold id) ok = record {
    source = record {
      text = is.source.text;
      inlays = is.source.inlays;
      folds = entries-kept fold_le fold_total fold_trans fold_id (IsFoldOf r.text) (λ f. not (eqb f.id id)) r.folds is.source.folds;
    };
    blocks = is.blocks;
    tab = is.tab;
    width = is.width;
  }
  lawful-operated (AddBlock row id side lines) ok = record {
    source = is.source;
    blocks = entries-added block_le block_total block_trans block_id (IsBlockOf r.text) (block_at_row r.text row id side lines) r.blocks is.blocks
        (record { boundary = start_boundary r.text row is.source.text.0 ok.0; lines = ok.1 }) ok.2;
    tab = is.tab;
    width = is.width;
  }
  lawful-operated (RemoveBlock id) ok = record {
    source = is.source;
    blocks = entries-kept block_le block_total block_trans block_id (IsBlockOf r.text) (λ k. not (eqb k.id id)) r.blocks is.blocks;
    tab = is.tab;
    width = is.width;
  }
  lawful-operated (SetTab tab) ok = record { source = is.source; blocks = is.blocks; tab = ok; width = is.width }
  lawful-operated (SetWidth width) ok = record { source = is.source; blocks = is.blocks; tab = is.tab; width = ok }

-- ---- a text that was just opened

pub plain_widths : (stamp n : ℕ) → Every (λ (m : Mark). IsWidth m.width) (plain_marks stamp n)
plain_widths stamp zero = tt
plain_widths stamp (suc n) = (inl refl, plain_widths (stamp + 1) n)

pub opened-lawful : (text : List ℕ) → IsText text → IsLawful (opened text)
opened-lawful text is = record {
  entries = record {
    source = plain_well_formed text is;
    blocks = no_entries block_le block_id (IsBlockOf text);
    tab = (omega arith, omega arith);
    width = inr (omega arith, omega arith);
  };
  marked = length-map (range_with_len 0 (line_count text)) plain_mark ∙ length-range_with_len 0 (line_count text) ∙ sym (length-display_lines text);
  widths = All-from_Every (λ (m : Mark). IsWidth m.width) (plain_marks 0 (line_count text)) (plain_widths 0 (line_count text));
}
