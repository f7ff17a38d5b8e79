-- A well-formed source within the limit can be laid out.
use Rattle.std.proofs.Common.{◌≡◌, ℕ, ◌<◌, ◌≤◌, ◌&&◌, Bool, true, eqb, ltb, List, length, map, get_or, ap, inl, inr, arith}
use Rattle.std.specs.List.{All}
use Rattle.std.proofs.Math.ListN.{get_or-map}
use Rattle.std.proofs.lemmas.List.{length-map}
use Rattle.std.proofs.lemmas.Bool.{and_parts, eqb-true, ltb-true, or_cases}
use Rattle.cell_units.specs.Record as records
use Rattle.cell_units.specs.Record.{Fold, fold_le, in_order, inlay_le}
use Rattle.cell_units.specs.Layers.{Source}
use Rattle.cell_units.specs.Lawful.{IsFoldOf, IsInlayOf, IsWellFormed}
use Rattle.cell_units.proofs.Entries.{entries-pairs}
use Rattle.cell_units.proofs.EntryOrders.{fold_total, fold_trans, inlay_total, inlay_trans}
use Rattle.plain_rows.specs.declared.plain.PlainFold.{PlainFold}
use Rattle.plain_rows.specs.declared.plain.PlainInlay.{PlainInlay}
use Rattle.plain_rows.specs.FoldedLines.{AreInOrder, IsLawfulSource}
use Rattle.plain_rows.specs.Plain.{fold_of, listed_source}

-- what comes first by an order has no greater number
pub order-le : (a b : ℕ) (rest : Bool) → in_order a b rest ≡ true → a ≤ b
order-le a b rest is = elim (or_cases (ltb a b) (eqb a b && rest) is) [
  | inl lt ↦ omega (arith, ltb-true a b lt)
  | inr same ↦ omega (arith, eqb-true a b (and_parts (eqb a b) rest same).0)
]

pub lawful_source : (s : Source) → IsWellFormed s → length s.text ≤ 67108864 → IsLawfulSource s
lawful_source s formed size =
    let inlays = entries-pairs inlay_le inlay_total inlay_trans (λ (i : records.Inlay). i.id) (IsInlayOf s.text) s.inlays formed.inlays in
    let folds = entries-pairs fold_le fold_total fold_trans (λ (f : Fold). f.id) (IsFoldOf s.text) s.folds formed.folds in
    record {
      text = formed.text;
      text_size = size;
      inlays_in_order = λ i j d lt within. order-le _ _ _ (inlays i j d lt within).0;
      inlays_distinct = λ i j d lt within. (inlays i j d lt within).1;
      inlays_stand = λ k d lt. let i = formed.inlays.each k d lt in (i.boundary, i.utf8);
      inlays_size = λ k d lt. let i = formed.inlays.each k d lt in (i.some, i.short);
      inlays_count = formed.inlays.few;
      folds_in_order = λ i j d lt within. order-le _ _ _ (folds i j d lt within).0;
      folds_stand = λ k d lt. let f = formed.folds.each k d lt in (f.start, f.end, f.some);
      folds_count = formed.folds.few;
    }

-- ---- the plain folds themselves

fold-read : (folds : List PlainFold) (k : ℕ) (d : PlainFold) → get_or (map fold_of folds) k (fold_of d) ≡ fold_of (get_or folds k d)
fold-read folds k d = get_or-map fold_of folds k d

pub plain-folds_rise : (text : List ℕ) (inlays : List PlainInlay) (folds : List PlainFold) → IsLawfulSource (listed_source text inlays folds) → AreInOrder (λ (f : PlainFold). f.start) folds
plain-folds_rise text inlays folds lawful i j d lt within =
    let h = lawful.folds_in_order i j (fold_of d) lt (omega (arith, within, length-map folds fold_of)) in
    omega (arith, h, ap (λ (f : Fold). f.start) (fold-read folds i d), ap (λ (f : Fold). f.start) (fold-read folds j d))

pub plain-folds_some : (text : List ℕ) (inlays : List PlainInlay) (folds : List PlainFold) → IsLawfulSource (listed_source text inlays folds) → All (λ (f : PlainFold). f.start < f.end) folds
plain-folds_some text inlays folds lawful k d lt =
    let h = lawful.folds_stand k (fold_of d) (omega (arith, lt, length-map folds fold_of)) in
    omega (arith, h.2, ap (λ (f : Fold). f.start) (fold-read folds k d), ap (λ (f : Fold). f.end) (fold-read folds k d))
