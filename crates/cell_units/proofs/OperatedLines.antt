-- Each operation keeps the lines that it doesn't touch.
use Rattle.std.proofs.Common.{◌≡◌, ℕ, ◌+◌, ◌<◌, ◌≤◌, arith, false, leb, ltb, List, [], ◌∷◌, ◌++◌, length, map, refl, sym, ap, ◌∙◌, subst}
use mathlib.Core.Bool.{◌||◌}
use Rattle.std.specs.Prelude.{Option, Some, None, ◌==◌}
use Rattle.std.specs.List.{find}
use Rattle.std.proofs.lemmas.Bool.{le-ltb, and_right}
use Rattle.std.proofs.lemmas.List.{length-map}
use Rattle.cell_units.specs.Text.{clean, row_of}
use Rattle.cell_units.specs.Record.{Inlay, Fold, Record, inlay_le, fold_le}
use Rattle.cell_units.specs.Operation.{Operation, Replace, AddInlay, RemoveInlay, AddFold, RemoveFold, AddBlock, RemoveBlock, SetTab, SetWidth, operated, without_inlay, without_fold, replaced_text}
use Rattle.cell_units.specs.Inlaid.{Token, is_break}
use Rattle.cell_units.specs.Folded.{covered, display_lines, folded, token_row}
use Rattle.cell_units.specs.Pieces.{pieces_of}
use Rattle.cell_units.specs.Touched.{Rows, row_range, touched, touched_before, untouched, rows_of, rows_of_inlay, rows_of_fold}
use Rattle.cell_units.specs.Lawful.{HasLawfulEntries, IsAllowed, IsFoldOf, IsInlayOf}
use Rattle.cell_units.specs.LineCounts.{KeepsCount, lines_of, operated_piece}
use Rattle.cell_units.proofs.CutLists.{Every, Every-mono, Every-append, Every-left, Every-right}
use Rattle.cell_units.proofs.CutRuns.{Counted}
use Rattle.cell_units.proofs.Moves.{move_token}
use Rattle.cell_units.proofs.SortedLists.{IsSorted}
use Rattle.cell_units.proofs.EntryOrders.{inlay_total, inlay_trans}
use Rattle.cell_units.proofs.Entries.{sorted_entries}
use Rattle.cell_units.proofs.CountedLines.{replaced}
use Rattle.cell_units.proofs.AddedLines.{inlay_added, inlay_removed, fold_added, fold_removed}
use Rattle.cell_units.proofs.ReplacedRows.{row_of_start-replaced}
use Rattle.cell_units.proofs.FoundEntries.{Every-from_All, PutIn, put_in, found, none_found}
use Rattle.cell_units.proofs.MovedPieces.{pieces-moved}
use Rattle.cell_units.proofs.UntouchedLines.{KeepsLines, lines_kept, lines_kept-none, lines_kept-each}

-- no fold hides the text's end
pub free_at_end : (n : ℕ) (folds : List Fold) → Every (λ f. f.end ≤ n) folds → covered folds n ≡ false
free_at_end n [] a = refl
free_at_end n (f ∷ fs) a = λ i. and_right (leb f.start n) (ltb n f.end) (le-ltb n f.end a.0) i || free_at_end n fs a.1 i

-- the pieces of a line that stays
pieces_stay : (l : List Token) → pieces_of (map (λ t. t) l) ≡ map (λ p. p) (pieces_of l)
pieces_stay l = ap pieces_of (same l) ∙ sym (same (pieces_of l)) where
  same : {X : Type 0} (xs : List X) → map (λ x. x) xs ≡ xs
  same [] = refl
  same (x ∷ xs) = ap (λ l. x ∷ l) (same xs)

both : {A : Type 0} (P : A → A → Type 0) {x x' y y' : A} → x ≡ x' → y ≡ y' → P x y → P x' y'
both P {x = x} {y' = y'} e h p = subst (λ a. P a y') e (subst (P x) h p)

-- the record with other inlays or folds
abbrev with_inlays : Record → List Inlay → Record
with_inlays r inlays = record r { inlays = inlays }

abbrev with_folds : Record → List Fold → Record
with_folds r folds = record r { folds = folds }

module _ (r : Record) (is : HasLawfulEntries r) where
  within : Every (λ f. (f.start < f.end) × (f.end ≤ length r.text)) r.folds
  within =
      Every-mono (IsFoldOf r.text) (λ f. (f.start < f.end) × (f.end ≤ length r.text)) r.folds (λ f h. (h.some, h.end.0))
      (Every-from_All (IsFoldOf r.text) r.folds is.source.folds.each)

  free : covered r.folds (length r.text) ≡ false
  free = free_at_end (length r.text) r.folds (Every-mono (λ f. (f.start < f.end) × (f.end ≤ length r.text)) (λ f. f.end ≤ length r.text) r.folds (λ f h. h.1) within)

  pub end_is_free : covered r.folds (length r.text) ≡ false
  end_is_free = free

  sorted : IsSorted inlay_le r.inlays
  sorted = sorted_entries inlay_le inlay_total inlay_trans (λ (i : Inlay). i.id) r.inlays is.source.inlays.in_order

  pub inlays_sorted : IsSorted inlay_le r.inlays
  inlays_sorted = sorted

  replacement : (a b : ℕ) (s : List ℕ) → a ≤ b → b ≤ length r.text →
      KeepsLines (touched (Replace a b s) r) (operated_piece (Replace a b s)) r (operated (Replace a b s) r)
  replacement a b s ab bt =
      let text = replaced_text r.text a b (clean s) in
      subst (λ k. KeepsLines (Rows (row_range r.text a b) (record { first = k; last = row_of text (a + length (clean s)) })) (operated_piece (Replace a b s)) r (operated (Replace a b s) r))
      (sym (row_of_start-replaced r.text a b (clean s) (omega arith)))
      (lines_kept (move_token a b (length (clean s))) (operated_piece (Replace a b s)) (pieces-moved a b (length (clean s))) r (operated (Replace a b s) r)
      (row_of r.text a) (row_of r.text b) (row_of text (a + length (clean s)))
      (replaced r.inlays r.folds r.text (clean s) a b sorted ab bt free))

  -- ---- an inlay more or less

  abbrev CountedInlays : ℕ → List Inlay → List Inlay → Type 0
  CountedInlays row old new = Counted is_break (λ t. t) (token_row r.text) (token_row r.text) row row row (folded r.text old r.folds) (folded r.text new r.folds)

  inlay_in : (i : Inlay) (new : List Inlay) → i.offset ≤ length r.text → PutIn i r.inlays new →
      KeepsLines (rows_of r.text i.offset i.offset) (λ p. p) r (with_inlays r new)
  inlay_in i new le p =
      let row = row_of r.text i.offset in
      lines_kept (λ t. t) (λ p. p) pieces_stay r (with_inlays r new) row row row
      (both (CountedInlays row) (sym p.old_is) (sym p.new_is) (inlay_added p.before i p.behind r.folds r.text le free))

  inlays_within : Every (λ i. i.offset ≤ length r.text) r.inlays
  inlays_within =
      Every-mono (IsInlayOf r.text) (λ i. i.offset ≤ length r.text) r.inlays (λ i h. h.boundary.0)
      (Every-from_All (IsInlayOf r.text) r.inlays is.source.inlays.each)

  inlay_out : (i : Inlay) (rest : List Inlay) → PutIn i rest r.inlays →
      KeepsLines (rows_of r.text i.offset i.offset) (λ p. p) r (with_inlays r rest)
  inlay_out i rest p =
      let row = row_of r.text i.offset in
      let all = subst (Every (λ i. i.offset ≤ length r.text)) p.new_is inlays_within in
      let own = Every-right (λ i. i.offset ≤ length r.text) p.before (i ∷ p.behind) all in
      lines_kept (λ t. t) (λ p. p) pieces_stay r (with_inlays r rest) row row row
      (both (CountedInlays row) (sym p.new_is) (sym p.old_is) (inlay_removed p.before i p.behind r.folds r.text own.0 free))

  inlay_off : (id : ℕ) → KeepsLines (touched (RemoveInlay id) r) (λ p. p) r (operated (RemoveInlay id) r)
  inlay_off id = go (find (λ i. i.id == id) r.inlays) refl where
    go : (o : Option Inlay) → find (λ i. i.id == id) r.inlays ≡ o → KeepsLines (rows_of_inlay r.text o) (λ p. p) r (operated (RemoveInlay id) r)
    go None e =
        lines_kept-none r (operated (RemoveInlay id) r) (ap (λ (l : List Inlay). display_lines r.text l r.folds) (none_found (λ i. i.id == id) r.inlays e))
    go (Some i) e = inlay_out i (without_inlay id r.inlays) (found (λ i. i.id == id) r.inlays i (is.source.inlays.distinct id) e)

  -- ---- a fold more or less

  abbrev CountedFolds : ℕ → ℕ → List Fold → List Fold → Type 0
  CountedFolds first last old new = Counted is_break (λ t. t) (token_row r.text) (token_row r.text) first last last (folded r.text r.inlays old) (folded r.text r.inlays new)

  fold_in : (f : Fold) (new : List Fold) → f.start < f.end → f.end ≤ length r.text → PutIn f r.folds new →
      KeepsLines (rows_of r.text f.start f.end) (λ p. p) r (with_folds r new)
  fold_in f new some le p =
      let first = row_of r.text f.start in
      let last = row_of r.text f.end in
      let free' = subst (λ (l : List Fold). covered l (length r.text) ≡ false) p.old_is free in
      lines_kept (λ t. t) (λ p. p) pieces_stay r (with_folds r new) first last last
      (both (CountedFolds first last) (sym p.old_is) (sym p.new_is) (fold_added r.inlays p.before f p.behind r.text some le free'))

  fold_out : (f : Fold) (rest : List Fold) → PutIn f rest r.folds →
      KeepsLines (rows_of r.text f.start f.end) (λ p. p) r (with_folds r rest)
  fold_out f rest p =
      let first = row_of r.text f.start in
      let last = row_of r.text f.end in
      let P : Fold → Type 0 = λ f. (f.start < f.end) × (f.end ≤ length r.text) in
      let all = subst (Every P) p.new_is within in
      let own = Every-right P p.before (f ∷ p.behind) all in
      let others = Every-append P p.before p.behind (Every-left P p.before (f ∷ p.behind) all) own.1 in
      let free' = free_at_end (length r.text) (p.before ++ p.behind) (Every-mono P (λ f. f.end ≤ length r.text) (p.before ++ p.behind) (λ f h. h.1) others) in
      lines_kept (λ t. t) (λ p. p) pieces_stay r (with_folds r rest) first last last
      (both (CountedFolds first last) (sym p.new_is) (sym p.old_is) (fold_removed r.inlays p.before f p.behind r.text own.0.0 own.0.1 free'))

  fold_off : (id : ℕ) → KeepsLines (touched (RemoveFold id) r) (λ p. p) r (operated (RemoveFold id) r)
  fold_off id = go (find (λ f. f.id == id) r.folds) refl where
    go : (o : Option Fold) → find (λ f. f.id == id) r.folds ≡ o → KeepsLines (rows_of_fold r.text o) (λ p. p) r (operated (RemoveFold id) r)
    go None e =
        lines_kept-none r (operated (RemoveFold id) r) (ap (λ (l : List Fold). display_lines r.text r.inlays l) (none_found (λ f. f.id == id) r.folds e))
    go (Some f) e = fold_out f (without_fold id r.folds) (found (λ f. f.id == id) r.folds f (is.source.folds.distinct id) e)

  -- each operation that is allowed keeps the lines that it doesn't touch
  pub keeps_lines : (operation : Operation) → IsAllowed operation r → KeepsLines (touched operation r) (operated_piece operation) r (operated operation r)
  keeps_lines (Replace a b s) ok = replacement a b s ok.2 ok.1.0
  keeps_lines (AddInlay i) ok = inlay_in i (operated (AddInlay i) r).inlays ok.0.boundary.0 (put_in inlay_le i r.inlays)
  keeps_lines (RemoveInlay id) ok = inlay_off id
  keeps_lines (AddFold f) ok = fold_in f (operated (AddFold f) r).folds ok.0.some ok.0.end.0 (put_in fold_le f r.folds)
  keeps_lines (RemoveFold id) ok = fold_off id
  keeps_lines (AddBlock row id side lines) ok = lines_kept-none r (operated (AddBlock row id side lines) r) refl
  keeps_lines (RemoveBlock id) ok = lines_kept-none r (operated (RemoveBlock id) r) refl
  keeps_lines (SetTab tab) ok = lines_kept-each r (operated (SetTab tab) r) refl
  keeps_lines (SetWidth width) ok = lines_kept-none r (operated (SetWidth width) r) refl

  pub keeps_count : (operation : Operation) → IsAllowed operation r → KeepsCount (touched operation r) r (operated operation r)
  keeps_count operation ok =
      let k = keeps_lines operation ok in
      ap length k.pieces ∙ length-map (untouched (touched_before (touched operation r) r) (lines_of r)) (map (operated_piece operation))
