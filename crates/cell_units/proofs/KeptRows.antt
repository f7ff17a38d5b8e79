-- Each operation keeps the display lines of the rows that it doesn't touch.
use Rattle.std.proofs.Common.{◌≡◌, ℕ, ◌+◌, ◌-◌, ◌<◌, ◌≤◌, List, ◌++◌, ◌∷◌, length, refl, sym, subst, arith}
use Rattle.std.specs.Prelude.{Option, Some, None, ◌==◌}
use Rattle.std.specs.List.{find}
use Rattle.cell_units.specs.declared.place.Bias.TheVariants.{Right}
use Rattle.cell_units.specs.Text.{clean}
use Rattle.cell_units.specs.Record.{Inlay, Fold, Record, inlay_le, fold_le}
use Rattle.cell_units.specs.Operation.{Operation, Replace, AddInlay, RemoveInlay, AddFold, RemoveFold, AddBlock, RemoveBlock, SetTab, SetWidth, operated, replaced_text, without_inlay, without_fold}
use Rattle.cell_units.specs.Touched.{NoLine, rows_of, rows_of_fold, rows_of_inlay, row_range, touched}
use Rattle.cell_units.specs.Lawful.{HasLawfulEntries, IsAllowed, IsFoldOf, IsInlayOf}
use Rattle.cell_units.specs.LineCounts.{KeepsRows, line_of_row_end, line_of_row_start, lines_of, operated_offset}
use Rattle.cell_units.proofs.CutLists.{Every, Every-mono, Every-right}
use Rattle.cell_units.proofs.Moves.{move_token, move-above, move-below}
use Rattle.cell_units.proofs.CountedLines.{SameAway, SameAway-replaced}
use Rattle.cell_units.proofs.AddedLines.{fold_in-away, fold_out-away, inlay_in-away, inlay_out-away}
use Rattle.cell_units.proofs.FoundEntries.{Every-from_All, PutIn, put_in, found, none_found}
use Rattle.cell_units.proofs.OperatedLines.{end_is_free, inlays_sorted}
use Rattle.cell_units.proofs.RowsAway.{spliced-replaced, spliced-same}
use Rattle.cell_units.proofs.LinesAway.{rows_kept}

-- a record in which the same is shown
module _ (r r' : Record) (text : r'.text ≡ r.text) (inlays : r'.inlays ≡ r.inlays) (folds : r'.folds ≡ r.folds) where
  same-start : (o : ℕ) → line_of_row_start r' o ≡ line_of_row_start r o
  same-start o = λ i. line_of_row_start (record r { text = text i; inlays = inlays i; folds = folds i }) o

  same-end : (o : ℕ) → line_of_row_end r' o ≡ line_of_row_end r o
  same-end o = λ i. line_of_row_end (record r { text = text i; inlays = inlays i; folds = folds i }) o

  same-count : length (lines_of r') ≡ length (lines_of r)
  same-count = λ i. length (lines_of (record r { text = text i; inlays = inlays i; folds = folds i }))

  kept-none : KeepsRows NoLine (λ o. o) r r'
  kept-none = record {
    before = λ o before. record { start = same-start o; end = same-end o };
    behind = λ o le behind. record { start = omega (arith, same-start o, same-count); end = omega (arith, same-end o, same-count) };
  }

module _ (r : Record) (is : HasLawfulEntries r) where
  -- the text stays, and the same is shown away from a range
  in_place : (inlays : List Inlay) (folds : List Fold) (a b : ℕ) → a ≤ b → b ≤ length r.text → SameAway (λ t. t) a b (b - a) r.inlays inlays r.folds folds →
      KeepsRows (rows_of r.text a b) (λ o. o) r (record r { inlays = inlays; folds = folds })
  in_place inlays folds a b ab bt away =
      rows_kept (λ t. t) (λ o. o) r (record r { inlays = inlays; folds = folds }) a b (b - a) (spliced-same r.text a b ab bt) away (end_is_free r is)
      (λ o lt. refl) (λ o lt. omega (arith, ab, lt)) (row_range r.text a b)

  replacement : (a b : ℕ) (s : List ℕ) → a ≤ b → b ≤ length r.text →
      KeepsRows (touched (Replace a b s) r) (operated_offset (Replace a b s)) r (operated (Replace a b s) r)
  replacement a b s ab bt =
      rows_kept (move_token a b (length (clean s))) (operated_offset (Replace a b s)) r (operated (Replace a b s) r) a b (length (clean s))
      (spliced-replaced r.text (clean s) a b ab bt)
      (SameAway-replaced a b (length (clean s)) r.inlays r.folds (inlays_sorted r is) ab)
      (end_is_free r is)
      (λ o lt. move-below o Right a b (length (clean s)) lt)
      (λ o lt. move-above o Right a b (length (clean s)) ab lt)
      (row_range (replaced_text r.text a b (clean s)) a (a + length (clean s)))

  -- ---- an inlay more or less

  abbrev Away : Inlay → List Inlay → List Inlay → Type 0
  Away i old new = SameAway (λ t. t) i.offset i.offset (i.offset - i.offset) old new r.folds r.folds

  inlay_in : (i : Inlay) (new : List Inlay) → i.offset ≤ length r.text → PutIn i r.inlays new →
      KeepsRows (rows_of r.text i.offset i.offset) (λ o. o) r (record r { inlays = new })
  inlay_in i new le p =
      in_place new r.folds i.offset i.offset (omega arith) le
      (subst (λ (l : List Inlay). Away i l new) (sym p.old_is) (subst (Away i (p.before ++ p.behind)) (sym p.new_is) (inlay_in-away p.before i p.behind r.folds)))

  inlay_out : (i : Inlay) (rest : List Inlay) → PutIn i rest r.inlays →
      KeepsRows (rows_of r.text i.offset i.offset) (λ o. o) r (record r { inlays = rest })
  inlay_out i rest p =
      let all = Every-mono (IsInlayOf r.text) (λ i. i.offset ≤ length r.text) r.inlays (λ i h. h.boundary.0) (Every-from_All (IsInlayOf r.text) r.inlays is.source.inlays.each) in
      let own = Every-right (λ i. i.offset ≤ length r.text) p.before (i ∷ p.behind) (subst (Every (λ i. i.offset ≤ length r.text)) p.new_is all) in
      in_place rest r.folds i.offset i.offset (omega arith) own.0
      (subst (λ (l : List Inlay). Away i l rest) (sym p.new_is) (subst (Away i (p.before ++ i ∷ p.behind)) (sym p.old_is) (inlay_out-away p.before i p.behind r.folds)))

  inlay_off : (id : ℕ) → KeepsRows (touched (RemoveInlay id) r) (λ o. o) r (operated (RemoveInlay id) r)
  inlay_off id = go (find (λ i. i.id == id) r.inlays) refl where
    go : (o : Option Inlay) → find (λ i. i.id == id) r.inlays ≡ o → KeepsRows (rows_of_inlay r.text o) (λ o. o) r (operated (RemoveInlay id) r)
    go None e = kept-none r (operated (RemoveInlay id) r) refl (none_found (λ i. i.id == id) r.inlays e) refl
    go (Some i) e = inlay_out i (without_inlay id r.inlays) (found (λ i. i.id == id) r.inlays i (is.source.inlays.distinct id) e)

  -- ---- a fold more or less

  abbrev AwayFrom : Fold → List Fold → List Fold → Type 0
  AwayFrom f old new = SameAway (λ t. t) f.start f.end (f.end - f.start) r.inlays r.inlays old new

  fold_in : (f : Fold) (new : List Fold) → f.start < f.end → f.end ≤ length r.text → PutIn f r.folds new →
      KeepsRows (rows_of r.text f.start f.end) (λ o. o) r (record r { folds = new })
  fold_in f new some le p =
      in_place r.inlays new f.start f.end (omega arith) le
      (subst (λ (l : List Fold). AwayFrom f l new) (sym p.old_is) (subst (AwayFrom f (p.before ++ p.behind)) (sym p.new_is) (fold_in-away r.inlays p.before f p.behind some)))

  fold_out : (f : Fold) (rest : List Fold) → PutIn f rest r.folds →
      KeepsRows (rows_of r.text f.start f.end) (λ o. o) r (record r { folds = rest })
  fold_out f rest p =
      let all = Every-from_All (IsFoldOf r.text) r.folds is.source.folds.each in
      let own = Every-right (IsFoldOf r.text) p.before (f ∷ p.behind) (subst (Every (IsFoldOf r.text)) p.new_is all) in
      let some = own.0.some in
      in_place r.inlays rest f.start f.end (omega (arith, some)) own.0.end.0
      (subst (λ (l : List Fold). AwayFrom f l rest) (sym p.new_is) (subst (AwayFrom f (p.before ++ f ∷ p.behind)) (sym p.old_is) (fold_out-away r.inlays p.before f p.behind some)))

  fold_off : (id : ℕ) → KeepsRows (touched (RemoveFold id) r) (λ o. o) r (operated (RemoveFold id) r)
  fold_off id = go (find (λ f. f.id == id) r.folds) refl where
    go : (o : Option Fold) → find (λ f. f.id == id) r.folds ≡ o → KeepsRows (rows_of_fold r.text o) (λ o. o) r (operated (RemoveFold id) r)
    go None e = kept-none r (operated (RemoveFold id) r) refl refl (none_found (λ f. f.id == id) r.folds e)
    go (Some f) e = fold_out f (without_fold id r.folds) (found (λ f. f.id == id) r.folds f (is.source.folds.distinct id) e)

  -- each operation that is allowed keeps the rows that it doesn't touch
  pub keeps_rows : (operation : Operation) → IsAllowed operation r → KeepsRows (touched operation r) (operated_offset operation) r (operated operation r)
  keeps_rows (Replace a b s) ok = replacement a b s ok.2 ok.1.0
  keeps_rows (AddInlay i) ok = inlay_in i (operated (AddInlay i) r).inlays ok.0.boundary.0 (put_in inlay_le i r.inlays)
  keeps_rows (RemoveInlay id) ok = inlay_off id
  keeps_rows (AddFold f) ok = fold_in f (operated (AddFold f) r).folds ok.0.some ok.0.end.0 (put_in fold_le f r.folds)
  keeps_rows (RemoveFold id) ok = fold_off id
  keeps_rows (AddBlock row id side lines) ok = kept-none r (operated (AddBlock row id side lines) r) refl refl refl
  keeps_rows (RemoveBlock id) ok = kept-none r (operated (RemoveBlock id) r) refl refl refl
  keeps_rows (SetTab tab) ok = record { before = λ o none. absurd none; behind = λ o le none. absurd none }
  keeps_rows (SetWidth width) ok = kept-none r (operated (SetWidth width) r) refl refl refl
