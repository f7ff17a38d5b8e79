-- What operations reach: the rows of the text that they touch, between boundaries.
use Rattle.std.proofs.Common.{◌≡◌, ℕ, ◌+◌, ◌<◌, ◌==◌, suc, Bool, true, false, cond, List, [], ◌∷◌, find, get_or, length, refl, sym, ap, subst, arith}
use Rattle.std.specs.Prelude.{Option, None, Some}
use Rattle.std.specs.Option.{option_map}
use Rattle.std.proofs.lemmas.Option.{none-some, same_Some}
use Rattle.cell_units.specs.Lawful.{IsAllowed, IsFoldOf, IsInlayOf, IsLawful}
use Rattle.cell_units.specs.Operation.{AddFold, AddInlay, RemoveFold, RemoveInlay, Replace, replaced_text}
use Rattle.cell_units.specs.Record.{Fold, Inlay, Record}
use Rattle.cell_units.specs.Text.{clean}
use Rattle.cell_units.specs.Touched.{row_range, rows_of_fold, rows_of_inlay}
use Rattle.view_changes.specs.inside.Reaches.{TouchesRows}

-- one that is found is one of the list
found-in : {X : Type 0} (P : X → Type 0) (p : X → Bool) (xs : List X) (i : X) → ((k : ℕ) (d : X) → k < length xs → P (get_or xs k d)) → find p xs ≡ Some i → P i
found-in P p [] i h e = absurd (none-some i e)
found-in P p (x ∷ xs) i h e = go (p x) e (λ k. found-in P p xs i (λ k d lt. h (suc k) d (omega (arith, lt))) k) where
  go : (b : Bool) → cond b (Some x) (find p xs) ≡ Some i → (find p xs ≡ Some i → P i) → P i
  go true e rest = subst P (same_Some x i e) (h 0 x (omega arith))
  go false e rest = rest e

pub by-replacement : (r : Record) (a b : ℕ) (s : List ℕ) → IsAllowed (Replace a b s) r → TouchesRows (Replace a b s) r a b
by-replacement r a b s ok = record {
  after = row_range (replaced_text r.text a b (clean s)) a (a + length (clean s));
  rows = refl;
  start = ok.0;
  end = ok.1;
  order = ok.2;
}

pub by-inlay : (r : Record) (i : Inlay) → IsAllowed (AddInlay i) r → TouchesRows (AddInlay i) r i.offset i.offset
by-inlay r i ok = record { after = row_range r.text i.offset i.offset; rows = refl; start = ok.0.boundary; end = ok.0.boundary; order = omega arith }

pub by-fold : (r : Record) (f : Fold) → IsAllowed (AddFold f) r → TouchesRows (AddFold f) r f.start f.end
by-fold r f ok = record { after = row_range r.text f.start f.end; rows = refl; start = ok.0.start; end = ok.0.end; order = omega (arith, ok.0.some) }

pub by-old-inlay : (r : Record) → IsLawful r → (id offset : ℕ) → Some offset ≡ option_map (λ i. i.offset) (find (λ i. i.id == id) r.inlays) → TouchesRows (RemoveInlay id) r offset offset
by-old-inlay r is id offset e = go (find (λ i. i.id == id) r.inlays) refl e where
  go : (o : Option Inlay) → find (λ i. i.id == id) r.inlays ≡ o → Some offset ≡ option_map (λ i. i.offset) o → TouchesRows (RemoveInlay id) r offset offset
  go None found e = absurd (none-some offset (sym e))
  go (Some i) found e =
      let own : IsInlayOf r.text i = found-in (IsInlayOf r.text) (λ i. i.id == id) r.inlays i is.entries.source.inlays.each found in
      let same : i.offset ≡ offset = same_Some i.offset offset (sym e) in
      subst (λ (o : ℕ). TouchesRows (RemoveInlay id) r o o) same (record {
        after = row_range r.text i.offset i.offset;
        rows = ap (rows_of_inlay r.text) found;
        start = own.boundary;
        end = own.boundary;
        order = omega arith;
      })

pub by-old-fold : (r : Record) → IsLawful r → (id start end : ℕ) → ◌≡◌ {A = Option (ℕ × ℕ)} (Some (start, end)) (option_map (λ f. (f.start, f.end)) (find (λ f. f.id == id) r.folds)) → TouchesRows (RemoveFold id) r start end
by-old-fold r is id start end e = go (find (λ f. f.id == id) r.folds) refl e where
  go : (o : Option Fold) → find (λ f. f.id == id) r.folds ≡ o → ◌≡◌ {A = Option (ℕ × ℕ)} (Some (start, end)) (option_map (λ f. (f.start, f.end)) o) → TouchesRows (RemoveFold id) r start end
  go None found e = absurd (none-some (start, end) (sym e))
  go (Some f) found e =
      let own : IsFoldOf r.text f = found-in (IsFoldOf r.text) (λ f. f.id == id) r.folds f is.entries.source.folds.each found in
      let same : ◌≡◌ {A = ℕ × ℕ} (f.start, f.end) (start, end) = same_Some (f.start, f.end) (start, end) (sym e) in
      subst (λ (p : ℕ × ℕ). TouchesRows (RemoveFold id) r p.0 p.1) same (record {
        after = row_range r.text f.start f.end;
        rows = ap (rows_of_fold r.text) found;
        start = own.start;
        end = own.end;
        order = omega (arith, own.some);
      })
