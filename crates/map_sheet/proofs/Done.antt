-- What comes of an operation on the text, its inlays and its folds.
use Rattle.std.proofs.Common.{◌≡◌, ◌≤◌, ℕ, List, [], ◌∷◌, not, length, inl, refl, sym, ap, subst, ◌∙◌}
use Rattle.std.specs.Prelude.{◌==◌, Option, None, Some}
use Rattle.std.specs.List.{list_any}
use Rattle.std.specs.Str.{IsUtf8}
use Rattle.cell_units.specs.declared.fault.Fault.{Fault}
use Rattle.cell_units.specs.declared.fault.Refusal.{Refusal}
use Rattle.cell_units.specs.declared.fault.Refusal.TheVariants.{UnknownId}
use Rattle.cell_units.specs.declared.limits.TheConstants.{LAID_LIMIT}
use Rattle.cell_units.specs.declared.place.Bias.{Bias}
use Rattle.cell_units.specs.declared.place.Shift.{Shift}
use Rattle.cell_units.specs.Lawful.{IsAllowed, IsLawful, source_of}
use Rattle.cell_units.specs.Layers.{Source}
use Rattle.cell_units.specs.Operation.{AddFold, AddInlay, Operation, RemoveFold, RemoveInlay, Replace, operated, replaced_text}
use Rattle.cell_units.specs.Record.{Record}
use Rattle.cell_units.specs.Text.{clean}
use Rattle.text_rope.specs.Edits.{IsRange}
use Rattle.edit_patch.specs.Leads.{Reach, reach_of}
use Rattle.inlay_map.specs.Maps as inlaid
use Rattle.fold_map.specs.Maps as folded
use Rattle.fold_map.specs.Snapshots as folds
use Rattle.folded_text.specs.Shown.{put_at}
use Rattle.display_sheet.specs.Changes.{first_of, fold_of, fold_refusal, inlay_of, inlay_refusal}
use Rattle.display_sheet.specs.Faults.{IsRefusedAs}
use Rattle.display_sheet.proofs.Refused.{fold-allowed, inlay-allowed}
use Rattle.layered_text.specs.Layered.{IsChanged}
use Rattle.map_sheet.specs.Changes.{IsTurned}
use Rattle.map_sheet.proofs.Refusals.{fold-same, unknown-same}

-- a refusal of the maps is the display's
inlay-owed : (owed : Option Refusal) (fault : Fault) → inlaid.IsOwed owed fault → IsRefusedAs owed fault
inlay-owed None fault is = subst (IsRefusedAs None) (sym is) (inl refl)
inlay-owed (Some refusal) fault is = subst (IsRefusedAs (Some refusal)) (sym is) refl

fold-owed : (owed : Option Refusal) (fault : Fault) → folded.IsOwed owed fault → IsRefusedAs owed fault
fold-owed None fault is = subst (IsRefusedAs None) (sym is) (inl refl)
fold-owed (Some refusal) fault is = subst (IsRefusedAs (Some refusal)) (sym is) refl

module _ (r : Record) (is : IsLawful r) (small : length r.text ≤ LAID_LIMIT) (old : Source) (same : old ≡ source_of r) where
  -- the change of a text, seen as the source of the record
  at-source : (operation : Operation) (source : Source) (shown : Shift) → IsChanged operation old source shown → IsChanged operation (source_of r) source shown
  at-source operation source shown changed = subst (λ (s : Source). IsChanged operation s source shown) same changed

  -- ---- inlays

  module _ (id offset : ℕ) (bias : Bias) (text : List ℕ) where
    inlay-same : inlaid.add_refusal old id offset text ≡ inlay_refusal r (inlay_of id offset bias text)
    inlay-same = ap (λ (s : Source). inlaid.add_refusal s id offset text) same

    pub inlay-accepted : inlaid.add_refusal old id offset text ≡ None → inlay_refusal r (inlay_of id offset bias text) ≡ None
    inlay-accepted none = sym inlay-same ∙ none

    pub inlay-refused : (fault : Fault) → inlaid.IsOwed (inlaid.add_refusal old id offset text) fault → IsRefusedAs (inlay_refusal r (inlay_of id offset bias text)) fault
    inlay-refused fault owed = inlay-owed (inlay_refusal r (inlay_of id offset bias text)) fault (subst (λ (o : Option Refusal). inlaid.IsOwed o fault) inlay-same owed)

    pub inlay-turned : IsUtf8 text → inlaid.add_refusal old id offset text ≡ None → (source : Source) (shown : Shift) →
        IsChanged (AddInlay (inlay_of id offset bias text)) old source shown → IsTurned (AddInlay (inlay_of id offset bias text)) r source shown None
    inlay-turned utf8 none source shown changed = record {
      changes = tt;
      allowed = inlay-allowed r (inlay_of id offset bias text) is.entries.source.text.0 utf8 (inlay-accepted none);
      short = small;
      shift_is = tt;
      changed = at-source (AddInlay (inlay_of id offset bias text)) source shown changed;
    }

  module _ (id : ℕ) where
    gone-inlay : inlaid.remove_refusal old id ≡ first_of ((not (list_any (λ i. i.id == id) r.inlays), UnknownId) ∷ [])
    gone-inlay = ap (λ (s : Source). inlaid.remove_refusal s id) same ∙ unknown-same (list_any (λ i. i.id == id) r.inlays)

    pub uninlay-accepted : inlaid.remove_refusal old id ≡ None → first_of ((not (list_any (λ i. i.id == id) r.inlays), UnknownId) ∷ []) ≡ None
    uninlay-accepted none = sym gone-inlay ∙ none

    pub uninlay-refused : (fault : Fault) → inlaid.IsOwed (inlaid.remove_refusal old id) fault →
        IsRefusedAs (first_of ((not (list_any (λ i. i.id == id) r.inlays), UnknownId) ∷ [])) fault
    uninlay-refused fault owed = inlay-owed (first_of ((not (list_any (λ i. i.id == id) r.inlays), UnknownId) ∷ [])) fault (subst (λ (o : Option Refusal). inlaid.IsOwed o fault) gone-inlay owed)

    pub uninlay-turned : (source : Source) (shown : Shift) → IsChanged (RemoveInlay id) old source shown → IsTurned (RemoveInlay id) r source shown None
    uninlay-turned source shown changed = record {
      changes = tt;
      allowed = tt;
      short = small;
      shift_is = tt;
      changed = at-source (RemoveInlay id) source shown changed;
    }

  -- ---- folds

  module _ (id start end : ℕ) where
    same-fold : folds.fold_refusal old id start end ≡ fold_refusal r (fold_of id start end)
    same-fold = ap (λ (s : Source). folds.fold_refusal s id start end) same ∙ fold-same r id start end

    pub fold-accepted : folds.fold_refusal old id start end ≡ None → fold_refusal r (fold_of id start end) ≡ None
    fold-accepted none = sym same-fold ∙ none

    pub fold-refused : (fault : Fault) → folded.IsOwed (folds.fold_refusal old id start end) fault → IsRefusedAs (fold_refusal r (fold_of id start end)) fault
    fold-refused fault owed = fold-owed (fold_refusal r (fold_of id start end)) fault (subst (λ (o : Option Refusal). folded.IsOwed o fault) same-fold owed)

    pub fold-turned : folds.fold_refusal old id start end ≡ None → (source : Source) (shown : Shift) →
        IsChanged (AddFold (fold_of id start end)) old source shown → IsTurned (AddFold (fold_of id start end)) r source shown None
    fold-turned none source shown changed = record {
      changes = tt;
      allowed = fold-allowed r (fold_of id start end) is.entries.source.text.0 (fold-accepted none);
      short = small;
      shift_is = tt;
      changed = at-source (AddFold (fold_of id start end)) source shown changed;
    }

  module _ (id : ℕ) where
    gone-fold : folds.unfold_refusal old id ≡ first_of ((not (list_any (λ f. f.id == id) r.folds), UnknownId) ∷ [])
    gone-fold = ap (λ (s : Source). folds.unfold_refusal s id) same ∙ unknown-same (list_any (λ f. f.id == id) r.folds)

    pub unfold-accepted : folds.unfold_refusal old id ≡ None → first_of ((not (list_any (λ f. f.id == id) r.folds), UnknownId) ∷ []) ≡ None
    unfold-accepted none = sym gone-fold ∙ none

    pub unfold-refused : (fault : Fault) → folded.IsOwed (folds.unfold_refusal old id) fault →
        IsRefusedAs (first_of ((not (list_any (λ f. f.id == id) r.folds), UnknownId) ∷ [])) fault
    unfold-refused fault owed = fold-owed (first_of ((not (list_any (λ f. f.id == id) r.folds), UnknownId) ∷ [])) fault (subst (λ (o : Option Refusal). folded.IsOwed o fault) gone-fold owed)

    pub unfold-turned : (source : Source) (shown : Shift) → IsChanged (RemoveFold id) old source shown → IsTurned (RemoveFold id) r source shown None
    unfold-turned source shown changed = record {
      changes = tt;
      allowed = tt;
      short = small;
      shift_is = tt;
      changed = at-source (RemoveFold id) source shown changed;
    }

-- ---- a replacement

module _ (r : Record) (old : Source) (same : old ≡ source_of r) (a b : ℕ) (s : List ℕ) where
  pub splice-range : IsAllowed (Replace a b s) r → IsRange old.text a b
  splice-range allowed = subst (λ (x : Source). IsRange x.text a b) (sym same) (allowed.2, allowed.0, allowed.1)

  module _ (put : List ℕ) (put_is : put ≡ s) where
    pub splice-fits : length (operated (Replace a b s) r).text ≤ LAID_LIMIT → length (replaced_text old.text a b (clean put)) ≤ LAID_LIMIT
    splice-fits fits =
        subst (λ (x : Source). length (replaced_text x.text a b (clean put)) ≤ LAID_LIMIT) (sym same)
        (subst (λ (t : List ℕ). length (replaced_text r.text a b (clean t)) ≤ LAID_LIMIT) (sym put_is) fits)

    pub splice-turned : IsAllowed (Replace a b s) r → length (operated (Replace a b s) r).text ≤ LAID_LIMIT → (source : Source) (shown shift : Shift) →
        IsChanged (Replace a b put) old source shown → reach_of shift ≡ put_at a b (clean put) → IsTurned (Replace a b s) r source shown (Some shift)
    splice-turned allowed fits source shown shift changed at = record {
      changes = tt;
      allowed = allowed;
      short = fits;
      shift_is = (
        ap (λ (x : Reach). x.start) at,
        ap (λ (x : Reach). x.end) at,
        ap (λ (x : Reach). x.count) at ∙ ap (λ (t : List ℕ). length (clean t)) put_is,
      );
      changed =
          subst (λ (t : List ℕ). IsChanged (Replace a b t) (source_of r) source shown) put_is
          (subst (λ (x : Source). IsChanged (Replace a b put) x source shown) same changed);
    }
