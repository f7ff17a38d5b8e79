-- Each change gives both maps its operation.
use Rattle.std.proofs.Common.{◌≡◌, ◌==◌, ℕ, ◌+◌, ◌≤◌, ◌||◌, find, count_by, Bool, true, false, cond, List, [], ◌∷◌, length, Option, Some, None, refl, sym, ap, ◌∙◌, subst, arith}
use Rattle.std.specs.List.{Contains, list_any}
use Rattle.std.specs.Str.{IsUtf8}
use Rattle.cell_units.specs.declared.limits.TheConstants.{LAID_LIMIT}
use Rattle.cell_units.specs.declared.place.Shift.{Shift}
use Rattle.cell_units.specs.Lawful.{IsWellFormed}
use Rattle.cell_units.specs.Layers.{Source, plain_source}
use Rattle.cell_units.specs.Operation.{AddFold, AddInlay, RemoveFold, RemoveInlay, Replace, replaced_text}
use Rattle.cell_units.specs.Record.{Fold, Inlay}
use Rattle.cell_units.specs.Text.{IsText, clean}
use Rattle.cell_units.specs.Touched.{rows_of_fold, rows_of_inlay}
use Rattle.cell_units.proofs.PlainLayers.{plain_well_formed}
use Rattle.cell_units.proofs.SortedLists.{count-cons}
use Rattle.cell_units.proofs.TextLaws.{tells_boundaries}
use Rattle.text_rope.specs.Edits.{IsRange}
use Rattle.edit_patch.specs.Leads.{Reach, reach_of}
use Rattle.inlay_map.specs.Maps.{InlayState, add_refusal, added, removed}
use Rattle.inlay_map.proofs.MapStates as inlaying
use Rattle.fold_map.specs.Maps.{FoldState, folded_up, opened_up, state_of, with_fold, without}
use Rattle.fold_map.specs.Snapshots.{PlacesFit, fold_refusal}
use Rattle.fold_map.specs.Synced.{Follows}
use Rattle.fold_map.proofs.StateFolds as folding
use Rattle.folded_text.specs.Answered.{folds_without, inlays_without}
use Rattle.folded_text.specs.Shown.{put_at}
use Rattle.folded_text.proofs.AnsweredLines.{found-there}
use Rattle.folded_text.proofs.Texts.{places-fit}
use Rattle.layered_text.specs.Layered.{record_of}
use Rattle.layered_text.specs.inside.Kept.{AreRows, AreTold, inlays_of}

-- where some entry passes a test, the first one does that is found
pub record Finds {X : Type 0} (p : X → Bool) (xs : List X) : Type 0 where
  pub one : X
  pub is : find p xs ≡ Some one

pub finds : {X : Type 0} (p : X → Bool) (xs : List X) → list_any p xs ≡ true → Finds p xs
finds p [] e = absurd (cc)
finds p (x ∷ xs) e = go (p x) refl e (finds p xs) where
  go : (b : Bool) → p x ≡ b → (b || list_any p xs) ≡ true → (list_any p xs ≡ true → Finds p xs) → Finds p (x ∷ xs)
  go true h e rest = record { one = x; is = ap (λ (b : Bool). cond b (Some x) (find p xs)) h }
  go false h e rest = let r = rest e in record { one = r.one; is = ap (λ (b : Bool). cond b (Some x) (find p xs)) h ∙ r.is }

-- where none passes a test, none is counted
none-counted : {X : Type 0} (p : X → Bool) (xs : List X) → list_any p xs ≡ false → count_by p xs ≡ 0
none-counted p [] e = refl
none-counted p (x ∷ xs) e = go (p x) e (none-counted p xs) (count-cons p x xs) where
  go : (b : Bool) → (b || list_any p xs) ≡ false → (list_any p xs ≡ false → count_by p xs ≡ 0) → count_by p (x ∷ xs) ≡ cond b 1 0 + count_by p xs → count_by p (x ∷ xs) ≡ 0
  go true h rest sum = absurd (cc)
  go false h rest sum = omega (arith, sum, rest h)

module _ (s : Source) (inlays : InlayState) (folds : FoldState) where
  pub told-replaced : (a b : ℕ) (t rope : List ℕ) (shift : Shift) → IsRange s.text a b → IsUtf8 t → rope ≡ replaced_text s.text a b (clean t)
      → inlays ≡ inlays_of s → folds ≡ state_of s → reach_of shift ≡ put_at a b (clean t) → AreTold (Replace a b t) s rope inlays folds (Some shift)
  told-replaced a b t rope shift range utf8 text same same' put = record {
    allowed = (range.1, range.2, range.0, utf8);
    rows = tt;
    rope_is = text;
    inlays_are = same;
    folds_are = same';
    shift_is = ap (λ (r : Reach). Some r) put;
  }

  pub told-added : (i : Inlay) → IsText s.text → IsUtf8 i.text → add_refusal s i.id i.offset i.text ≡ None
      → inlays ≡ added i (inlays_of s) → folds ≡ state_of s → AreTold (AddInlay i) s s.text inlays folds None
  told-added i is utf8 none now same =
      let x = inlaying.accepted-is s i.id i.offset i.text none in
      record {
        allowed = (
          record { boundary = (tells_boundaries s.text is.0 i.offset).0 x.boundary; utf8 = utf8; some = x.some; short = x.short },
          record { fresh = inlaying.none-counted i.id s.inlays x.fresh; room = x.room },
        );
        rows = tt;
        rope_is = refl;
        inlays_are = now;
        folds_are = same;
        shift_is = refl;
      }

  pub told-removed : (id : ℕ) → list_any (λ i. i.id == id) s.inlays ≡ true
      → ((i : Inlay) → Contains s.inlays i → i.id ≡ id → inlays ≡ removed i (inlays_of s)) → folds ≡ state_of s
      → AreTold (RemoveInlay id) s s.text inlays folds None
  told-removed id any now same =
      let f = finds (λ (i : Inlay). i.id == id) s.inlays any in
      let there = found-there (λ (i : Inlay). i.id) id s.inlays f.one f.is in
      record {
        allowed = tt;
        rows = subst (λ (o : Option Inlay). AreRows (rows_of_inlay s.text o)) (sym f.is) tt;
        rope_is = refl;
        inlays_are = now f.one there.there there.same ∙ sym (ap (inlays_without (record_of s)) f.is);
        folds_are = same;
        shift_is = refl;
      }

  pub told-folded : (f : Fold) → IsWellFormed s → fold_refusal s f.id f.start f.end ≡ None
      → inlays ≡ inlays_of s → folds ≡ folded_up f (state_of s) → AreTold (AddFold f) s s.text inlays folds None
  told-folded f is none same now =
      let x = folding.accepted-is s f none in
      record {
        allowed = (folding.range-fits s f is x.range, record { fresh = none-counted (λ (g : Fold). g.id == f.id) s.folds x.fresh; room = x.room });
        rows = tt;
        rope_is = refl;
        inlays_are = same;
        folds_are = now;
        shift_is = refl;
      }

  pub told-opened : (id : ℕ) → list_any (λ f. f.id == id) s.folds ≡ true → inlays ≡ inlays_of s
      → ((f : Fold) → Contains s.folds f → f.id ≡ id → folds ≡ opened_up f (state_of s))
      → AreTold (RemoveFold id) s s.text inlays folds None
  told-opened id any same now =
      let f = finds (λ (f : Fold). f.id == id) s.folds any in
      let there = found-there (λ (f : Fold). f.id) id s.folds f.one f.is in
      record {
        allowed = tt;
        rows = subst (λ (o : Option Fold). AreRows (rows_of_fold s.text o)) (sym f.is) tt;
        rope_is = refl;
        inlays_are = same;
        folds_are = now f.one there.there there.same ∙ sym (ap (folds_without (record_of s)) f.is);
        shift_is = refl;
      }

-- ---- every place of what is shown is a u32

module _ (s : Source) (is : IsWellFormed s) (short : length s.text ≤ LAID_LIMIT) where
  pub fits-folded : (f : Fold) → fold_refusal s f.id f.start f.end ≡ None → PlacesFit (with_fold f s)
  fits-folded f none =
      places-fit (with_fold f s) (record { text = is.text; inlays = is.inlays; folds = folding.added-lawful s f is (folding.accepted-is s f none) }) short

  pub fits-opened : (id : ℕ) → PlacesFit (without id s)
  fits-opened id = places-fit (without id s) (record { text = is.text; inlays = is.inlays; folds = folding.removed-lawful s id is }) short

-- a text without inlays shows itself under no folds
pub plain-follows : (text : List ℕ) → IsText text → length text ≤ LAID_LIMIT → Follows (plain_source text) (plain_source text) None None
plain-follows text is short = record {
  bare = refl;
  text = refl;
  leads = refl;
  meets = tt;
  stand = tt;
  fits = places-fit (plain_source text) (plain_well_formed text is) short;
}
