-- What a replacement of a text leaves of its folds, and how much a text with inlays and folds shows.
use Rattle.std.proofs.Common.{◌≡◌, ℕ, ◌-◌, ◌≤◌, ltb, List, [], ◌∷◌, length, Option, Some, None, refl, sym, ap, ◌∙◌, subst, arith}
use Rattle.std.specs.Str.{IsUtf8}
use Rattle.std.proofs.lemmas.Bool.{ltb-true}
use Rattle.std.proofs.lemmas.List.Elements.{All-weaker}
use Rattle.cell_units.specs.declared.place.Bias.{Bias}
use Rattle.cell_units.specs.declared.place.Bias.TheVariants.{Left, Right}
use Rattle.cell_units.specs.Anchor.{move}
use Rattle.cell_units.specs.Folded.{folded_to}
use Rattle.cell_units.specs.Inlaid.{Byte}
use Rattle.cell_units.specs.Lawful.{AreFolds, AreInlays, IsFoldOf, IsWellFormed}
use Rattle.cell_units.specs.Layers.{Source}
use Rattle.cell_units.specs.Operation.{move_fold, moved_folds, replaced_text}
use Rattle.cell_units.specs.Record.{Fold, Inlay, fold_le}
use Rattle.cell_units.specs.Text.{IsBoundary, line_feed}
use Rattle.cell_units.proofs.Entries.{entries-moved_some}
use Rattle.cell_units.proofs.EntryOrders.{fold_total, fold_trans}
use Rattle.cell_units.proofs.MovedBoundaries.{boundary-moved}
use Rattle.cell_units.proofs.ShownText.{folded_is}
use Rattle.cell_units.proofs.Sources.{ends_open}
use Rattle.plain_rows.proofs.LawfulSources.{lawful_source}
use Rattle.plain_rows.proofs.ShownSizes.{folded-size, size, size-append}
use Rattle.text_rope.specs.Edits.{IsRange}
use Rattle.edit_patch.specs.Leads.{LeadsIfAny, Reach, unmoved}
use Rattle.inlay_map.specs.Maps as inlaid
use Rattle.inlay_map.proofs.ReplacedTexts.{IsTold, told, told-leads, told-stand}
use Rattle.fold_map.specs.Snapshots.{PlacesFit}
use Rattle.fold_map.specs.Synced.{StandAfter, folds_after}
use Rattle.folded_text.specs.Shown.{IsReplaced, IsReplacedIfAny, put_at}

-- ---- a replacement of the text

told-is : (old new : List ℕ) (s : Reach) (is : IsReplaced old new s) → IsTold old new is.put s
told-is old new s is = record { range = is.range; text = is.text; count = is.count }

-- it leads from the old text to the new one
pub replaced-leads : (old new : List ℕ) (r : Option Reach) → IsReplacedIfAny old new r → LeadsIfAny unmoved old new r
replaced-leads old new None is = is
replaced-leads old new (Some s) is = told-leads old new is.put s (told-is old new s is)

-- where the count is reckoned from the lengths of both texts, it is the replacement of the range by those bytes
pub put-is : (rope made put : List ℕ) (a b bytes after : ℕ) (r : Reach) → IsRange rope a b → made ≡ replaced_text rope a b put
    → bytes ≡ length rope → after ≡ length made → r.start ≡ a → r.end ≡ b → r.count ≡ after - (bytes - (b - a)) → r ≡ put_at a b put
put-is rope made put a b bytes after r range text was is start end count =
    let t = told rope made put a b bytes after r range text was is start end count in
    let counted : r.count ≡ length put = t.count in
    λ i. record { start = start i; end = end i; count = counted i }

-- and by that, those bytes took the place of the range
pub is-replaced : (old new put : List ℕ) (a b : ℕ) (r : Reach) → IsUtf8 put → IsRange old a b → new ≡ replaced_text old a b put → r ≡ put_at a b put
    → IsReplaced old new r
is-replaced old new put a b r utf8 range text is =
    subst (λ (p : List ℕ × Reach). IsReplaced old p.0 p.1) (λ i. (sym text i, sym is i))
    (record { put = put; utf8 = utf8; range = range; text = refl; count = refl })

-- inlays, moved by it, are at boundaries of the new text
pub inlays-stand : (old new : List ℕ) (r : Option Reach) → IsReplacedIfAny old new r → IsUtf8 old → (inlays : List Inlay) → AreInlays old inlays → inlaid.StandAfter new r inlays
inlays-stand old new None is utf8 inlays are = tt
inlays-stand old new (Some s) is utf8 inlays are = told-stand old new is.put s (told-is old new s is) utf8 is.utf8 inlays are

-- folds, moved by it, fit the new text
pub folds-moved : (old new : List ℕ) (r : Option Reach) → IsReplacedIfAny old new r → IsUtf8 old → (folds : List Fold) → AreFolds old folds → AreFolds new (folds_after r folds)
folds-moved old new None is utf8 folds are = subst (λ (t : List ℕ). AreFolds t folds) (sym is) are
folds-moved old new (Some s) is utf8 folds are =
    subst (λ (t : List ℕ). AreFolds t (moved_folds s.start s.end s.count folds)) (sym is.text)
    (subst (λ (n : ℕ). AreFolds made (moved_folds s.start s.end n folds)) (sym is.count) moved) where
      made : List ℕ
      made = replaced_text old s.start s.end is.put

      n : ℕ
      n = length is.put

      goes : (p : ℕ) (bias : Bias) → IsBoundary old p → IsBoundary made (move p bias s.start s.end n)
      goes p bias h = boundary-moved old s.start s.end is.put utf8 is.range.1 is.range.2 is.range.0 is.utf8 p bias h

      moved : AreFolds made (moved_folds s.start s.end n folds)
      moved =
          entries-moved_some fold_le fold_total fold_trans (λ f. f.id) (IsFoldOf old) (λ f. IsBoundary made f.start × IsBoundary made f.end) (IsFoldOf made) (move_fold s.start s.end n) (λ f. ltb f.start f.end) (λ f. refl)
          (λ f h. (goes f.start Right h.start, goes f.end Left h.end))
          (λ f h k. record { start = h.0; end = h.1; some = ltb-true f.start f.end k }) folds are

-- so they are at its boundaries
pub folds-stand : (text : List ℕ) (r : Option Reach) (folds : List Fold) → AreFolds text (folds_after r folds) → StandAfter text r folds
folds-stand text None folds are = tt
folds-stand text (Some s) folds are =
    All-weaker (IsFoldOf text) (λ f. IsBoundary text f.start × IsBoundary text f.end) (λ f h. (h.start, h.end)) (moved_folds s.start s.end s.count folds) are.each

-- ---- how much is shown

pub places-fit : (s : Source) → IsWellFormed s → length s.text ≤ 67108864 → PlacesFit s
places-fit s formed short =
    let n = length s.text in
    let shown = folded_to s.text s.inlays s.folds n Right in
    let whole = ap size (folded_is s (ends_open s formed)) ∙ size-append shown (Byte n line_feed ∷ []) in
    omega (arith, whole, folded-size s (lawful_source s formed short))
