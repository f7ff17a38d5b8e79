-- What a replacement of a text owes to the map over it.
use Rattle.std.proofs.Common.{◌≡◌, ℕ, ◌+◌, ◌-◌, List, ◌++◌, length, take, drop, refl, sym, ap, ◌∙◌, subst, append_assoc, length-append, arith}
use Rattle.std.specs.List.{All}
use Rattle.std.specs.Str.{IsUtf8}
use Rattle.std.proofs.lemmas.List.{length-drop, length-take-le, take_at, drop_at}
use Rattle.cell_units.specs.Lawful.{AreInlays, IsInlayOf}
use Rattle.cell_units.specs.Operation.{move_inlay, moved_inlays, replaced_text}
use Rattle.cell_units.specs.Record.{Inlay, inlay_le}
use Rattle.cell_units.specs.Text.{IsBoundary}
use Rattle.cell_units.proofs.Entries.{entries-moved}
use Rattle.cell_units.proofs.EntryOrders.{inlay_total, inlay_trans}
use Rattle.cell_units.proofs.MovedBoundaries.{boundary-moved}
use Rattle.text_rope.specs.Edits.{IsRange}
use Rattle.edit_patch.specs.Leads.{Leads, Reach, unmoved}

-- s took the place of [a, b) of the text
module _ (text s : List ℕ) (a b : ℕ) (range : IsRange text a b) where
  abbrev made : List ℕ
  made = replaced_text text a b s

  front : length (take a text) ≡ a
  front = length-take-le a text range.1.0

  start : length (take a text ++ s) ≡ a + length s
  start = length-append (take a text) s ∙ ap (λ k. k + length s) front

  shape : made ≡ (take a text ++ s) ++ drop b text
  shape = sym (append_assoc (take a text) s (drop b text))

  length-made : length made ≡ a + length s + (length text - b)
  length-made =
      ap (λ (l : List ℕ). length l) shape
      ∙ length-append (take a text ++ s) (drop b text)
      ∙ (λ i. start i + length-drop b text i)

  -- the length of the new text gives how much was put in
  pub length-put : length made - (length text - (b - a)) ≡ length s
  length-put = omega (arith, length-made, range.0, range.2.0)

  put-leads : (n : ℕ) → n ≡ length s → Leads unmoved text made (record { start = a; end = b; count = n })
  put-leads n e = record {
    within = range.2.0;
    reaches = omega (arith, e, length-made);
    before = take_at (take a text) (s ++ drop b text) a front;
    behind =
        ap (λ k. drop (a + k) made) e
        ∙ ap (λ (l : List ℕ). drop (a + length s) l) shape
        ∙ drop_at (take a text ++ s) (drop b text) (a + length s) start;
  }

  -- inlays that are at boundaries are at boundaries again
  put-stand : IsUtf8 text → IsUtf8 s → (n : ℕ) → n ≡ length s → (inlays : List Inlay) → AreInlays text inlays
      → All (λ i. IsBoundary made i.offset) (moved_inlays a b n inlays)
  put-stand utf8 spelled n e inlays are =
      subst (λ k. All (λ i. IsBoundary made i.offset) (moved_inlays a b k inlays)) (sym e)
      (entries-moved inlay_le inlay_total inlay_trans (λ i. i.id) (IsInlayOf text) (λ i. IsBoundary made i.offset) (move_inlay a b (length s)) (λ i. refl)
      (λ i h. boundary-moved text a b s utf8 range.1 range.2 range.0 spelled i.offset i.bias h.boundary) inlays are).each

-- A replacement by its numbers, by which s took the place of a range of the old text.
pub record IsTold (old new s : List ℕ) (r : Reach) : Type 0 where
  pub range : IsRange old r.start r.end
  pub text : new ≡ replaced_text old r.start r.end s
  pub count : r.count ≡ length s

-- it leads from the old text to the new one
pub told-leads : (old new s : List ℕ) (r : Reach) → IsTold old new s r → Leads unmoved old new r
told-leads old new s r is =
    subst (λ (t : List ℕ). Leads unmoved old t r) (sym is.text) (put-leads old s r.start r.end is.range r.count is.count)

-- the inlays, moved by it, are at boundaries of the new text
pub told-stand : (old new s : List ℕ) (r : Reach) → IsTold old new s r → IsUtf8 old → IsUtf8 s
    → (inlays : List Inlay) → AreInlays old inlays → All (λ i. IsBoundary new i.offset) (moved_inlays r.start r.end r.count inlays)
told-stand old new s r is utf8 spelled inlays are =
    subst (λ (t : List ℕ). All (λ i. IsBoundary t i.offset) (moved_inlays r.start r.end r.count inlays)) (sym is.text)
    (put-stand old s r.start r.end is.range utf8 spelled r.count is.count inlays are)

reach-is : (a b : ℕ) (r : Reach) → r.start ≡ a → r.end ≡ b → record { start = a; end = b; count = r.count } ≡ r
reach-is a b r start end = λ i. record { start = sym start i; end = sym end i; count = r.count }

-- What is said of it where the count is reckoned from the lengths of both texts.
pub told : (old new s : List ℕ) (a b bytes after : ℕ) (r : Reach) → IsRange old a b → new ≡ replaced_text old a b s
    → bytes ≡ length old → after ≡ length new → r.start ≡ a → r.end ≡ b → r.count ≡ after - (bytes - (b - a)) → IsTold old new s r
told old new s a b bytes after r range text was is start end count =
    subst (λ (q : Reach). IsTold old new s q) (reach-is a b r start end)
    (record {
      range = range;
      text = text;
      count = count ∙ (λ i. (is ∙ ap (λ (t : List ℕ). length t) text) i - (was i - (b - a))) ∙ length-put old s a b range;
    })
