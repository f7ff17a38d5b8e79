-- The operations of an edit that is accepted fit, one after another.
use Rattle.std.proofs.Common.{◌≡◌, ℕ, ◌≤◌, leb, ◌&&◌, cond, not, Bool, true, false, List, [], ◌∷◌, ◌++◌, length, map, take, refl, sym, ap, ◌∙◌, subst, arith, length-append}
use Rattle.std.specs.Prelude.{Option, Some, None}
use Rattle.std.specs.List.{All}
use Rattle.std.specs.Str.{IsUtf8}
use Rattle.std.proofs.lemmas.Bool.{and_parts}
use Rattle.std.proofs.lemmas.List.{length-take-le, map-append, take-append-le, take-take}
use Rattle.cell_units.specs.Text.{IsBoundary, IsText, clean, is_boundary}
use Rattle.cell_units.proofs.CutLists.{Every}
use Rattle.cell_units.proofs.FoundEntries.{Every-from_All}
use Rattle.cell_units.proofs.TextLaws.{tells_boundaries}
use Rattle.cell_units.specs.Operation.{replaced_text}
use Rattle.display_sheet.specs.declared.change.Splice.{Splice}
use Rattle.display_sheet.specs.Changes.{replacement}
use Rattle.cell_units.specs.declared.fault.Refusal.{Refusal}
use Rattle.cell_units.specs.declared.fault.Refusal.TheVariants.{BadRange}
use Rattle.display_map.specs.Events.{Event, Did}
use Rattle.display_sheet.specs.Changes.{is_operation, batch, are_ranges, edit_refusal}
use Rattle.display_sheet.specs.LineStep.{line_step}
use Rattle.display_map.specs.Replay.{State, happens, replayed}
use Rattle.display_map.specs.LawfulStates.{EventsFit}
use Rattle.display_map.specs.Splicing.{spliced_text}
use Rattle.display_map.proofs.Batches.{AreOrdered, are_ordered, backwards, backwards-text, batch-cons, does, ordered-le, replayed-batch}
use Rattle.display_map.proofs.Replays.{replayed-cons, replayed-none}

pub EventsFit-append : (s : State) (xs ys : List Event) → EventsFit s xs → EventsFit (replayed s xs) ys → EventsFit s (xs ++ ys)
EventsFit-append s [] ys a b = subst (λ (t : State). EventsFit t ys) (replayed-none s) b
EventsFit-append s (x ∷ xs) ys a b = (a.0, EventsFit-append (happens s x) xs ys a.1 (subst (λ (t : State). EventsFit t ys) (replayed-cons s x xs) b))

-- the text after the splices, from the last to the first
text_does : (t : State) (x : Splice) → (does t x).present.text ≡ replaced_text t.present.text x.start x.end (clean x.text)
unfolding line_step
text_does t x = refl

pub texts : (s : State) (splices : List Splice) →
    (backwards does s splices).present.text ≡ backwards (λ t x. replaced_text t x.start x.end (clean x.text)) s.present.text splices
texts s [] = refl
texts s (x ∷ splices) = go (is_operation x) (texts s splices) where
  go : (b : Bool) → (backwards does s splices).present.text ≡ backwards (λ t x. replaced_text t x.start x.end (clean x.text)) s.present.text splices →
      (cond b (does (backwards does s splices) x) (backwards does s splices)).present.text
      ≡ cond b (replaced_text (backwards (λ t x. replaced_text t x.start x.end (clean x.text)) s.present.text splices) x.start x.end (clean x.text))
      (backwards (λ t x. replaced_text t x.start x.end (clean x.text)) s.present.text splices)
  go true e = text_does (backwards does s splices) x ∙ ap (λ (t : List ℕ). replaced_text t x.start x.end (clean x.text)) e
  go false e = e

abbrev pub AreAtBoundaries : List ℕ → List Splice → Type 0
AreAtBoundaries text splices = Every (λ x. IsBoundary text x.start × IsBoundary text x.end) splices

pub at_boundaries : (text : List ℕ) (from : ℕ) (splices : List Splice) → IsUtf8 text → are_ranges text from splices ≡ true → AreAtBoundaries text splices
at_boundaries text from [] utf8 h = tt
at_boundaries text from (x ∷ splices) utf8 h =
    let rest = are_ranges text x.end splices in
    let all = and_parts (leb from x.start && leb x.start x.end && is_boundary text x.start && is_boundary text x.end) rest h in
    let three = and_parts (leb from x.start && leb x.start x.end && is_boundary text x.start) (is_boundary text x.end) all.0 in
    let two = and_parts (leb from x.start && leb x.start x.end) (is_boundary text x.start) three.0 in
    (((tells_boundaries text utf8 x.start).0 two.1, (tells_boundaries text utf8 x.end).0 three.1), at_boundaries text x.end splices utf8 all.1)

-- a boundary before the splices is one of the text after them
pub boundary_before : (s : State) (from p : ℕ) (splices : List Splice) → AreOrdered (length s.present.text) from splices → p ≤ from → IsBoundary s.present.text p →
    IsBoundary (replayed s (map Did (batch splices))).present.text p
boundary_before s from p splices h le at =
    let text = s.present.text in
    let tail = spliced_text text from splices in
    let within = ordered-le (length text) from splices h in
    let long = length-take-le from text within in
    let is : (replayed s (map Did (batch splices))).present.text ≡ take from text ++ tail =
    ap (λ (t : State). t.present.text) (replayed-batch s splices) ∙ texts s splices ∙ backwards-text text from splices h in
    let front : take p (take from text ++ tail) ≡ take p text = take-append-le p (take from text) tail (omega (arith, long, le)) ∙ take-take p from text le in
    subst (λ (t : List ℕ). IsBoundary t p) (sym is)
    (omega (arith, le, long, length-append (take from text) tail), subst IsUtf8 (sym front) at.1)

fit_all : (s : State) (from : ℕ) (splices : List Splice) → AreOrdered (length s.present.text) from splices → AreAtBoundaries s.present.text splices → Every (λ x. IsUtf8 x.text) splices →
    EventsFit s (map Did (batch splices))
fit_all s from [] h at utf8 = tt
fit_all s from (x ∷ splices) h at utf8 =
    subst (EventsFit s) (sym (ap (map Did) (batch-cons x splices) ∙ map-append Did (batch splices) (cond (is_operation x) (replacement x ∷ []) [])))
    (EventsFit-append s (map Did (batch splices)) (map (λ op. Did op) (cond (is_operation x) (replacement x ∷ []) [])) (fit_all s x.end splices h.2 at.1 utf8.1) (go (is_operation x))) where
      go : (b : Bool) → EventsFit (replayed s (map Did (batch splices))) (map (λ op. Did op) (cond b (replacement x ∷ []) []))
      go true = ((boundary_before s x.end x.start splices h.2 h.1 at.0.0, boundary_before s x.end x.end splices h.2 (omega arith) at.0.1, h.1, utf8.0), tt)
      go false = tt

ranges_of : (r : Option Refusal) (b : Bool) → cond (not b) (Some BadRange) r ≡ None → b ≡ true
ranges_of r true e = refl
ranges_of r false e = absurd (cc e)

-- the operations of an edit that is not refused are allowed
pub fitting_edit : (s : State) (splices : List Splice) → IsText s.present.text → All (λ x. IsUtf8 x.text) splices → edit_refusal s.present splices ≡ None → EventsFit s (map Did (batch splices))
fitting_edit s splices is utf8 e =
    let text = s.present.text in
    let ok = ranges_of _ (are_ranges text 0 splices) e in
    fit_all s 0 splices (are_ordered text 0 splices (omega arith) ok) (at_boundaries text 0 splices is.0 ok) (Every-from_All (λ (x : Splice). IsUtf8 x.text) splices utf8)
