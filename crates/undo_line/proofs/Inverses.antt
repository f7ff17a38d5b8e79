-- Laws of the inverse of a batch.
use Rattle.std.proofs.Common.{◌≡◌, ℕ, ◌-◌, ◌<◌, ◌≤◌, eqb, not, ◌&&◌, nat_lt, cond, Bool, true, false, List, [], ◌∷◌, ◌++◌, suc, length, map, reverse, drop, slice_range, refl, sym, ap, subst, ◌∙◌, inl, inr, arith, length-drop}
use Rattle.std.specs.Prelude.{Some, None}
use Rattle.std.specs.List.{filter}
use Rattle.std.specs.Str.{IsUtf8}
use Rattle.std.proofs.lemmas.Bool.{and_cases, and_left, and_right, eqb-false, ltb-false, ne_eqb, not-true, not_from_false}
use Rattle.std.proofs.lemmas.List.{length-map, length-reverse, length-take-le}
use Rattle.std.proofs.lemmas.Str.{IsUtf8-nil}
use Rattle.cell_units.specs.declared.limits.TheConstants.{TEXT_LIMIT}
use Rattle.cell_units.specs.declared.fault.Refusal.TheVariants.{BadRange, TooLong}
use Rattle.cell_units.specs.Operation.{Operation}
use Rattle.cell_units.specs.Record.{Record, opened}
use Rattle.cell_units.specs.Text.{IsBoundary, clean}
use Rattle.cell_units.proofs.CutLists.{Every}
use Rattle.cell_units.proofs.FoundEntries.{Every-from_All}
use Rattle.display_sheet.specs.declared.change.Splice.{Splice}
use Rattle.display_sheet.specs.Changes.{are_ranges, batch, edit_refusal, is_operation, operated_all, replacement}
use Rattle.display_map.specs.Splicing.{spliced_text}
use Rattle.display_map.proofs.Batches.{AreOrdered, are_ordered, ordered-le, text_after_batch}
use Rattle.display_map.proofs.EditRefusals.{accepted}
use Rattle.display_map.proofs.FittingBatches.{AreAtBoundaries, at_boundaries}
use Rattle.undo_line.specs.Inverse.{IsBatchOn, Leads, entries, entry, inverse, text_after}
use Rattle.undo_line.proofs.CleanLengths.{kept-some, length-clean}
use Rattle.undo_line.proofs.Operations.{Every-filter, batch-filter, filter-every, filtered_pass, ranges-filter}
use Rattle.undo_line.proofs.RoundTrips.{back_again, puts_again, ranges_again, spliced-utf8}

-- ---- why an edit is accepted

by_tests : (ordered long : Bool) → cond (not ordered) (Some BadRange) (cond long (Some TooLong) None) ≡ None → (ordered ≡ true) × (long ≡ false)
by_tests true false e = (refl, refl)
by_tests true true e = absurd (cc e)
by_tests false long e = absurd (cc e)

-- the ranges of an edit that isn't refused, and the length of the text after it
pub fits : (r : Record) (splices : List Splice) → edit_refusal r splices ≡ None →
    (are_ranges r.text 0 splices ≡ true) × (length (operated_all (batch splices) r).text ≤ TEXT_LIMIT)
fits r splices e =
    let tests = by_tests (are_ranges r.text 0 splices) (nat_lt TEXT_LIMIT (length (operated_all (batch splices) r).text)) e in
    (tests.0, ltb-false TEXT_LIMIT (length (operated_all (batch splices) r).text) tests.1)

pub short_after : (r : Record) (splices : List Splice) → edit_refusal r splices ≡ None → length (spliced_text r.text 0 splices) ≤ TEXT_LIMIT
short_after r splices e =
    let ok = fits r splices e in
    subst (λ (t : List ℕ). length t ≤ TEXT_LIMIT) (text_after_batch r splices ok.0) ok.1

-- the text after a batch, whatever else is in the record
pub text_after-is : (r : Record) (splices : List Splice) → are_ranges r.text 0 splices ≡ true → (operated_all (batch splices) r).text ≡ text_after r.text splices
text_after-is r splices ok = text_after_batch r splices ok ∙ sym (text_after_batch (opened r.text) splices ok)

module _ (r : Record) (splices : List Splice) (other : List ℕ) (h : Leads r.text splices other) where
  ok : (are_ranges r.text 0 splices ≡ true) × (length (text_after r.text splices) ≤ TEXT_LIMIT)
  ok = fits (opened r.text) splices h.accepted

  pub leads-accepted : edit_refusal r splices ≡ None
  leads-accepted = accepted r splices ok.0 (short_after (opened r.text) splices h.accepted)

  pub leads-done : (operated_all (batch splices) r).text ≡ other
  leads-done = text_after-is r splices ok.0 ∙ h.gives

-- ---- the entries of the inverse are operations

-- what was put in is something, or what was there was
entry-operation : (text : List ℕ) (before : List Splice) (s : Splice) → s.start ≤ s.end → s.end ≤ length text → is_operation s ≡ true → is_operation (entry text before s) ≡ true
entry-operation text before s forth within op = go s.text refl where
  go : (t : List ℕ) → s.text ≡ t → is_operation (entry text before s) ≡ true
  go [] e =
      let apart : eqb s.start s.end ≡ false = elim (and_cases (eqb s.start s.end) (eqb (length s.text) 0) (not-true (eqb s.start s.end && eqb (length s.text) 0) op)) [
        | inl off ↦ off
        | inr off ↦ absurd (eqb-false (length s.text) 0 off (ap length e))
      ] in
      let long : length (slice_range text s.start s.end) ≡ s.end - s.start = length-take-le (s.end - s.start) (drop s.start text) (omega (arith, length-drop s.start text, within)) in
      let some : eqb (length (slice_range text s.start s.end)) 0 ≡ false =
      ne_eqb (length (slice_range text s.start s.end)) 0 (λ z. eqb-false s.start s.end apart (omega (arith, z, long, forth))) in
      not_from_false _ (and_right (eqb (entry text before s).start (entry text before s).end) (eqb (length (slice_range text s.start s.end)) 0) some)
  go (b ∷ rest) e =
      let some : 0 < length (clean s.text) = omega (arith, ap (λ (t : List ℕ). length (clean t)) e, length-clean (b ∷ rest), kept-some b rest) in
      let apart : eqb (entry text before s).start (entry text before s).end ≡ false =
      ne_eqb (entry text before s).start (entry text before s).end (λ z. omega (arith, z, some)) in
      not_from_false _ (and_left (eqb (entry text before s).start (entry text before s).end) (eqb (length (slice_range text s.start s.end)) 0) apart)

are_operations : (text : List ℕ) (before : List Splice) (from : ℕ) (splices : List Splice) → AreOrdered (length text) from splices → Every (λ s. is_operation s ≡ true) splices →
    Every (λ s. is_operation s ≡ true) (entries text before splices)
are_operations text before from [] h each = tt
are_operations text before from (s ∷ splices) h each = (
  entry-operation text before s h.1 (ordered-le (length text) s.end splices h.2) each.0,
  are_operations text (before ++ s ∷ []) s.end splices h.2 each.1,
)

-- ---- what the inverse makes of the text after a batch

module _ (text : List ℕ) (splices : List Splice) (h : IsBatchOn text splices) where
  abbrev ops : List Splice
  ops = filter is_operation splices

  abbrev after : List ℕ
  after = text_after text splices

  ranges : are_ranges text 0 ops ≡ true
  ranges = ranges-filter text 0 splices h.ranges

  ordered : AreOrdered (length text) 0 ops
  ordered = are_ordered text 0 ops (omega arith) ranges

  boundaries : AreAtBoundaries text ops
  boundaries = at_boundaries text 0 ops h.is_text.0 ranges

  utf8 : Every (λ s. IsUtf8 s.text) ops
  utf8 = Every-filter (λ (s : Splice). IsUtf8 s.text) is_operation splices (Every-from_All (λ (s : Splice). IsUtf8 s.text) splices h.utf8)

  after-is : after ≡ spliced_text text 0 ops
  after-is = ap (λ (l : List Operation). (operated_all l (opened text)).text) (sym (batch-filter splices)) ∙ text_after_batch (opened text) ops ranges

  start : IsBoundary text 0
  start = (omega arith, IsUtf8-nil)

  after-utf8 : IsUtf8 after
  after-utf8 = subst IsUtf8 (sym after-is) (spliced-utf8 text h.is_text 0 ops start ordered boundaries utf8)

  again : spliced_text after 0 (inverse text splices) ≡ text
  again = back_again text h.is_text after [] [] 0 ops ordered after-is refl

  pub inverse-ranges : are_ranges after 0 (inverse text splices) ≡ true
  inverse-ranges = ranges_again text h.is_text after after-utf8 [] [] 0 ops ordered after-is refl IsUtf8-nil start boundaries utf8

  pub inverse-text : text_after after (inverse text splices) ≡ text
  inverse-text = text_after_batch (opened after) (inverse text splices) inverse-ranges ∙ again

  pub inverse-leads : length text ≤ TEXT_LIMIT → Leads after (inverse text splices) text
  inverse-leads short = record {
    accepted = accepted (opened after) (inverse text splices) inverse-ranges (subst (λ (t : List ℕ). length t ≤ TEXT_LIMIT) (sym again) short);
    gives = inverse-text;
  }

  pub inverse-holds : map (λ (s : Splice). slice_range after s.start s.end) (inverse text splices) ≡ map (λ (s : Splice). clean s.text) ops
  inverse-holds = puts_again text h.is_text after [] [] 0 ops ordered after-is refl

  pub inverse-operations : filter is_operation (inverse text splices) ≡ inverse text splices
  inverse-operations = filter-every is_operation (inverse text splices) (are_operations text [] 0 ops ordered (filtered_pass is_operation splices))

-- ---- entry by entry

pub entries-texts : (text : List ℕ) (before splices : List Splice) →
    map (λ (s : Splice). s.text) (entries text before splices) ≡ map (λ (s : Splice). slice_range text s.start s.end) splices
entries-texts text before [] = refl
entries-texts text before (s ∷ splices) = ap (λ (l : List (List ℕ)). slice_range text s.start s.end ∷ l) (entries-texts text (before ++ s ∷ []) splices)

length-entries : (text : List ℕ) (before splices : List Splice) → length (entries text before splices) ≡ length splices
length-entries text before [] = refl
length-entries text before (s ∷ splices) = ap (λ (n : ℕ). suc n) (length-entries text (before ++ s ∷ []) splices)

pub length-inverse : (text : List ℕ) (splices : List Splice) → length (inverse text splices) ≡ length (batch splices)
length-inverse text splices =
    let ops = filter is_operation splices in
    length-entries text [] ops ∙ sym (length-map (reverse ops) replacement ∙ length-reverse ops)
