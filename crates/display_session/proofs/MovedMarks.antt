-- Marks over a batch of replacements, from the last to the first.
use Rattle.std.proofs.Common.{◌≡◌, ℕ, ◌+◌, ◌*◌, ◌<◌, ◌≤◌, ◌^◌, Bool, true, false, cond, not, ltb, zero, suc, List, [], ◌∷◌, ◌++◌, length, map, drop, slice_range, refl, sym, ap, ◌∙◌, subst, inl, inr, arith, length-append}
use Rattle.std.specs.Prelude.{Option, Some, None}
use mathlib.Core.Logic.{◌⊎◌}
use Rattle.std.specs.List.{All}
use Rattle.std.proofs.lemmas.Bool.{cases_lt, ltb-false}
use Rattle.cell_units.specs.declared.fault.Refusal.{Refusal}
use Rattle.cell_units.specs.declared.fault.Refusal.TheVariants.{BadRange, TooLong}
use Rattle.cell_units.specs.declared.limits.TheConstants.{TEXT_LIMIT}
use Rattle.cell_units.specs.declared.place.Bias.{Bias}
use Rattle.cell_units.specs.declared.place.Shift.{Shift}
use Rattle.cell_units.specs.Anchor.{move}
use Rattle.cell_units.specs.Record.{Record}
use Rattle.cell_units.specs.Sorting.{sort_by}
use Rattle.cell_units.specs.Text.{clean}
use Rattle.cell_units.proofs.CutLists.{Every}
use Rattle.cell_units.proofs.FoundEntries.{All-from_Every, Every-from_All}
use Rattle.cell_units.proofs.SortedLists.{Every-map, Every-sort}
use Rattle.mark_tree.specs.Marks.{mark_le, move_mark, moved_marks}
use Rattle.mark_tree.proofs.Moved.{move-before, move-behind, move-within}
use Rattle.display_sheet.specs.declared.change.Splice.{Splice}
use Rattle.display_sheet.specs.Changes.{are_ranges, batch, edit_refusal, is_operation, operated_all, replacement}
use Rattle.display_map.specs.Splicing.{spliced_text}
use Rattle.display_map.proofs.Batches.{AreOrdered, are_ordered, fold-batch-backwards, text_after_batch}
use Rattle.display_session.specs.HostMarks.{HostMark, marks_after, marks_moved, moved_mark}

-- ---- one replacement

move-le : (p : ℕ) (bias : Bias) (a b n : ℕ) → a ≤ b → move p bias a b n ≤ p + n
move-le p bias a b n ab = go (cases_lt p a) (cases_lt b p) where
  go : (p < a) ⊎ (a ≤ p) → (b < p) ⊎ (p ≤ b) → move p bias a b n ≤ p + n
  go (inl l) _ = omega (arith, move-before p bias a b n l)
  go (inr g) (inl l) = omega (arith, move-behind p bias a b n ab l)
  go (inr g) (inr h) = omega (arith, (move-within p bias a b n g h).1, g)

-- the marks are so far below twice the limit of a text
abbrev pub AreBelow : ℕ → List HostMark → Type 0
AreBelow room marks = All (λ m. m.offset + room ≤ 2 * TEXT_LIMIT) marks

module _ (s : Shift) (room : ℕ) (marks : List HostMark) (order : s.start ≤ s.end) (few : s.count ≤ room) (below : AreBelow room marks) where
  every : Every (λ m. m.offset + room ≤ 2 * TEXT_LIMIT) marks
  every = Every-from_All (λ (m : HostMark). m.offset + room ≤ 2 * TEXT_LIMIT) marks below

  pub moved-fits : room ≤ TEXT_LIMIT → All (λ m. m.offset < 2 ^ 32) (map (move_mark s) marks)
  moved-fits small =
      All-from_Every (λ (m : HostMark). m.offset < 2 ^ 32) (map (move_mark s) marks)
      (Every-map (move_mark s) (λ (m : HostMark). m.offset + room ≤ 2 * TEXT_LIMIT) (λ (m : HostMark). m.offset < 2 ^ 32)
      (λ m h. omega (arith, h, few, small, move-le m.offset m.bias s.start s.end s.count order)) marks every)

  pub moved-below : (left : ℕ) → left + s.count ≡ room → AreBelow left (moved_marks s marks)
  moved-below left is =
      All-from_Every (λ (m : HostMark). m.offset + left ≤ 2 * TEXT_LIMIT) (moved_marks s marks)
      (Every-sort mark_le (λ (m : HostMark). m.offset + left ≤ 2 * TEXT_LIMIT) (map (move_mark s) marks)
      (Every-map (move_mark s) (λ (m : HostMark). m.offset + room ≤ 2 * TEXT_LIMIT) (λ (m : HostMark). m.offset + left ≤ 2 * TEXT_LIMIT)
      (λ m h. omega (arith, h, is, move-le m.offset m.bias s.start s.end s.count order)) marks every))

pub moved-is : (s : Shift) (x : Splice) (marks : List HostMark) → s.start ≡ x.start → s.end ≡ x.end → s.count ≡ length (clean x.text) →
    moved_marks s marks ≡ marks_after marks (replacement x)
moved-is s x marks start end count = λ i. sort_by mark_le (map (moved_mark (start i) (end i) (count i)) marks)

-- ---- a batch

-- one splice more comes after those behind it
pub moved-cons : (marks : List HostMark) (x : Splice) (splices : List Splice) →
    marks_moved (batch (x ∷ splices)) marks ≡ cond (is_operation x) (marks_after (marks_moved (batch splices) marks) (replacement x)) (marks_moved (batch splices) marks)
moved-cons marks x splices =
    fold-batch-backwards marks_after marks (x ∷ splices)
    ∙ ap (λ (ms : List HostMark). cond (is_operation x) (marks_after ms (replacement x)) ms) (sym (fold-batch-backwards marks_after marks splices))

-- how many bytes the splices put in
abbrev pub inserted : List Splice → ℕ
inserted [] = 0
inserted (x ∷ splices) = length (clean x.text) + inserted splices

inserted-le : (text : List ℕ) (from : ℕ) (splices : List Splice) → inserted splices ≤ length (spliced_text text from splices)
inserted-le text from [] = omega arith
inserted-le text from (x ∷ splices) =
    omega (
      arith,
      inserted-le text x.end splices,
      length-append (slice_range text from x.start) (clean x.text ++ spliced_text text x.end splices),
      length-append (clean x.text) (spliced_text text x.end splices),
    )

inserted-drop : (n : ℕ) (splices : List Splice) → inserted (drop n splices) ≤ inserted splices
inserted-drop zero splices = omega arith
inserted-drop (suc n) [] = omega arith
inserted-drop (suc n) (x ∷ splices) = omega (arith, inserted-drop n splices)

abbrev AreForward : List Splice → Type 0
AreForward splices = Every (λ x. x.start ≤ x.end) splices

forward-drop : (n : ℕ) (splices : List Splice) → AreForward splices → AreForward (drop n splices)
forward-drop zero splices h = h
forward-drop (suc n) [] h = tt
forward-drop (suc n) (x ∷ splices) h = forward-drop n splices h.1

forward : (size from : ℕ) (splices : List Splice) → AreOrdered size from splices → AreForward splices
forward size from [] h = tt
forward size from (x ∷ splices) h = (h.1, forward size x.end splices h.2)

passed : (b : Bool) (refusal : Refusal) (rest : Option Refusal) → cond b (Some refusal) rest ≡ None → (b ≡ false) × (rest ≡ None)
passed true refusal rest e = absurd (cc e)
passed false refusal rest e = (refl, e)

ordered-of : (b : Bool) → not b ≡ false → b ≡ true
ordered-of true e = refl
ordered-of false e = absurd (cc e)

-- the splices of an edit that isn't refused put in no more than a text may have, and none is backwards
movable : (r : Record) (splices : List Splice) → edit_refusal r splices ≡ None → (inserted splices ≤ TEXT_LIMIT) × AreForward splices
movable r splices e =
    let long = length (operated_all (batch splices) r).text in
    let first = passed (not (are_ranges r.text 0 splices)) BadRange (cond (ltb TEXT_LIMIT long) (Some TooLong) None) e in
    let ok = ordered-of (are_ranges r.text 0 splices) first.0 in
    let second = passed (ltb TEXT_LIMIT long) TooLong None first.1 in (
      omega (arith, ltb-false TEXT_LIMIT long second.0, ap length (text_after_batch r splices ok), inserted-le r.text 0 splices),
      forward (length r.text) 0 splices (are_ordered r.text 0 splices (omega arith) ok),
    )

-- so none of them can't be done
pub none-stuck : (r : Record) (splices : List Splice) (n i : ℕ) (x : Splice) (room : ℕ) → edit_refusal r splices ≡ None → drop n splices ≡ x ∷ drop i splices →
    TEXT_LIMIT ≤ room + inserted (drop i splices) → (room < length (clean x.text)) ⊎ (x.end < x.start) → ⊥
none-stuck r splices n i x room e split left (inl long) =
    omega (arith, (movable r splices e).0, inserted-drop n splices, ap inserted split, left, long)
none-stuck r splices n i x room e split left (inr backward) =
    omega (arith, (subst AreForward split (forward-drop n splices (movable r splices e).1)).0, backward)
