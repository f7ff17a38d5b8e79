-- Why a batch is refused, by the text that one pass leaves.
use Rattle.std.proofs.Common.{◌≡◌, ℕ, ◌<◌, ◌≤◌, not, nat_lt, cond, Bool, true, List, length, Option, Some, None, ap, ◌∙◌}
use Rattle.std.proofs.lemmas.Bool.{lt-ltb, le-ltb}
use Rattle.cell_units.specs.declared.limits.TheConstants.{TEXT_LIMIT}
use Rattle.cell_units.specs.declared.fault.Refusal.{Refusal}
use Rattle.cell_units.specs.declared.fault.Refusal.TheVariants.{BadRange, TooLong}
use Rattle.cell_units.specs.Record.{Record}
use Rattle.display_sheet.specs.declared.change.Splice.{Splice}
use Rattle.display_sheet.specs.Changes.{batch, operated_all, are_ranges, edit_refusal}
use Rattle.display_map.specs.Splicing.{spliced_text}
use Rattle.display_map.proofs.Batches.{text_after_batch}

-- by whether the ranges are in order, and by the length
abbrev refusal : Bool → ℕ → Option Refusal
refusal ordered long = cond (not ordered) (Some BadRange) (cond (nat_lt TEXT_LIMIT long) (Some TooLong) None)

by_length : (r : Record) (splices : List Splice) → are_ranges r.text 0 splices ≡ true →
    edit_refusal r splices ≡ cond (nat_lt TEXT_LIMIT (length (spliced_text r.text 0 splices))) (Some TooLong) None
by_length r splices ok =
    ap (λ (b : Bool). refusal b (length (operated_all (batch splices) r).text)) ok
    ∙ ap (λ (text : List ℕ). refusal true (length text)) (text_after_batch r splices ok)

pub refused_length : (r : Record) (splices : List Splice) → are_ranges r.text 0 splices ≡ true → TEXT_LIMIT < length (spliced_text r.text 0 splices) →
    edit_refusal r splices ≡ Some TooLong
refused_length r splices ok long =
    by_length r splices ok ∙ ap (λ (b : Bool). cond b (Some TooLong) None) (lt-ltb TEXT_LIMIT (length (spliced_text r.text 0 splices)) long)

pub accepted : (r : Record) (splices : List Splice) → are_ranges r.text 0 splices ≡ true → length (spliced_text r.text 0 splices) ≤ TEXT_LIMIT →
    edit_refusal r splices ≡ None
accepted r splices ok short =
    by_length r splices ok ∙ ap (λ (b : Bool). cond b (Some TooLong) None) (le-ltb TEXT_LIMIT (length (spliced_text r.text 0 splices)) short)
