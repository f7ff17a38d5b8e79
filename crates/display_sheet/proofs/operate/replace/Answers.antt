use Rattle.std.proofs.Common.{◌≡◌, ℕ, ◌+◌, ◌-◌, ◌^◌, ◌<◌, ◌≤◌, List, length, map, refl, sym, ap, subst, ◌∙◌, arith}
use Rattle.std.specs.Arc.{arc_value}
use Rattle.std.specs.List.{All}
use Rattle.std.specs.String.{string_bytes}
use Rattle.cell_units.specs.Text.{clean}
use Rattle.cell_units.specs.Record.{Record}
use Rattle.cell_units.specs.Operation.{moved_blocks, moved_folds, moved_inlays, replaced_text}
use Rattle.cell_units.specs.Lawful.{IsAllowed, IsBlockOf, IsFoldOf, IsInlayOf}
use Rattle.plain_rows.specs.Plain.{block_of, fold_of, inlay_of}
use Rattle.display_sheet.specs.declared.change.Splice.{Splice}
use Rattle.display_sheet.specs.declared.sheet.Draft.{Draft}
use Rattle.display_sheet.specs.Changes.{replacement}
use Rattle.display_sheet.specs.Sheets.{IsDraft}
use Rattle.display_sheet.proofs.Drafts.{replaced}
use Rattle.display_sheet.proofs.FittingEntries.{blocks_fit, folds_fit, inlays_fit, length-replaced}
use Rattle.display_sheet.proofs.operate.replace.Goals as goal

-- a replacement of the text puts in as many bytes as it grew by, with those that it took out
counted : (r : Record) (s : Splice) → IsAllowed (replacement s) r → (old new : List ℕ) (grown : ℕ) → old ≡ r.text → new ≡ replaced_text old s.start s.end (clean s.text) →
    grown ≡ length new - (length old - (s.end - s.start)) → grown ≡ length (clean s.text)
counted r s allowed old new grown same is e =
    let within : s.end ≤ length old = omega (arith, allowed.1.0, ap length same) in
    omega (arith, e, ap length is, within, allowed.2, length-replaced old (clean s.text) s.start s.end allowed.2 within)

module _ (r : Record) (s : Splice) (allowed : IsAllowed (replacement s) r) (n : ℕ) (count : n ≡ length (clean s.text)) where
  within : s.start + n ≤ length (replaced_text r.text s.start s.end (clean s.text))
  within = omega (arith, count, length-replaced r.text (clean s.text) s.start s.end allowed.2 allowed.1.0)

  small : length r.text ≤ 67108864 → length (replaced_text r.text s.start s.end (clean s.text)) ≤ 67108864 → length r.text + n < 2 ^ 32
  small old new = omega (arith, within, old, new)

  draft_is : (draft : Draft) → arc_value draft.text ≡ replaced_text r.text s.start s.end (clean s.text) →
      map inlay_of (arc_value draft.inlays).items ≡ moved_inlays s.start s.end n r.inlays →
      map fold_of (arc_value draft.folds).items ≡ moved_folds s.start s.end n r.folds →
      map block_of (arc_value draft.blocks).items ≡ moved_blocks s.start s.end n r.blocks →
      IsDraft (replacement s) r draft (record { start = s.start; end = s.end }) (record { start = s.start; end = s.start + n })
  draft_is draft text inlays folds blocks =
      replaced r draft s.start s.end s.text (record { start = s.start; end = s.end }) (record { start = s.start; end = s.start + n })
      allowed allowed.2 allowed.1.0 refl refl refl (ap (λ (k : ℕ). s.start + k) count) (omega (arith, within, count)) text
      (inlays ∙ ap (λ (k : ℕ). moved_inlays s.start s.end k r.inlays) count)
      (folds ∙ ap (λ (k : ℕ). moved_folds s.start s.end k r.folds) count)
      (blocks ∙ ap (λ (k : ℕ). moved_blocks s.start s.end k r.blocks) count)

pub moved-requires-clause-fits : goal.moved-requires-clause-fits
moved-requires-clause-fits c =
    let r = c.args.sheet.now in
    let s = c.args.splice.now in
    let old : c.as_str-old.result.now ≡ r.text = c.as_str-old.ensures.text ∙ c.text.ensures in
    let count = counted r s c.requires.allowed c.as_str-old.result.now (string_bytes c.in_ok-text.text) c.new-shift.result.count old c.in_ok-text.ensures (omega (arith, c.new-shift.ensures.count, c.len.ensures)) in
    let size = small r s c.requires.allowed c.new-shift.result.count count (omega (arith, ap length old, c.as_str-old.ensures.size, ap length c.text.ensures)) (omega (arith, c.requires.fits)) in
    inlays_fit r.text c.new-shift.result.count size c.inlays.result.now (subst (All (IsInlayOf r.text)) (sym c.inlays.ensures) c.lawful.ensures.entries.source.inlays.each)

pub moved-requires-2-clause-fits : goal.moved-requires-2-clause-fits
moved-requires-2-clause-fits c =
    let r = c.args.sheet.now in
    let s = c.args.splice.now in
    let old : c.as_str-old.result.now ≡ r.text = c.as_str-old.ensures.text ∙ c.text.ensures in
    let count = counted r s c.requires.allowed c.as_str-old.result.now (string_bytes c.in_ok-text.text) c.new-shift.result.count old c.in_ok-text.ensures (omega (arith, c.new-shift.ensures.count, c.len.ensures)) in
    let size = small r s c.requires.allowed c.new-shift.result.count count (omega (arith, ap length old, c.as_str-old.ensures.size, ap length c.text.ensures)) (omega (arith, c.requires.fits)) in
    folds_fit r.text c.new-shift.result.count size c.folds.result.now (subst (All (IsFoldOf r.text)) (sym c.folds.ensures) c.lawful.ensures.entries.source.folds.each)

pub moved-requires-3-clause-fits : goal.moved-requires-3-clause-fits
moved-requires-3-clause-fits c =
    let r = c.args.sheet.now in
    let s = c.args.splice.now in
    let old : c.as_str-old.result.now ≡ r.text = c.as_str-old.ensures.text ∙ c.text.ensures in
    let count = counted r s c.requires.allowed c.as_str-old.result.now (string_bytes c.in_ok-text.text) c.new-shift.result.count old c.in_ok-text.ensures (omega (arith, c.new-shift.ensures.count, c.len.ensures)) in
    let size = small r s c.requires.allowed c.new-shift.result.count count (omega (arith, ap length old, c.as_str-old.ensures.size, ap length c.text.ensures)) (omega (arith, c.requires.fits)) in
    blocks_fit r.text c.new-shift.result.count size c.blocks-2.result.now (subst (All (IsBlockOf r.text)) (sym c.blocks-2.ensures) c.lawful.ensures.entries.blocks.each)

pub relaid-requires : goal.relaid-requires
relaid-requires c =
    let r = c.args.sheet.now in
    let s = c.args.splice.now in
    let n : ℕ = c.new-shift.result.count in
    let start = c.new-shift.ensures.start in
    let end = c.new-shift.ensures.end in
    let old : c.as_str-old.result.now ≡ r.text = c.as_str-old.ensures.text ∙ c.text.ensures in
    let count = counted r s c.requires.allowed c.as_str-old.result.now (string_bytes c.in_ok-text.text) n old c.in_ok-text.ensures (omega (arith, c.new-shift.ensures.count, c.len.ensures)) in
    let draft : Draft = record { text = c.in_ok-shared.field-0; inlays = c.in_ok-shared-2.field-0; folds = c.in_ok-shared-3.field-0; blocks = c.in_ok-shared-4.field-0 } in
    let text = c.in_ok-shared.ensures ∙ c.in_ok-new.ensures ∙ c.in_ok-text.ensures ∙ ap (λ (t : List ℕ). replaced_text t s.start s.end (clean s.text)) old in
    let inlays = ap (λ v. map inlay_of v.items) c.in_ok-shared-2.ensures ∙ c.in_ok-moved.ensures ∙ (λ i. moved_inlays (start i) (end i) n (c.inlays.ensures i)) in
    let folds = ap (λ v. map fold_of v.items) c.in_ok-shared-3.ensures ∙ c.in_ok-moved-2.ensures ∙ (λ i. moved_folds (start i) (end i) n (c.folds.ensures i)) in
    let blocks = ap (λ v. map block_of v.items) c.in_ok-shared-4.ensures ∙ c.in_ok-moved-3.ensures ∙ (λ i. moved_blocks (start i) (end i) n (c.blocks-2.ensures i)) in
    (replacement s, draft_is r s c.requires.allowed n count draft text inlays folds blocks)

pub returns : goal.returns
returns c =
    let r = c.args.sheet.now in
    let s = c.args.splice.now in
    let n : ℕ = c.new-shift.result.count in
    let start = c.new-shift.ensures.start in
    let end = c.new-shift.ensures.end in
    let old : c.as_str-old.result.now ≡ r.text = c.as_str-old.ensures.text ∙ c.text.ensures in
    let count = counted r s c.requires.allowed c.as_str-old.result.now (string_bytes c.in_ok-text.text) n old c.in_ok-text.ensures (omega (arith, c.new-shift.ensures.count, c.len.ensures)) in
    let draft : Draft = record { text = c.in_ok-shared.field-0; inlays = c.in_ok-shared-2.field-0; folds = c.in_ok-shared-3.field-0; blocks = c.in_ok-shared-4.field-0 } in
    let text = c.in_ok-shared.ensures ∙ c.in_ok-new.ensures ∙ c.in_ok-text.ensures ∙ ap (λ (t : List ℕ). replaced_text t s.start s.end (clean s.text)) old in
    let inlays = ap (λ v. map inlay_of v.items) c.in_ok-shared-2.ensures ∙ c.in_ok-moved.ensures ∙ (λ i. moved_inlays (start i) (end i) n (c.inlays.ensures i)) in
    let folds = ap (λ v. map fold_of v.items) c.in_ok-shared-3.ensures ∙ c.in_ok-moved-2.ensures ∙ (λ i. moved_folds (start i) (end i) n (c.folds.ensures i)) in
    let blocks = ap (λ v. map block_of v.items) c.in_ok-shared-4.ensures ∙ c.in_ok-moved-3.ensures ∙ (λ i. moved_blocks (start i) (end i) n (c.blocks-2.ensures i)) in
    c.relaid.ensures (replacement s) (draft_is r s c.requires.allowed n count draft text inlays folds blocks)
