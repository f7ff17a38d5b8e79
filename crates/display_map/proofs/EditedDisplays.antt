-- What is kept over a change that isn't refused, and why one is.
use Rattle.std.proofs.Common.{◌≡◌, ◌⊎◌, ℕ, ◌<◌, ◌≤◌, true, false, List, [], ◌∷◌, ◌++◌, length, map, inl, inr, refl, sym, ap, subst, ◌∙◌, arith}
use Rattle.std.specs.Prelude.{Some, None, Result, Ok, Err, IfErr}
use Rattle.std.specs.Result.{IsErrAnd}
use Rattle.std.proofs.lemmas.Bool.{cases_lt, true≢false}
use Rattle.cell_units.specs.declared.fault.Refusal.TheVariants.{TooLong}
use Rattle.cell_units.specs.declared.limits.TheConstants.{TEXT_LIMIT}
use Rattle.cell_units.specs.Operation.{Operation, operated}
use Rattle.cell_units.specs.Record.{Record}
use Rattle.display_sheet.specs.Changes.{are_ranges, batch, edit_refusal, is_replacement, operation_of}
use Rattle.display_sheet.specs.LineStep.{line_step}
use Rattle.display_sheet.specs.declared.change.Op.{Op}
use Rattle.display_sheet.specs.declared.change.Op.TheVariants.{Block, Fold, Inlay, Replace, Tab, Unblock, Unfold, Uninlay, Width}
use Rattle.display_sheet.specs.declared.change.Splice.{Splice}
use Rattle.display_map.specs.Displays.{KeepsDisplay, KeepsShortDisplay}
use Rattle.display_map.specs.Events.{Event, Did}
use Rattle.display_map.specs.Outs.{OutParts}
use Rattle.display_map.specs.Replay.{History, State, appended, present_of, state_of}
use Rattle.display_map.specs.Splicing.{did_events, spliced_text}
use Rattle.display_map.specs.Works.{IsKept, IsWork, KeepsWork}
use Rattle.display_map.proofs.Batches.{are_ordered, backwards-text, replayed-batch}
use Rattle.display_map.proofs.EditRefusals.{accepted, refused_length}
use Rattle.display_map.proofs.FittingBatches.{texts}
use Rattle.display_map.proofs.Replays.{state_of-appended, state_of-one_more}
use Rattle.display_map.proofs.Works.{kept-work}

-- out of memory, of which nothing else is known
pub err-same : {A E : Type 0} (r : Result A E) (s : E) (P : E → Type 0) → IsErrAnd r (λ e. e ≡ s) → P s → IfErr r P
err-same (Ok x) s P h p = tt
err-same (Err e) s P h p = subst P (sym h) p

text-stepped : (r : Record) (operation : Operation) → (line_step operation r).text ≡ (operated operation r).text
unfolding line_step
text-stepped r operation = refl

-- an operation that isn't a replacement leaves the text
text-operated : (r : Record) (op : Op) → is_replacement op ≡ false → (operated (operation_of op) r).text ≡ r.text
text-operated r (Replace s) h = absurd (true≢false h)
text-operated r (Inlay id offset bias text) h = refl
text-operated r (Uninlay id) h = refl
text-operated r (Fold id start end) h = refl
text-operated r (Unfold id) h = refl
text-operated r (Block id side row lines) h = refl
text-operated r (Unblock id) h = refl
text-operated r (Tab size) h = refl
text-operated r (Width cells) h = refl

module _ (h : History) (sheet : Record) (outs : List OutParts) (versions jobs first : ℕ) (k : KeepsShortDisplay h sheet outs versions jobs first) where
  abbrev r : Record
  r = present_of h

  abbrev same : r.text ≡ sheet.text
  same = ap (λ (q : Record). q.text) k.kept.sheet_is

  -- the jobs as they are lent
  pub is-kept : (lent : List OutParts) → lent ≡ outs → IsKept sheet lent
  is-kept lent is = (h, versions, jobs, subst (λ (os : List OutParts). KeepsWork h sheet os versions jobs) (sym is) (kept-work h sheet outs versions jobs first k.kept))

  work-of : (ops : List Operation) (lent : List OutParts) (sheet' : Record) (outs' : List OutParts) → lent ≡ outs → IsWork ops sheet lent sheet' outs' →
      KeepsDisplay (appended h (map Did ops)) sheet' outs' versions jobs 0
  work-of ops lent sheet' outs' is does = (subst (λ (os : List OutParts). IsWork ops sheet os sheet' outs') is does) h versions jobs (kept-work h sheet outs versions jobs first k.kept)

  -- one operation
  pub kept-operated : (op : Op) (lent : List OutParts) (sheet' : Record) (outs' : List OutParts) (events : List Event) → is_replacement op ≡ false → lent ≡ outs →
      IsWork (operation_of op ∷ []) sheet lent sheet' outs' → events ≡ h.events ++ Did (operation_of op) ∷ [] →
      KeepsShortDisplay (record { opening = h.opening; events = events }) sheet' outs' versions jobs 0
  kept-operated op lent sheet' outs' events other is does pushed =
      let k' = work-of (operation_of op ∷ []) lent sheet' outs' is does in
      let text : sheet'.text ≡ sheet.text =
      sym (ap (λ (q : Record). q.text) k'.sheet_is)
      ∙ ap (λ (s : State). s.present.text) (state_of-one_more h (Did (operation_of op)))
      ∙ text-stepped r (operation_of op)
      ∙ text-operated r op other
      ∙ same in
      subst (λ (es : List Event). KeepsShortDisplay (record { opening = h.opening; events = es }) sheet' outs' versions jobs 0) (sym pushed)
      (record { kept = k'; short = omega (arith, ap length text, k.short) })

  module _ (splices : List Splice) (ok : are_ranges sheet.text 0 splices ≡ true) where
    ok' : are_ranges r.text 0 splices ≡ true
    ok' = ap (λ (t : List ℕ). are_ranges t 0 splices) same ∙ ok

    pub not-refused : length (spliced_text sheet.text 0 splices) ≤ TEXT_LIMIT → edit_refusal r splices ≡ None
    not-refused short = accepted r splices ok' (subst (λ (t : List ℕ). length (spliced_text t 0 splices) ≤ TEXT_LIMIT) (sym same) short)

    pub too-long : TEXT_LIMIT < length (spliced_text sheet.text 0 splices) → edit_refusal r splices ≡ Some TooLong
    too-long long = refused_length r splices ok' (subst (λ (t : List ℕ). TEXT_LIMIT < length (spliced_text t 0 splices)) (sym same) long)

    -- where its ranges are in order, at most its length is refused
    pub none-or-long : (edit_refusal r splices ≡ None) ⊎ (edit_refusal r splices ≡ Some TooLong)
    none-or-long = elim (cases_lt TEXT_LIMIT (length (spliced_text sheet.text 0 splices))) [
      | inl long ↦ inr (too-long long)
      | inr short ↦ inl (not-refused short)
    ]

    -- a batch
    pub kept-edited : (lent : List OutParts) (sheet' : Record) (outs' : List OutParts) (events : List Event) → lent ≡ outs →
        length (spliced_text sheet.text 0 splices) ≤ TEXT_LIMIT →
        IsWork (batch splices) sheet lent sheet' outs' → events ≡ h.events ++ did_events splices →
        KeepsShortDisplay (record { opening = h.opening; events = events }) sheet' outs' versions jobs 0
    kept-edited lent sheet' outs' events is short does pushed =
        let k' = work-of (batch splices) lent sheet' outs' is does in
        let text : sheet'.text ≡ spliced_text sheet.text 0 splices =
        sym (ap (λ (q : Record). q.text) k'.sheet_is)
        ∙ ap (λ (s : State). s.present.text) (state_of-appended h (map Did (batch splices)) ∙ replayed-batch (state_of h) splices)
        ∙ texts (state_of h) splices
        ∙ backwards-text r.text 0 splices (are_ordered r.text 0 splices (omega arith) ok')
        ∙ ap (λ (t : List ℕ). spliced_text t 0 splices) same in
        subst (λ (es : List Event). KeepsShortDisplay (record { opening = h.opening; events = es }) sheet' outs' versions jobs 0) (sym pushed)
        (record { kept = k'; short = omega (arith, ap length text, short) })
