-- What a snapshot of the inlays owes to the folds over it.
use Rattle.std.proofs.Common.{Result, ◌≡◌, ℕ, ◌≤◌, List, length, Option, option_map, Some, None, refl, sym, ap, ◌∙◌, subst, arith}
use Rattle.std.proofs.Math.Logic.{∥∥₁_elim}
use Rattle.std.proofs.lemmas.Result.{on_ok_weaker}
use Rattle.std.specs.Result.{IfOk, OnOk}
use Rattle.std.proofs.Props.{props}
use Rattle.cell_units.specs.declared.limits.TheConstants.{LAID_LIMIT}
use Rattle.cell_units.specs.declared.place.Bias.TheVariants.{Right}
use Rattle.cell_units.specs.declared.place.Shift.{Shift}
use Rattle.cell_units.specs.Lawful.{AreFolds, IsWellFormed}
use Rattle.cell_units.specs.Layers.{Source, unfolded}
use Rattle.edit_patch.specs.LayerLeads.{LayerLeads, layer_places}
use Rattle.edit_patch.specs.Leads.{LeadsIfAny, Reach, reach_of, unmoved}
use Rattle.inlay_map.specs.InlaidShifts.{inlaid_shift}
use Rattle.inlay_map.specs.Kept.{IsInlaid}
use Rattle.inlay_map.specs.Maps as inlaid
use Rattle.inlay_map.specs.Maps.{InlayState}
use Rattle.inlay_map.proofs.InlaidSources.{well-formed}
use Rattle.fold_map.specs.Maps.{FoldState}
use Rattle.fold_map.specs.Synced as folded
use Rattle.fold_map.specs.Synced.{Follows, MeetsTouched, source_after}
use Rattle.fold_map.proofs.MapTokens.{layer-is, place-size}
use Rattle.folded_text.specs.Shown.{BelongTogether, IsReplaced, IsReplacedIfAny, IsShown, folds_shown, inlays_shown}
use Rattle.folded_text.proofs.Reaches.{ReachesOver, answer-reaches, meets-rows, never-none}
use Rattle.folded_text.proofs.Texts.{folds-moved, folds-stand, places-fit, replaced-leads}

module _ (inlays : InlayState) (folds : FoldState) (text : List ℕ) (belong : BelongTogether inlays.current.text inlays folds) (is-inlaid : IsInlaid inlays.current) (old-formed : IsWellFormed folds.current)
    (shift : Option Shift) (replaced : IsReplacedIfAny inlays.current.text text (option_map reach_of shift)) (short : length text ≤ LAID_LIMIT) where
  abbrev old : Source
  old = folds.current

  abbrev moved : Option Reach
  moved = option_map reach_of shift

  abbrev layer : Source
  layer = inlaid.source_after text moved inlays.current

  low-is : unfolded old ≡ inlays.shown
  low-is = ap (λ (m : InlayState). m.shown) (sym belong.below)

  same-text : old.text ≡ inlays.current.text
  same-text = ap (λ (s : Source). s.text) low-is ∙ sym belong.same

  now-formed : IsWellFormed layer → IsWellFormed (source_after layer moved old)
  now-formed formed = record {
    text = formed.text;
    inlays = formed.inlays;
    folds = folds-moved inlays.current.text text moved replaced is-inlaid.text.0 old.folds (subst (λ (t : List ℕ). AreFolds t old.folds) same-text old-formed.folds);
  }

  low-formed : IsWellFormed (unfolded old)
  low-formed = well-formed (unfolded old) old-formed.text old-formed.inlays refl

  meets-led : LayerLeads None inlays.shown inlays.current inlays.pending → (below : Option Shift) → inlaid.IsSynced text moved inlays layer (option_map reach_of below) → MeetsTouched (unfolded old) moved (option_map reach_of below)
  meets-led led below synced = go shift below refl refl where
    go : (s b : Option Shift) → shift ≡ s → below ≡ b → MeetsTouched (unfolded old) (option_map reach_of s) (option_map reach_of b)
    go None b e e' = tt
    go (Some s) b e e' = with-answer b e' where
      answered : option_map reach_of below ≡ inlaid.answer_of text (Some (reach_of s)) inlays
      answered = synced.answered ∙ ap (λ (x : Option Shift). inlaid.answer_of text (option_map reach_of x) inlays) e

      with-answer : (b : Option Shift) → below ≡ b → MeetsTouched (unfolded old) (Some (reach_of s)) (option_map reach_of b)
      with-answer None e' =
          never-none inlays.pending (inlaid_shift inlays.current (inlaid.source_after text (Some (reach_of s)) inlays.current) (reach_of s))
          (sym answered ∙ ap (λ (x : Option Shift). option_map reach_of x) e')
      with-answer (Some b) e' =
          let here : inlaid.answer_of text (Some (reach_of s)) inlays ≡ Some (reach_of b) = sym answered ∙ ap (λ (x : Option Shift). option_map reach_of x) e' in
          let is : IsReplaced inlays.current.text text (reach_of s) = subst (λ (x : Option Shift). IsReplacedIfAny inlays.current.text text (option_map reach_of x)) e replaced in
          let reaches = answer-reaches inlays is-inlaid.folds (ap (λ (v : Source). v.folds) (sym low-is)) belong.same led (λ none. ap (λ (m : InlayState). m.current) (belong.settled none)) text (reach_of s) is.range.0 is.range.2.0 (reach_of b) here in
          let leads : LayerLeads moved inlays.shown layer (Some (reach_of b)) = subst (λ (x : Option Shift). LayerLeads moved inlays.shown layer (option_map reach_of x)) e' synced.leads in
          let within = leads.within in
          let size = ap (λ l. length l) (layer-is old.text old.inlays) in
          let all = place-size old.text old.inlays (length old.text) Right in
          meets-rows old.text old.inlays low-formed (reach_of s) (reach_of b) is.range.0 (subst (λ (t : List ℕ). s.end ≤ length t) (sym same-text) is.range.2.0) b.ordered
          (omega (arith, within, size, all, ap (λ (v : Source). length (layer_places v)) low-is))
          (subst (λ (v : Source). ReachesOver v s.start s.end (reach_of b)) (sym low-is) reaches)

  meets-prop : (s b : Option Reach) → IsProp (MeetsTouched (unfolded old) s b)
  meets-prop None b = hlevel props
  meets-prop (Some s) None = hlevel props
  meets-prop (Some s) (Some b) = hlevel props

  meets : (below : Option Shift) → inlaid.IsSynced text moved inlays layer (option_map reach_of below) → MeetsTouched (unfolded old) moved (option_map reach_of below)
  meets below synced = ∥∥₁_elim belong.leads (meets-prop moved (option_map reach_of below)) (λ led. meets-led led below synced)

  pub follows : IsWellFormed layer → (below : Option Shift) → inlaid.IsSynced text moved inlays layer (option_map reach_of below) → Follows old layer moved (option_map reach_of below)
  follows formed below synced = record {
    bare = refl;
    text = subst (λ (t : List ℕ). LeadsIfAny unmoved t text moved) (sym same-text) (replaced-leads inlays.current.text text moved replaced);
    leads = subst (λ (v : Source). LayerLeads moved v layer (option_map reach_of below)) (sym low-is) synced.leads;
    meets = meets below synced;
    stand = folds-stand text moved old.folds (now-formed formed).folds;
    fits = places-fit (source_after layer moved old) (now-formed formed) (omega (arith, short));
  }

  -- the same of a layer that was made so
  pub follows-made : (made : Source) → IsWellFormed made → (below : Option Shift) → inlaid.IsSynced text moved inlays made (option_map reach_of below) → Follows old made moved (option_map reach_of below)
  follows-made made formed below synced =
      let is = synced.made in
      subst (λ (v : Source). Follows old v moved (option_map reach_of below)) (sym is)
      (follows (subst IsWellFormed is formed) below (subst (λ (v : Source). inlaid.IsSynced text moved inlays v (option_map reach_of below)) is synced))

  -- they belong together then
  pub belong-shown : BelongTogether text (inlays_shown text moved inlays) (folds_shown text moved inlays folds)
  belong-shown = record {
    text = refl;
    same = refl;
    below = refl;
    leads = ∣ refl ∣₁;
    ordered = λ s e. absurd (cc);
    settled = λ e. refl;
  }

  -- so they do once both maps have been given it
  pub belong-made : {X Y : Type 0} (made : Source) (below : Option Shift) → inlaid.IsSynced text moved inlays made (option_map reach_of below)
      → (inlays' : InlayState) → inlays' ≡ inlays_shown text moved inlays → (folds' : FoldState) (r : Result X Y) → OnOk r (folds' ≡ folded.synced made moved folds)
      → OnOk r (BelongTogether text inlays' folds')
  belong-made made below synced inlays' e folds' r ok =
      on_ok_weaker r
      (λ d. subst (λ (m : InlayState). BelongTogether text m folds') (sym e)
      (subst (λ (m : FoldState). BelongTogether text (inlays_shown text moved inlays) m) (sym (d ∙ ap (λ (v : Source). folded.synced v moved folds) synced.made)) belong-shown)) ok

-- The map of folds makes the snapshot of what the map of inlays made.
pub is-shown : {E : Type 0} (inlays : InlayState) (folds : FoldState) (text : List ℕ) (moved : Option Reach) (made : Source) (below : Option Reach) → inlaid.IsSynced text moved inlays made below
    → (r : Result (Source × Option Shift) E) → IfOk r (λ (v : Source × Option Shift). folded.IsSynced made moved below folds v.0 (option_map reach_of v.1))
    → IfOk r (λ (v : Source × Option Shift). IsShown text moved inlays folds v.0 (option_map reach_of v.1))
is-shown inlays folds text moved made below synced r is =
    subst (λ (p : Source × Option Reach). IfOk r (λ (v : Source × Option Shift). folded.IsSynced p.0 moved p.1 folds v.0 (option_map reach_of v.1))) (λ i. (synced.made i, synced.answered i)) is
