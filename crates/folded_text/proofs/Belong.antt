-- A text and its maps belong together, whatever is added and taken away.
use Rattle.std.proofs.Common.{Result, Ok, Err, ◌≡◌, ◌≢◌, ◌==◌, ℕ, suc, ◌≤◌, ◌||◌, Bool, true, false, cond, List, [], ◌∷◌, length, Option, Some, None, refl, sym, ap, ◌∙◌, subst, arith}
use Rattle.std.specs.List.{Contains, list_any}
use Rattle.std.specs.Result.{OnErr, OnOk}
use Rattle.std.proofs.Math.Logic.{∥∥₁_elim}
use Rattle.std.proofs.lemmas.Bool.{eqb-true}
use Rattle.cell_units.specs.declared.fault.Refusal.{Refusal}
use Rattle.cell_units.specs.declared.limits.TheConstants.{LAID_LIMIT}
use Rattle.cell_units.specs.declared.place.Bias.{Bias}
use Rattle.cell_units.specs.Inlaid.{inlays_at}
use Rattle.cell_units.specs.Lawful.{IsWellFormed}
use Rattle.cell_units.specs.Layers.{Source, inlay_source, unfolded}
use Rattle.cell_units.specs.Operation.{without_inlay}
use Rattle.cell_units.specs.Record.{Fold, Inlay, inlay_le}
use Rattle.cell_units.specs.Sorting.{insert_by}
use Rattle.cell_units.proofs.ShownPlaces.{places-left_first}
use Rattle.cell_units.proofs.TextLaws.{tells_boundaries}
use Rattle.edit_patch.specs.Covering.{covering, with_pending}
use Rattle.edit_patch.specs.Leads.{Reach}
use Rattle.inlay_map.specs.InlaidShifts.{inlay_shift}
use Rattle.inlay_map.specs.Kept.{IsInlaid}
use Rattle.inlay_map.specs.Maps as inlaid
use Rattle.inlay_map.specs.Maps.{InlayState, add_refusal, added, inlay_with, remove_refusal, removed, with_inlays}
use Rattle.inlay_map.proofs.MapStates.{accepted-is, added-differs, kept-turned, removed-differs}
use Rattle.inlay_map.proofs.MetRows.{found-fits}
use Rattle.inlay_map.proofs.MovedInlays.{contained-found}
use Rattle.fold_map.specs.Maps as folding
use Rattle.fold_map.specs.Maps.{FoldState, opened_up, with_fold, without}
use Rattle.fold_map.specs.Snapshots.{PlacesFit, fold_refusal, unfold_refusal}
use Rattle.fold_map.proofs.StateFolds as fold_states
use Rattle.fold_map.proofs.StateFolds.{added-lawful, removed-lawful}
use Rattle.folded_text.specs.Shown.{BelongTogether}
use Rattle.folded_text.proofs.Reaches.{never-none}
use Rattle.folded_text.proofs.Texts.{places-fit}

-- ---- inlays

ordered-with : (p : Option Reach) (q : Reach) → ((s : Reach) → p ≡ Some s → s.start ≤ s.end) → q.start ≤ q.end → (s : Reach) → with_pending p (Some q) ≡ Some s → s.start ≤ s.end
ordered-with None q h o s e = subst (λ (r : Reach). r.start ≤ r.end) (same q s e) o where
  same : (x y : Reach) → Some x ≡ Some y → x ≡ y
  same x y h = cc
ordered-with (Some p) q h o s e = subst (λ (r : Reach). r.start ≤ r.end) (same (covering p q) s e) (let w = h p refl in omega (arith, w, o)) where
  same : (x y : Reach) → Some x ≡ Some y → x ≡ y
  same x y h = cc

-- other inlays, which differ from those before at one offset
belong-turned : (text : List ℕ) (inlays : InlayState) (folds : FoldState) (is : List Inlay) (o : ℕ) → BelongTogether text inlays folds → IsInlaid inlays.current → o ≤ length inlays.current.text
    → ((k : ℕ) → k ≢ o → inlays_at is k ≡ inlays_at inlays.current.inlays k) → BelongTogether text (with_inlays is o inlays) folds
belong-turned text inlays folds is o b inlaid' within differ =
    let next = inlay_source inlays.current.text is in
    let change = inlay_shift inlays.current next o in
    let low : inlays.shown ≡ unfolded folds.current = ap (λ (m : InlayState). m.shown) b.below in
    record {
      text = b.text;
      same = b.same;
      below = λ i. record { current = next; shown = low i; pending = with_pending inlays.pending (Some change) };
      leads =
          ∥∥₁_elim b.leads squash₁
          (λ led. ∣ (kept-turned inlays.current inlays.shown next o inlays.pending inlaid'.folds refl refl within differ b.ordered (record { text = b.same; leads = led })).leads ∣₁);
      ordered = ordered-with inlays.pending change b.ordered (places-left_first inlays.current o);
      settled = λ e. absurd (never-none inlays.pending change e);
    }

pub belong-added : (text : List ℕ) (inlays : InlayState) (folds : FoldState) (id o : ℕ) (bias : Bias) (put : List ℕ) → BelongTogether text inlays folds → IsInlaid inlays.current
    → add_refusal inlays.current id o put ≡ None → BelongTogether text (added (inlay_with id o bias put) inlays) folds
belong-added text inlays folds id o bias put b inlaid' e =
    let x = accepted-is inlays.current id o put e in
    let at = (tells_boundaries inlays.current.text inlaid'.text.0 o).0 x.boundary in
    belong-turned text inlays folds (insert_by inlay_le (inlay_with id o bias put) inlays.current.inlays) o b inlaid' at.0
    (added-differs (inlay_with id o bias put) inlays.current.inlays)

-- what passes a test is there, where something does
record Passes {X : Type 0} (p : X → Bool) (xs : List X) : Type 0 where
  one : X
  there : Contains xs one
  passes : p one ≡ true

passing : {X : Type 0} (p : X → Bool) (xs : List X) → list_any p xs ≡ true → Passes p xs
passing p [] e = absurd (cc)
passing p (x ∷ xs) e = go (p x) refl e (passing p xs) where
  go : (c : Bool) → p x ≡ c → (c || list_any p xs) ≡ true → (list_any p xs ≡ true → Passes p xs) → Passes p (x ∷ xs)
  go true h e next = record { one = x; there = (0, omega arith, refl); passes = h }
  go false h e next =
      let r = next e in
      let there = r.there in
      record { one = r.one; there = (suc there.0, (let l = there.1 in omega (arith, l)), there.2); passes = r.passes }

known : (b : Bool) (r : Refusal) → cond b None (Some r) ≡ None → b ≡ true
known true r e = refl
known false r e = absurd (cc)

pub belong-removed : (text : List ℕ) (inlays : InlayState) (folds : FoldState) (id : ℕ) (after : InlayState) → BelongTogether text inlays folds → IsInlaid inlays.current
    → remove_refusal inlays.current id ≡ None → ((i : Inlay) → Contains inlays.current.inlays i → i.id ≡ id → after ≡ removed i inlays) → BelongTogether text after folds
belong-removed text inlays folds id after b inlaid' e is =
    let found = passing (λ (i : Inlay). i.id == id) inlays.current.inlays (known (list_any (λ (i : Inlay). i.id == id) inlays.current.inlays) _ e) in
    let i = found.one in
    let same : i.id ≡ id = eqb-true i.id id found.passes in
    let few = inlaid'.inlays.distinct in
    let at = contained-found i.id inlays.current.inlays i (few i.id) found.there refl in
    let fits = found-fits inlays.current.text inlays.current.inlays i inlaid'.inlays at in
    subst (λ (s : InlayState). BelongTogether text s folds) (sym (is i found.there same))
    (belong-turned text inlays folds (without_inlay i.id inlays.current.inlays) i.offset b inlaid' (let h = fits.boundary in h.0)
    (removed-differs i inlays.current.inlays (few i.id) at))

-- ---- folds

module _ (text : List ℕ) (inlays : InlayState) (folds : FoldState) (b : BelongTogether text inlays folds) (is : IsWellFormed folds.current) (few : length text ≤ LAID_LIMIT) where
  abbrev s : Source
  s = folds.current

  short : length s.text ≤ 67108864
  short =
      omega (
        arith,
        few,
        ap (λ (t : List ℕ). length t) (ap (λ (m : InlayState). m.shown.text) (sym b.below) ∙ sym b.same ∙ b.text),
      )

  with-formed : (f : Fold) → fold_refusal s f.id f.start f.end ≡ None → IsWellFormed (with_fold f s)
  with-formed f e = record { text = is.text; inlays = is.inlays; folds = added-lawful s f is (fold_states.accepted-is s f e) }

  without-formed : (id : ℕ) → IsWellFormed (without id s)
  without-formed id = record { text = is.text; inlays = is.inlays; folds = removed-lawful s id is }

  pub with-fits : (f : Fold) → fold_refusal s f.id f.start f.end ≡ None → PlacesFit (with_fold f s)
  with-fits f e = places-fit (with_fold f s) (with-formed f e) short

  pub without-fits : (id : ℕ) → PlacesFit (without id s)
  without-fits id = places-fit (without id s) (without-formed id) short

pub belong-opened : (text : List ℕ) (inlays : InlayState) (folds : FoldState) (id : ℕ) (after : FoldState) → BelongTogether text inlays folds → unfold_refusal folds.current id ≡ None
    → ((f : Fold) → Contains folds.current.folds f → f.id ≡ id → after ≡ opened_up f folds) → BelongTogether text inlays after
belong-opened text inlays folds id after b e is =
    let found = passing (λ (f : Fold). f.id == id) folds.current.folds (known (list_any (λ (f : Fold). f.id == id) folds.current.folds) _ e) in
    let f = found.one in
    subst (λ (x : FoldState). BelongTogether text inlays x) (sym (is f found.there (eqb-true f.id id found.passes)))
    (record { text = b.text; same = b.same; below = b.below; leads = b.leads; ordered = b.ordered; settled = b.settled })

-- ---- after calls, which may have been refused

pub belong-after_insert : {X Y : Type 0} (text : List ℕ) (inlays : InlayState) (folds : FoldState) (id o : ℕ) (bias : Bias) (put : List ℕ) (after : InlayState) (r : Result X Y)
    → BelongTogether text inlays folds → IsInlaid inlays.current → OnOk r (after ≡ added (inlay_with id o bias put) inlays) → OnOk r (add_refusal inlays.current id o put ≡ None) → OnErr r (after ≡ inlays)
    → BelongTogether text after folds
belong-after_insert text inlays folds id o bias put after (Ok x) b inlaid' ok accepted err =
    subst (λ (m : InlayState). BelongTogether text m folds) (sym ok) (belong-added text inlays folds id o bias put b inlaid' accepted)
belong-after_insert text inlays folds id o bias put after (Err e) b inlaid' ok accepted err = subst (λ (m : InlayState). BelongTogether text m folds) (sym err) b

pub belong-after_remove : {X Y : Type 0} (text : List ℕ) (inlays : InlayState) (folds : FoldState) (id : ℕ) (after : InlayState) (r : Result X Y)
    → BelongTogether text inlays folds → IsInlaid inlays.current → ((i : Inlay) → Contains inlays.current.inlays i → i.id ≡ id → OnOk r (after ≡ removed i inlays))
    → OnOk r (remove_refusal inlays.current id ≡ None) → OnErr r (after ≡ inlays) → BelongTogether text after folds
belong-after_remove text inlays folds id after (Ok x) b inlaid' ok accepted err = belong-removed text inlays folds id after b inlaid' accepted ok
belong-after_remove text inlays folds id after (Err e) b inlaid' ok accepted err = subst (λ (m : InlayState). BelongTogether text m folds) (sym err) b

pub belong-after_unfold : {X Y : Type 0} (text : List ℕ) (inlays : InlayState) (folds : FoldState) (id : ℕ) (after : FoldState) (r : Result X Y)
    → BelongTogether text inlays folds → ((f : Fold) → Contains folds.current.folds f → f.id ≡ id → OnOk r (after ≡ opened_up f folds))
    → OnOk r (unfold_refusal folds.current id ≡ None) → OnErr r (after ≡ folds) → BelongTogether text inlays after
belong-after_unfold text inlays folds id after (Ok x) b ok accepted err = belong-opened text inlays folds id after b accepted ok
belong-after_unfold text inlays folds id after (Err e) b ok accepted err = subst (λ (m : FoldState). BelongTogether text inlays m) (sym err) b
