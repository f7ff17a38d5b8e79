-- What a `sync` makes and returns.
use Rattle.std.proofs.Common.{◌≡◌, ℕ, ◌≤◌, List, length, map, Option, Some, None, refl, sym, ap, ◌∙◌, subst, arith}
use Rattle.cell_units.specs.declared.place.Bias.TheVariants.{Right}
use Rattle.cell_units.specs.declared.place.Shift.{Shift}
use Rattle.cell_units.specs.Folded.{folded_to}
use Rattle.cell_units.specs.Inlaid.{Token}
use Rattle.cell_units.specs.Lawful.{IsWellFormed}
use Rattle.cell_units.specs.Layers.{Source, unfolded}
use Rattle.cell_units.proofs.ShownPlaces.{places-left_first, places-rise}
use Rattle.joined_folds.specs.JoinedLists.{EndBy}
use Rattle.edit_patch.specs.Covering.{CoverFits, with_pending}
use Rattle.edit_patch.specs.LayerLeads.{LayerLeads, layer_places, token_after}
use Rattle.edit_patch.specs.Leads.{LeadsIfAny, Reach, reach_of}
use Rattle.edit_patch.proofs.CoverLeads.{covers, lists-fit}
use Rattle.edit_patch.proofs.TokenPlaces.{at_places, length-at_places}
use Rattle.fold_map.specs.Maps.{FoldState, IsKept}
use Rattle.fold_map.specs.Snapshots.{IsLawful, with_folds}
use Rattle.fold_map.specs.Synced.{Follows, IsSynced, MeetsTouched, layer_change, row_end_at, row_start_at, source_after}
use Rattle.fold_map.proofs.MapLeads.{whole-folded}
use Rattle.fold_map.proofs.MapTokens.{bare, fold_each, layer-is}
use Rattle.fold_map.proofs.Positions.{unfold-same}
use Rattle.fold_map.proofs.StateMaps.{IsOrdered, places-fit}
use Rattle.fold_map.proofs.StateSynced.{end-within, moved-leads, rows-in_order}

-- where nothing comes after it, a pending replacement stays alone
pending-alone : (p : Option Reach) → p ≡ with_pending p None
pending-alone None = refl
pending-alone (Some r) = refl

-- where the layer's text wasn't replaced, the buffer's wasn't
pub no-shift : (low : Source) (shift : Option Reach) → MeetsTouched low shift None → shift ≡ None
no-shift low None m = refl
no-shift low (Some s) m = absurd m

abbrev tokens-still : List Token → List Token
tokens-still ts = map (token_after None) ts

module _ (m : FoldState) (is : IsLawful m.current) (kept : IsKept m.current m.shown m.pending) where
  over-places : (layer : Source) → Follows m.current layer None None → layer_places (with_folds layer m.current.folds) ≡ layer_places m.current
  over-places layer f =
      let s = m.current in
      let ends : EndBy s.folds (length layer.text) = subst (λ (t : List ℕ). EndBy s.folds (length t)) (sym f.text) is.all.0 in
      let tokens : bare layer.text layer.inlays ≡ bare s.text s.inlays =
      sym (layer-is layer.text layer.inlays) ∙ ap (λ (v : Source). layer_places v) (sym (unfold-same layer f.bare)) ∙ f.leads ∙ layer-is s.text s.inlays in
      whole-folded (with_folds layer s.folds) ends
      ∙ ap (λ (ts : List Token). at_places (fold_each s.folds ts)) tokens
      ∙ sym (whole-folded s is.all.0)

  synced-still : (layer : Source) → Follows m.current layer None None → IsSynced layer None None m (with_folds layer m.current.folds) m.pending
  synced-still layer f = record {
    made_is = refl;
    answered = pending-alone m.pending;
    leads = subst (λ (l : List Token). LeadsIfAny (tokens-still) (layer_places m.shown) l m.pending) (sym (over-places layer f)) kept.leads;
  }

  pub synced-over : (layer : Source) (shift : Option Reach) → Follows m.current layer shift None → IsSynced layer shift None m (with_folds layer m.current.folds) m.pending
  synced-over layer None f = synced-still layer f
  synced-over layer (Some s) f = absurd f.meets

  module _ (layer : Source) (formed : IsWellFormed layer) (shift : Option Reach) (ordered : (r : Reach) → shift ≡ Some r → r.start ≤ r.end) (below : Reach) (order : below.start ≤ below.end) (f : Follows m.current layer shift (Some below)) where
    abbrev made : Source
    made = source_after layer shift m.current

    change-order : (layer_change m.current made below).start ≤ (layer_change m.current made below).end
    change-order =
        let rows = rows-in_order m.current is layer formed shift ordered below order f in
        let within = end-within m.current is layer formed shift ordered below order f in
        omega (
          arith,
          places-left_first m.current (layer-start below),
          places-rise m.current (layer-start below) (layer-end below) Right rows within,
        ) where
          layer-start : Reach → ℕ
          layer-start b = row_start_at (unfolded m.current) b.start

          layer-end : Reach → ℕ
          layer-end b = row_end_at (unfolded m.current) b.end

    pub synced-moved : IsOrdered m.pending → IsSynced layer shift (Some below) m made (with_pending m.pending (Some (layer_change m.current made below)))
    synced-moved pending = record {
      made_is = refl;
      answered = refl;
      leads = covers shift m.shown m.current made m.pending (layer_change m.current made below) pending change-order kept.leads (moved-leads m.current is layer formed shift ordered below order f);
    }

    pub moved-cover : IsLawful m.shown → (x : Shift) → m.pending ≡ Some (reach_of x) → CoverFits (reach_of x) (layer_change m.current made below)
    moved-cover was x e =
        let l : LayerLeads None m.shown m.current (Some (reach_of x)) = subst (λ (q : Option Reach). LayerLeads None m.shown m.current q) e kept.leads in
        let fits = f.fits in
        lists-fit (token_after None) (token_after shift) (layer_places m.shown) (layer_places m.current) (layer_places made) (reach_of x) (layer_change m.current made below)
        x.ordered change-order l (moved-leads m.current is layer formed shift ordered below order f) (places-fit m.shown was) (places-fit m.current is)
        (omega (arith, fits, length-at_places (folded_to made.text made.inlays made.folds (length made.text) Right)))
