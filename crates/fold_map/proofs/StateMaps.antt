-- The states of a map, and what a fold that is added or removed leaves of what it keeps.
use Rattle.std.proofs.Common.{◌≡◌, ℕ, ◌+◌, ◌-◌, ◌<◌, ◌≤◌, ◌^◌, ◌==◌, Bool, true, false, cond, List, [], ◌∷◌, length, map, drop, Option, option_map, Some, None, Result, Ok, Err, IsErrAnd, refl, sym, ap, ◌∙◌, subst, inl, inr, ◌⊎◌, arith}
use Rattle.std.specs.List.{list_any}
use Rattle.std.specs.Result.{IfErr}
use Rattle.std.proofs.lemmas.Bool.{cases_lt}
use Rattle.cell_units.specs.declared.fault.Fault.{Fault}
use Rattle.cell_units.specs.declared.fault.Fault.TheVariants.{NoMemory}
use Rattle.cell_units.specs.declared.fault.Refusal.{Refusal}
use Rattle.cell_units.specs.declared.fault.Refusal.TheVariants.{UnknownId}
use Rattle.cell_units.specs.declared.place.Bias.TheVariants.{Left, Right}
use Rattle.cell_units.specs.declared.place.Shift.{Shift}
use Rattle.cell_units.specs.Folded.{covered, folded_to, inside}
use Rattle.cell_units.specs.Inlaid.{Byte, Hidden, InlayByte, Token}
use Rattle.cell_units.specs.Layers.{Source, place_of, unfolded}
use Rattle.cell_units.specs.Record.{Fold}
use Rattle.cell_units.proofs.ShownPlaces.{place-le, places-left_first, places-rise}
use Rattle.joined_folds.specs.Windows.{AreAlike}
use Rattle.edit_patch.specs.Covering.{CoverFits, with_pending}
use Rattle.edit_patch.specs.LayerLeads.{LayerLeads, layer_places, token_after}
use Rattle.edit_patch.specs.Leads.{Leads, Reach, reach_of}
use Rattle.edit_patch.proofs.CoverLeads.{covers, lists-fit}
use Rattle.edit_patch.proofs.TokenPlaces.{length-at_places}
use Rattle.fold_map.specs.Maps.{DifferWithin, IsKept, IsOwed, fold_change, shown_from, shown_to}
use Rattle.fold_map.specs.Snapshots.{IsLawful, unfold_refusal}
use Rattle.fold_map.proofs.MapLeads.{change-leads}
use Rattle.fold_map.proofs.StateFolds.{from-first, to-last}

-- ---- refusals

-- where nothing is refused, the error is out of memory
pub owed-memory : {A : Type 0} (refusal : Option Refusal) (r : Result A Fault) → None ≡ refusal → IsErrAnd r (λ e. e ≡ NoMemory) → IfErr r (IsOwed refusal)
owed-memory refusal (Ok x) none h = tt
owed-memory refusal (Err e) none h = subst (λ (o : Option Refusal). IsOwed o e) none h

pub known-id : (s : Source) (id : ℕ) → list_any (λ f. f.id == id) s.folds ≡ true → None ≡ unfold_refusal s id
known-id s id e = ap {B = Option Refusal} (λ (b : Bool). cond b None (Some UnknownId)) (sym e)

pub unknown-id : (s : Source) (id : ℕ) → list_any (λ f. f.id == id) s.folds ≡ false → Some UnknownId ≡ unfold_refusal s id
unknown-id s id e = ap {B = Option Refusal} (λ (b : Bool). cond b None (Some UnknownId)) (sym e)

-- ---- pending replacements

abbrev pub IsOrdered : Option Reach → Type 0
IsOrdered pending = (s : Reach) → pending ≡ Some s → s.start ≤ s.end

pub ordered-pending : (p : Option Shift) → IsOrdered (option_map reach_of p)
ordered-pending None s e = absurd (cc)
ordered-pending (Some f) s e = subst (λ (r : Reach). r.start ≤ r.end) (some-same (reach_of f) s e) f.ordered where
  some-same : (x y : Reach) → Some x ≡ Some y → x ≡ y
  some-same x y h = cc

-- at first, and right after a `sync`
pub kept-none : (s : Source) → IsKept s s None
kept-none s = record { below = refl; leads = refl }

-- ---- nothing moves

still : (ts : List Token) → ts ≡ map (token_after None) ts
still [] = refl
still (Byte o b ∷ ts) = ap (λ l. Byte o b ∷ l) (still ts)
still (InlayByte o id b ∷ ts) = ap (λ l. InlayByte o id b ∷ l) (still ts)
still (Hidden o ∷ ts) = ap (λ l. Hidden o ∷ l) (still ts)

pub still-leads : (l : List Token) (start end : ℕ) → start ≤ end → end ≤ length l → Leads (map (token_after None)) l l (record { start = start; end = end; count = end - start })
still-leads l start end order within =
    let there : start + (end - start) ≡ end = omega (arith, order) in
    record {
      within = within;
      reaches = omega (arith, order, within);
      before = refl;
      behind = ap (λ k. drop k l) there ∙ still (drop end l);
    }

-- a change within a range is one within a wider one
pub wider : (old new : List Fold) (start end start' end' : ℕ) → AreAlike old new start end end → start' ≤ start → end ≤ end' → AreAlike old new start' end' end'
wider old new start end start' end' a l u = record {
  order = let o = a.order in omega (arith, o, l, u);
  reach = let o = a.order in omega (arith, o, l, u);
  covered_before = λ k x. a.covered_before k (omega (arith, x, l));
  inside_before = λ k x. a.inside_before k (omega (arith, x, l));
  start_open = opens;
  covered_behind = λ d. let e : end + (end' - end + d) ≡ end' + d = omega (arith, u) in ap (covered new) (sym e) ∙ a.covered_behind (end' - end + d) ∙ ap (covered old) e;
  inside_behind = λ d x. let e : end + (end' - end + d) ≡ end' + d = omega (arith, u) in ap (inside new) (sym e) ∙ a.inside_behind (end' - end + d) (omega (arith, x)) ∙ ap (inside old) e;
} where
  opens : inside old start' ≡ false → inside new start' ≡ false
  opens out = go (cases_lt start' start) where
    go : (start' < start) ⊎ (start ≤ start') → inside new start' ≡ false
    go (inl x) = a.inside_before start' x ∙ out
    go (inr x) =
        let e : start ≡ start' = omega (arith, x, l) in
        subst (λ (k : ℕ). inside new k ≡ false) e (a.start_open (subst (λ (k : ℕ). inside old k ≡ false) (sym e) out))

pub wider-end : (old new : List Fold) (start end end' : ℕ) → AreAlike old new start end end → (inside old end ≡ false → inside new end ≡ false) → end ≤ end' → inside old end' ≡ false → inside new end' ≡ false
wider-end old new start end end' a opens u out = go (cases_lt end end') where
  go : (end < end') ⊎ (end' ≤ end) → inside new end' ≡ false
  go (inl x) = let e : end + (end' - end) ≡ end' = omega (arith, u) in ap (inside new) (sym e) ∙ a.inside_behind (end' - end) (omega (arith, x)) ∙ ap (inside old) e ∙ out
  go (inr x) =
      let e : end ≡ end' = omega (arith, x, u) in
      subst (λ (k : ℕ). inside new k ≡ false) e (opens (subst (λ (k : ℕ). inside old k ≡ false) (sym e) out))

-- what is shown has a place for each of its bytes
pub places-fit : (s : Source) → IsLawful s → length (layer_places s) < 2 ^ 32
places-fit s is = let f = is.fits in omega (arith, f, length-at_places (folded_to s.text s.inlays s.folds (length s.text) Right))

-- ---- a fold was added or removed

module _ (current next : Source) (f : Fold) (is : IsLawful current) (is' : IsLawful next) (d : DifferWithin current next f) where
  abbrev start : ℕ
  start = shown_from current f.start

  abbrev end : ℕ
  end = shown_to current f.end

  first : start ≤ f.start
  first = (from-first current f.start is.formed.text.0 d.start).1

  last : f.end ≤ end
  last = (to-last current f.end is.formed.text.0 d.end).1

  within : end ≤ length current.text
  within = (to-last current f.end is.formed.text.0 d.end).0.0

  order : start ≤ end
  order = let o = d.alike.order in let a = first in let b = last in omega (arith, o, a, b)

  abbrev low : Source
  low = unfolded current

  low-order : place_of low start Left ≤ place_of low end Right
  low-order = omega (arith, places-left_first low start, places-rise low start end Right order within)

  pub change-order : (fold_change current next f).start ≤ (fold_change current next f).end
  change-order = omega (arith, places-left_first current start, places-rise current start end Right order within)

  low-leads : Leads (map (token_after None)) (layer_places low) (layer_places (unfolded next)) (record { start = place_of low start Left; end = place_of low end Right; count = place_of low end Right - place_of low start Left })
  low-leads =
      subst (λ (v : Source). Leads (map (token_after None)) (layer_places low) (layer_places v) (record { start = place_of low start Left; end = place_of low end Right; count = place_of low end Right - place_of low start Left }))
      (sym d.below)
      (still-leads (layer_places low) (place_of low start Left) (place_of low end Right) low-order
      (omega (arith, place-le low end Right within, length-at_places (folded_to low.text low.inlays low.folds (length low.text) Right))))

  pub turned-leads : LayerLeads None current next (Some (fold_change current next f))
  turned-leads =
      change-leads None current next is.joined is.all is'.all.0 start end end
      (wider current.folds next.folds f.start f.end start end d.alike first last)
      (wider-end current.folds next.folds f.start f.end end d.alike d.end_open last)
      within
      (record { start = place_of low start Left; end = place_of low end Right; count = place_of low end Right - place_of low start Left })
      low-leads low-order (omega arith) (omega arith)
      (λ o l. omega (arith, l))

  pub kept-turned : (shown : Source) (pending : Option Reach) → IsOrdered pending → IsKept current shown pending → IsKept next shown (with_pending pending (Some (fold_change current next f)))
  kept-turned shown pending ordered kept = record {
    below = d.below ∙ kept.below;
    leads = covers None shown current next pending (fold_change current next f) ordered change-order kept.leads turned-leads;
  }

  pub turned-fits : (shown : Source) → IsLawful shown → (p : Option Shift) → IsKept current shown (option_map reach_of p) → (x : Shift) → p ≡ Some x → CoverFits (reach_of x) (fold_change current next f)
  turned-fits shown was p kept x e =
      let l : LayerLeads None shown current (Some (reach_of x)) = subst (λ (q : Option Shift). LayerLeads None shown current (option_map reach_of q)) e kept.leads in
      lists-fit (token_after None) (token_after None) (layer_places shown) (layer_places current) (layer_places next) (reach_of x) (fold_change current next f)
      x.ordered change-order l turned-leads (places-fit shown was) (places-fit current is) (places-fit next is')
