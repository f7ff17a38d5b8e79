-- A replacement of a text with inlays that an inlay map returns reaches over what was replaced of the text.
use Rattle.std.proofs.Common.{◌≡◌, ℕ, ◌+◌, ◌-◌, ◌<◌, ◌≤◌, List, [], length, map, Option, Some, None, refl, sym, ap, ◌∙◌, subst, inl, inr, ◌⊎◌, arith}
use Rattle.std.proofs.lemmas.Bool.{cases_lt}
use Rattle.cell_units.specs.declared.place.Bias.TheVariants.{Left, Right}
use Rattle.cell_units.specs.Inlaid.{Token}
use Rattle.cell_units.specs.Lawful.{IsWellFormed}
use Rattle.cell_units.specs.Layers.{Source, inlay_source, place_of, shown_text}
use Rattle.cell_units.specs.Record.{Inlay}
use Rattle.cell_units.proofs.ShownPlaces.{places-left_first}
use Rattle.edit_patch.specs.Covering.{covering, with_pending}
use Rattle.edit_patch.specs.LayerLeads.{LayerLeads, token_after}
use Rattle.edit_patch.specs.Leads.{Leads, Reach}
use Rattle.inlay_map.specs.InlaidShifts.{inlaid_shift}
use Rattle.inlay_map.specs.Maps.{InlayState, answer_of, source_after}
use Rattle.inlay_map.proofs.MapStates.{source-is}
use Rattle.fold_map.specs.Synced.{MeetsRows, row_end_at, row_start_at}
use Rattle.fold_map.proofs.MapPlaces.{left-before, right-behind}
use Rattle.fold_map.proofs.MapTokens.{bare, layer-is, place-size}
use Rattle.fold_map.proofs.Places.{low-apart}
use Rattle.fold_map.proofs.StateSynced.{row-end-behind, row-end-within, row-start-by, rows-order}

-- ---- places before and after what other inlays replace of what is shown

module _ (text : List ℕ) (is js : List Inlay) (p : Reach) (leads : LayerLeads None (inlay_source text is) (inlay_source text js) (Some p)) where
  abbrev old : Source
  old = inlay_source text is

  abbrev new : Source
  new = inlay_source text js

  abbrev n : ℕ
  n = length text

  bare-leads : Leads (map (token_after None)) (bare text is) (bare text js) p
  bare-leads = subst (λ (q : List Token × List Token). Leads (map (token_after None)) q.0 q.1 p) (λ i. (layer-is text is i, layer-is text js i)) leads

  -- a place that isn't after its start stays
  left-stays : (o : ℕ) → o ≤ n → place_of old o Left ≤ p.start → place_of new o Left ≡ place_of old o Left
  left-stays o le h =
      let w = bare-leads.within in
      left-before None text text is js p bare-leads o n n le (omega arith) le (omega arith) h (omega (arith, w, place-size text is n Right)) (λ q l. omega (arith, l)) o (omega arith)

  -- one that isn't before its end is moved along
  right-moves : (o : ℕ) → o ≤ n → p.end ≤ place_of old o Right → place_of new o Right ≡ place_of old o Right - p.end + (p.start + p.count)
  right-moves o le h =
      let on : o - o + o ≡ o = omega arith in
      ap (λ k. place_of new k Right) (sym on)
      ∙ right-behind None text text is js p bare-leads 0 o o (omega arith) le (omega arith) (omega (arith, le)) (omega arith) h (λ q l. omega (arith, l)) o (omega arith) le

-- ---- what is returned reaches from the place of the start to that of the end

-- a replacement of what is shown reaches over that of the text from one offset to another
pub record ReachesOver (v : Source) (a b : ℕ) (r : Reach) : Type 0 where
  pub first : r.start ≤ place_of v a Left
  pub last : place_of v b Right ≤ r.end

module _ (text : List ℕ) (is js : List Inlay) (a b : ℕ) (order : a ≤ b) (within : b ≤ length text) (q : Reach)
    (start : q.start ≡ place_of (inlay_source text js) a Left) (end : q.end ≡ place_of (inlay_source text js) b Right) where
  -- where inlays were added or removed before
  covers : (p : Reach) → LayerLeads None (inlay_source text is) (inlay_source text js) (Some p) → ReachesOver (inlay_source text is) a b (covering p q)
  covers p leads = record {
    first = first (cases_lt p.start (place_of (inlay_source text is) a Left));
    last = last (cases_lt (place_of (inlay_source text is) b Right) p.end);
  } where
    first : (p.start < place_of (inlay_source text is) a Left) ⊎ (place_of (inlay_source text is) a Left ≤ p.start) → (covering p q).start ≤ place_of (inlay_source text is) a Left
    first (inl x) = omega (arith, x)
    first (inr x) = omega (arith, x, start, left-stays text is js p leads a (omega (arith, order, within)) x)

    last : (place_of (inlay_source text is) b Right < p.end) ⊎ (p.end ≤ place_of (inlay_source text is) b Right) → place_of (inlay_source text is) b Right ≤ (covering p q).end
    last (inl x) = omega (arith, x)
    last (inr x) = omega (arith, x, end, right-moves text is js p leads b within x)

pub never-none : (p : Option Reach) (q : Reach) → with_pending p (Some q) ≡ None → ⊥
never-none None q e = absurd (cc)
never-none (Some p) q e = absurd (cc)

some-same : (x y : Reach) → Some x ≡ Some y → x ≡ y
some-same x y h = cc

module _ (inlays : InlayState) (none : inlays.current.folds ≡ []) (none' : inlays.shown.folds ≡ []) (same : inlays.current.text ≡ inlays.shown.text) (led : LayerLeads None inlays.shown inlays.current inlays.pending)
    (settled : inlays.pending ≡ None → inlays.current ≡ inlays.shown) where
  abbrev text : List ℕ
  text = inlays.current.text

  before-is : inlay_source text inlays.shown.inlays ≡ inlays.shown
  before-is = (λ i. inlay_source (same i) inlays.shown.inlays) ∙ source-is inlays.shown none'

  now-is : inlay_source text inlays.current.inlays ≡ inlays.current
  now-is = source-is inlays.current none

  pub answer-reaches : (next : List ℕ) (s : Reach) → s.start ≤ s.end → s.end ≤ length text → (r : Reach) → answer_of next (Some s) inlays ≡ Some r → ReachesOver inlays.shown s.start s.end r
  answer-reaches next s order within r answer = go inlays.pending refl where
    q : Reach
    q = inlaid_shift inlays.current (source_after next (Some s) inlays.current) s

    go : (p : Option Reach) → inlays.pending ≡ p → ReachesOver inlays.shown s.start s.end r
    go None e =
        let is : q ≡ r = some-same q r (ap (λ (p : Option Reach). with_pending p (Some q)) (sym e) ∙ answer) in
        subst (λ (v : Source). ReachesOver v s.start s.end r) (settled e)
        (subst (ReachesOver inlays.current s.start s.end) is (record { first = omega arith; last = omega arith }))
    go (Some p) e =
        let is : covering p q ≡ r = some-same (covering p q) r (ap (λ (x : Option Reach). with_pending x (Some q)) (sym e) ∙ answer) in
        let leads : LayerLeads None (inlay_source text inlays.shown.inlays) (inlay_source text inlays.current.inlays) (Some p) =
        subst (λ (x : Option Reach). LayerLeads None (inlay_source text inlays.shown.inlays) (inlay_source text inlays.current.inlays) x) e
        (subst (λ (v : Source × Source). LayerLeads None v.0 v.1 inlays.pending) (λ i. (sym before-is i, sym now-is i)) led) in
        subst (λ (v : Source). ReachesOver v s.start s.end r) before-is
        (subst (ReachesOver (inlay_source text inlays.shown.inlays) s.start s.end) is
        (covers text inlays.shown.inlays inlays.current.inlays s.start s.end order within q
        (ap (λ (v : Source). place_of v s.start Left) (sym now-is)) (ap (λ (v : Source). place_of v s.end Right) (sym now-is)) p leads))

-- ---- so it meets the rows of what was replaced of the text

module _ (text : List ℕ) (is : List Inlay) (formed : IsWellFormed (inlay_source text is)) where
  abbrev v : Source
  v = inlay_source text is

  pub meets-rows : (s r : Reach) → s.start ≤ s.end → s.end ≤ length text → r.start ≤ r.end → r.end ≤ length (shown_text v) → ReachesOver v s.start s.end r → MeetsRows v s r
  meets-rows s r order within ordered shown over = record { first = first (cases_lt s.start (row_start_at v r.start)); last = last (cases_lt (row_end_at v r.end) s.end) } where
    first : (s.start < row_start_at v r.start) ⊎ (row_start_at v r.start ≤ s.start) → row_start_at v r.start ≤ s.start
    first (inr x) = x
    first (inl x) =
        let at = row-start-by v refl formed r.start (omega (arith, ordered, shown)) in
        let row = rows-order v refl formed r.start r.end ordered shown in
        let end = row-end-within v refl formed r.end shown in
        let apart = low-apart text is s.start (row_start_at v r.start) x (omega (arith, row, end)) in
        let h = over.first in
        absurd (omega (arith, at, apart, h, places-left_first v s.start))

    last : (row_end_at v r.end < s.end) ⊎ (s.end ≤ row_end_at v r.end) → s.end ≤ row_end_at v r.end
    last (inr x) = x
    last (inl x) =
        let at = row-end-behind v refl formed r.end shown in
        let apart = low-apart text is (row_end_at v r.end) s.end x within in
        let h = over.last in
        absurd (omega (arith, at, apart, h, places-left_first v s.end))
