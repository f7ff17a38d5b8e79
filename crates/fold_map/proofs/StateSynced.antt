-- What a replacement of the layer leaves of a source with folds.
use Rattle.std.proofs.Common.{◌≡◌, ℕ, ◌+◌, ◌-◌, ◌<◌, ◌≤◌, false, List, [], length, map, Option, Some, None, refl, sym, ap, ◌∙◌, subst, inl, inr, ◌⊎◌, arith}
use Rattle.std.proofs.lemmas.Bool.{cases_lt}
use Rattle.std.proofs.lemmas.List.{length-drop}
use Rattle.cell_units.specs.declared.place.Bias.{Bias}
use Rattle.cell_units.specs.declared.place.Bias.TheVariants.{Left, Right}
use Rattle.cell_units.specs.BufferLines.{line_end, line_start}
use Rattle.cell_units.specs.Folded.{folded_to, inside}
use Rattle.cell_units.specs.Inlaid.{Token}
use Rattle.cell_units.specs.Lawful.{AreFolds, IsFoldOf, IsWellFormed}
use Rattle.cell_units.specs.Layers.{Source, inlay_source, line_tokens, place_of, shown_text, span_of, unfolded}
use Rattle.cell_units.specs.Record.{Fold, Inlay, fold_le, line_count}
use Rattle.cell_units.specs.Text.{IsBoundary, row_of}
use Rattle.cell_units.proofs.BufferLines.{line_bounds, row_of_start}
use Rattle.cell_units.proofs.Moves.{move-above}
use Rattle.cell_units.proofs.PlainLayers.{no_entries}
use Rattle.cell_units.proofs.ReplacedRows.{row_of-le}
use Rattle.cell_units.proofs.ShownPlaces.{places-rise}
use Rattle.joined_folds.specs.Windows.{AreAlike, moved_on}
use Rattle.joined_folds.proofs.Alike.{moved-alike}
use Rattle.edit_patch.specs.LayerLeads.{LayerLeads, layer_places, offset_after, token_after}
use Rattle.edit_patch.specs.Leads.{Leads, LeadsIfAny, Reach, unmoved}
use Rattle.edit_patch.proofs.TokenPlaces.{length-at_places}
use Rattle.text_rope.proofs.RowStarts.{end_boundary, start_boundary}
use Rattle.fold_map.specs.Amounts.{amount_between, line_at}
use Rattle.fold_map.specs.Changes.{AreSameAround, IsChange}
use Rattle.fold_map.specs.Positions.{position_of}
use Rattle.fold_map.specs.Snapshots.{IsLawful}
use Rattle.fold_map.specs.Synced.{Follows, MeetsTouched, StandAfter, end_after, folds_after, layer_change, row_end_at, row_start_at, source_after}
use Rattle.fold_map.proofs.MapLeads.{change-leads}
use Rattle.fold_map.proofs.MapPlaces.{left-before, line-before, line-behind, next-left, place-behind, right-before}
use Rattle.fold_map.proofs.MapRows.{end-row, ends-behind, one-row, rise, starts-by, start-row, there}
use Rattle.fold_map.proofs.MapTokens.{bare, layer-is}
use Rattle.fold_map.proofs.Positions.{unfold-same}
use Rattle.fold_map.proofs.StateMoved.{end-open, move-end, moved-lawful}

-- ---- positions outside of a replacement stay, moved

module _ (shift : Option Reach) (text text' : List ℕ) (inlays inlays' : List Inlay) (s : Reach) (leads : Leads (map (token_after shift)) (bare text inlays) (bare text' inlays') s)
    (start end last : ℕ) (order : start ≤ end) (within : end ≤ length text) (reach : start ≤ last) (size : length text' ≡ moved_on end last (length text))
    (first : place_of (inlay_source text inlays) start Left ≤ s.start) (second : s.end ≤ place_of (inlay_source text inlays) end Right)
    (moves : (o : ℕ) → end ≤ o → offset_after shift o ≡ moved_on end last o) where
  abbrev low : Source
  low = inlay_source text inlays

  abbrev low' : Source
  low' = inlay_source text' inlays'

  left-stays : (o : ℕ) → o ≤ start → position_of low' o Left ≡ position_of low o Left
  left-stays o l =
      let place = left-before shift text text' inlays inlays' s leads start end last order within reach size first second moves o l in
      let line = line-before shift text text' inlays inlays' s leads start end last order within reach size first second moves o Left (omega (arith, l, order, within)) (omega (arith, l, order, within, reach, size)) place
      (omega (arith, first, places-rise low o start Left l (omega (arith, order, within)))) in
      λ i. record { offset = o; place = place i; line = line i }

  right-stays : (o : ℕ) → o < start → position_of low' o Right ≡ position_of low o Right
  right-stays o l =
      let place = right-before shift text text' inlays inlays' s leads start end last order within reach size first second moves o l in
      let next = next-left text inlays o (omega (arith, l, order, within)) in
      let line = line-before shift text text' inlays inlays' s leads start end last order within reach size first second moves o Right (omega (arith, l, order, within)) (omega (arith, l, order, within, reach, size)) place
      (omega (arith, next, first, places-rise low (o + 1) start Left (omega (arith, l)) (omega (arith, order, within)))) in
      λ i. record { offset = o; place = place i; line = line i }

  behind-stays : (o p : ℕ) (b b' : Bias) → end < o → o ≤ p → p ≤ length text → amount_between low' (moved_on end last o) b (moved_on end last p) b' ≡ amount_between low o b p b'
  behind-stays o p b b' l r u =
      let at = place-behind shift text text' inlays inlays' s leads start end last order within reach size first second moves o b l (omega (arith, r, u)) in
      let to = place-behind shift text text' inlays inlays' s leads start end last order within reach size first second moves p b' (omega (arith, l, r)) u in
      let line = line-behind shift text text' inlays inlays' s leads start end last order within reach size first second moves o b l (omega (arith, r, u)) in
      let line' = line-behind shift text text' inlays inlays' s leads start end last order within reach size first second moves p b' (omega (arith, l, r)) u in
      let buffer : moved_on end last p - moved_on end last o ≡ p - o = omega (arith, l, r) in
      let bytes : place_of low' (moved_on end last p) b' - place_of low' (moved_on end last o) b ≡ place_of low p b' - place_of low o b = let x = at.1 in let y = to.1 in omega (arith, at.0, to.0, x, y) in
      let feeds : line_at low' (moved_on end last p) b' - line_at low' (moved_on end last o) b ≡ line_at low p b' - line_at low o b = omega (arith, line, line') in
      λ i. record { buffer = buffer i; bytes = bytes i; feeds = feeds i }

  pub same-around : AreSameAround low low' start end last
  same-around = record { left = left-stays; right = right-stays; behind = behind-stays }

-- ---- the rows of the lines that a replacement meets

module _ (v : Source) (bare : v.folds ≡ []) (formed : IsWellFormed v) where
  low-formed : IsWellFormed (unfolded v)
  low-formed = subst IsWellFormed (unfold-same v bare) formed

  row-counts : (place : ℕ) → (span_of (unfolded v) (row_of (shown_text (unfolded v)) place)).0 < line_count v.text
  row-counts place = start-row v.text _

  one-end : (place : ℕ) → place ≤ length (shown_text (unfolded v)) → line_end v.text (span_of (unfolded v) (row_of (shown_text (unfolded v)) place)).0 ≡ row_end_at (unfolded v) place
  one-end place within =
      ap (line_end v.text) (one-row v.text v.inlays low-formed (row_of (shown_text (unfolded v)) place) (there v.text v.inlays low-formed place within))

  pub row-start-by : (place : ℕ) → place ≤ length (shown_text (unfolded v)) → place_of (unfolded v) (row_start_at (unfolded v) place) Left ≤ place
  row-start-by place within = starts-by v.text v.inlays low-formed place within

  pub row-end-behind : (place : ℕ) → place ≤ length (shown_text (unfolded v)) → place ≤ place_of (unfolded v) (row_end_at (unfolded v) place) Right
  row-end-behind place within = omega (arith, ends-behind v.text v.inlays low-formed place within, ap (λ o. place_of (unfolded v) o Right) (one-end place within))

  pub row-end-within : (place : ℕ) → place ≤ length (shown_text (unfolded v)) → row_end_at (unfolded v) place ≤ length v.text
  row-end-within place within =
      let b = line_bounds v.text (span_of (unfolded v) (row_of (shown_text (unfolded v)) place)).0 (row-counts place) in
      let e = one-end place within in
      omega (arith, b, e)

  pub rows-order : (p q : ℕ) → p ≤ q → q ≤ length (shown_text (unfolded v)) → row_start_at (unfolded v) p ≤ row_end_at (unfolded v) q
  rows-order p q l u =
      let text = v.text in
      let shown = shown_text (unfolded v) in
      let a = (span_of (unfolded v) (row_of shown p)).0 in
      let b = (span_of (unfolded v) (row_of shown q)).0 in
      let rises : a ≤ b = rise text v.inlays low-formed (row_of shown p) (row_of shown q) (row_of-le shown p q l) (there text v.inlays low-formed q u) in
      let bounds = line_bounds text b (row-counts q) in
      let e = one-end q u in
      omega (arith, bounds, e, starts a b rises (row-counts p) (row-counts q)) where
        starts : (a b : ℕ) → a ≤ b → a < line_count v.text → b < line_count v.text → line_start v.text a ≤ line_start v.text b
        starts a b l x y = go (cases_lt (line_start v.text b) (line_start v.text a)) where
          go : (line_start v.text b < line_start v.text a) ⊎ (line_start v.text a ≤ line_start v.text b) → line_start v.text a ≤ line_start v.text b
          go (inr z) = z
          go (inl z) =
              let same : a ≡ b = omega (arith, l, row_of_start v.text a x, row_of_start v.text b y, row_of-le v.text (line_start v.text b) (line_start v.text a) (omega (arith, z))) in
              absurd (omega (arith, z, ap (line_start v.text) same))

  pub row-start-in : (place : ℕ) → IsBoundary v.text (row_start_at (unfolded v) place)
  row-start-in place = start_boundary v.text (span_of (unfolded v) (row_of (shown_text (unfolded v)) place)).0 formed.text.0 (row-counts place)

  pub row-end-in : (place : ℕ) → IsBoundary v.text (row_end_at (unfolded v) place)
  row-end-in place = end_boundary v.text (span_of (unfolded v) (row_of (shown_text (unfolded v)) place)).1 formed.text.0 (end-row v.text (line_tokens (unfolded v) (row_of (shown_text (unfolded v)) place)))

-- ---- the folds, moved

pub folds-alike : (shift : Option Reach) (folds : List Fold) (start end : ℕ) → start ≤ end → ((r : Reach) → shift ≡ Some r → (r.start ≤ r.end) × (start ≤ r.start) × (r.end ≤ end))
    → AreAlike folds (folds_after shift folds) start end (end_after shift end)
folds-alike None folds start end order h = record {
  order = order;
  reach = order;
  covered_before = λ k l. refl;
  inside_before = λ k l. refl;
  start_open = λ out. out;
  covered_behind = λ d. refl;
  inside_behind = λ d l. refl;
}
folds-alike (Some r) folds start end order h = let x = h r refl in moved-alike folds r.start r.end r.count start end x.0 x.1 x.2

pub folds-open : (shift : Option Reach) (folds : List Fold) (end : ℕ) → ((r : Reach) → shift ≡ Some r → (r.start ≤ r.end) × (r.end ≤ end)) → inside folds end ≡ false → inside (folds_after shift folds) (end_after shift end) ≡ false
folds-open None folds end h out = out
folds-open (Some r) folds end h out = go (cases_lt r.end end) (h r refl) where
  go : (r.end < end) ⊎ (end ≤ r.end) → (r.start ≤ r.end) × (r.end ≤ end) → inside (folds_after (Some r) folds) (end_after (Some r) end) ≡ false
  go (inl l) x =
      let a = moved-alike folds r.start r.end r.count r.start r.end x.0 (omega arith) (omega arith) in
      let there : end_after (Some r) end ≡ moved_on r.end (r.start + r.count) r.end + (end - r.end) = omega (arith, l) in
      let here : r.end + (end - r.end) ≡ end = omega (arith, l) in
      ap (inside (folds_after (Some r) folds)) there ∙ a.inside_behind (end - r.end) (omega (arith, l)) ∙ ap (inside folds) here ∙ out
  go (inr l) x =
      let e : end ≡ r.end = let y = x.1 in omega (arith, l, y) in
      let there : end_after (Some r) end ≡ r.start + r.count = omega (arith, e) in
      ap (inside (folds_after (Some r) folds)) there ∙ end-open r.start r.end r.count x.0 folds (subst (λ (k : ℕ). inside folds k ≡ false) e out)

pub end-moves : (shift : Option Reach) (end : ℕ) → ((r : Reach) → shift ≡ Some r → (r.start ≤ r.end) × (r.end ≤ end)) → (o : ℕ) → end ≤ o → offset_after shift o ≡ moved_on end (end_after shift end) o
end-moves None end h o l = omega (arith, l)
end-moves (Some r) end h o l = go (cases_lt r.end o) (h r refl) where
  go : (r.end < o) ⊎ (o ≤ r.end) → (r.start ≤ r.end) × (r.end ≤ end) → offset_after (Some r) o ≡ moved_on end (end_after (Some r) end) o
  go (inl x) y = let a = y.0 in let b = y.1 in omega (arith, a, b, x, l, move-above o Right r.start r.end r.count a x)
  go (inr x) y =
      let a = y.0 in
      let b = y.1 in
      let e : r.end ≡ o = omega (arith, x, b, l) in
      omega (arith, a, b, x, l, move-end r.start r.end r.count a, ap (λ k. offset_after (Some r) k) e)

-- the size of the new text
pub text-size : (shift : Option Reach) (text text' : List ℕ) (end : ℕ) → LeadsIfAny unmoved text text' shift → ((r : Reach) → shift ≡ Some r → (r.start ≤ r.end) × (r.end ≤ end)) → end ≤ length text
    → length text' ≡ moved_on end (end_after shift end) (length text)
text-size None text text' end led h u = omega (arith, u, ap (λ l. length l) led)
text-size (Some r) text text' end led h u =
    let x = h r refl in
    let a = x.0 in
    let b = x.1 in
    let w = led.within in
    let t = led.reaches in
    omega (arith, a, b, u, w, t, ap (λ l. length l) led.behind, length-drop (r.start + r.count) text', length-drop r.end text)

pub folds-lawful : (shift : Option Reach) (text text' : List ℕ) (folds : List Fold) → LeadsIfAny unmoved text text' shift → AreFolds text folds → StandAfter text' shift folds → AreFolds text' (folds_after shift folds)
folds-lawful None text text' folds led are stand = subst (λ (t : List ℕ). AreFolds t folds) (sym led) are
folds-lawful (Some r) text text' folds led are stand = moved-lawful text text' r.start r.end r.count folds are stand

-- ---- the change of a snapshot

pub met-rows : (low : Source) (shift : Option Reach) (below : Reach) → MeetsTouched low shift (Some below) → (r : Reach) → shift ≡ Some r → (row_start_at low below.start ≤ r.start) × (r.end ≤ row_end_at low below.end)
met-rows low None below m r e = absurd (cc e)
met-rows low (Some s) below m r e = subst (λ (x : Reach). (row_start_at low below.start ≤ x.start) × (x.end ≤ row_end_at low below.end)) (some-same s r e) (m.first, m.last) where
  some-same : (x y : Reach) → Some x ≡ Some y → x ≡ y
  some-same x y h = cc

module _ (s : Source) (is : IsLawful s) (layer : Source) (formed : IsWellFormed layer) (shift : Option Reach) (ordered : (r : Reach) → shift ≡ Some r → r.start ≤ r.end) (below : Reach) (order : below.start ≤ below.end)
    (f : Follows s layer shift (Some below)) where
  abbrev start : ℕ
  start = row_start_at (unfolded s) below.start

  abbrev end : ℕ
  end = row_end_at (unfolded s) below.end

  abbrev last : ℕ
  last = end_after shift end

  pub low-is : IsWellFormed (unfolded s)
  low-is = record { text = is.formed.text; inlays = is.formed.inlays; folds = no_entries fold_le (λ g. g.id) (IsFoldOf s.text) }

  pub below-within : below.end ≤ length (shown_text (unfolded s))
  below-within = let w = f.leads.within in omega (arith, w, length-at_places (folded_to s.text s.inlays [] (length s.text) Right))

  pub start-within : below.start ≤ length (shown_text (unfolded s))
  start-within = let w = below-within in omega (arith, w, order)

  pub rows-in_order : start ≤ end
  rows-in_order = rows-order (unfolded s) refl low-is below.start below.end order below-within

  pub end-within : end ≤ length s.text
  end-within = row-end-within (unfolded s) refl low-is below.end below-within

  met : (r : Reach) → shift ≡ Some r → (r.start ≤ r.end) × (start ≤ r.start) × (r.end ≤ end)
  met r e = let m = met-rows (unfolded s) shift below f.meets r e in (ordered r e, m.0, m.1)

  pub met-end : (r : Reach) → shift ≡ Some r → (r.start ≤ r.end) × (r.end ≤ end)
  met-end r e = let m = met r e in (m.0, m.2)

  pub last-size : length layer.text ≡ moved_on end last (length s.text)
  last-size = text-size shift s.text layer.text end f.text met-end end-within

  alike : AreAlike s.folds (folds_after shift s.folds) start end last
  alike = folds-alike shift s.folds start end rows-in_order met

  low-leads : Leads (map (token_after shift)) (layer_places (unfolded s)) (layer_places (unfolded layer)) below
  low-leads = subst (λ (v : Source). Leads (map (token_after shift)) (layer_places (unfolded s)) (layer_places v) below) (unfold-same layer f.bare) f.leads

  bare-leads : Leads (map (token_after shift)) (bare s.text s.inlays) (bare layer.text layer.inlays) below
  bare-leads = subst (λ (p : List Token × List Token). Leads (map (token_after shift)) p.0 p.1 below) (λ i. (layer-is s.text s.inlays i, layer-is layer.text layer.inlays i)) low-leads

  pub new-formed : IsWellFormed (source_after layer shift s)
  new-formed = record { text = formed.text; inlays = formed.inlays; folds = folds-lawful shift s.text layer.text s.folds f.text is.formed.folds f.stand }

  pub moved-change : IsChange s (source_after layer shift s) (record { start = start; end = end; last = last })
  moved-change = record {
    formed = new-formed;
    fits = f.fits;
    within = end-within;
    text = last-size;
    alike = alike;
    around =
        same-around shift s.text layer.text s.inlays layer.inlays below bare-leads start end last rows-in_order end-within alike.reach last-size
        (row-start-by (unfolded s) refl low-is below.start start-within) (row-end-behind (unfolded s) refl low-is below.end below-within) (end-moves shift end met-end);
  }

  pub moved-leads : LayerLeads shift s (source_after layer shift s) (Some (layer_change s (source_after layer shift s) below))
  moved-leads =
      change-leads shift s (source_after layer shift s) is.joined is.all (λ k d h. (new-formed.folds.each k d h).end.0) start end last alike (folds-open shift s.folds end met-end) end-within below low-leads order
      (row-start-by (unfolded s) refl low-is below.start start-within) (row-end-behind (unfolded s) refl low-is below.end below-within) (end-moves shift end met-end)
