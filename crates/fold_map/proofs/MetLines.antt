-- The lines that a `sync` replaces, where one thing changed since the last one.
use Rattle.std.proofs.Common.{◌≡◌, ℕ, ◌+◌, ◌-◌, ◌<◌, ◌≤◌, ◌↔◌, ◌==◌, Bool, true, false, cond, List, [], length, map, take, drop, Option, option_map, Some, None, refl, sym, ap, ◌∙◌, subst, arith}
use Rattle.std.specs.List.{Contains}
use Rattle.std.proofs.lemmas.Bool.{eqb-true}
use Rattle.std.proofs.lemmas.List.{drop-drop, take-take}
use Rattle.cell_units.specs.declared.place.Bias.TheVariants.{Left, Right}
use Rattle.cell_units.specs.declared.place.Shift.{Shift}
use Rattle.cell_units.specs.BufferLines.{line_end, line_start}
use Rattle.cell_units.specs.Folded.{folded_to, inside, line_of}
use Rattle.cell_units.specs.Inlaid.{Token}
use Rattle.cell_units.specs.Lawful.{AreFolds, IsFoldOf, IsWellFormed}
use Rattle.cell_units.specs.Layers.{Source, line_tokens, place_of, shown_lines, shown_text, span_of, unfolded}
use Rattle.cell_units.specs.Record.{Fold, fold_le}
use Rattle.cell_units.specs.Text.{row_end, row_of, row_start}
use Rattle.cell_units.proofs.BufferLines.{row_of_end, row_of_start}
use Rattle.cell_units.proofs.PlainLayers.{no_entries}
use Rattle.cell_units.proofs.ShownPlaces.{place-le, places-left_first, places-rise}
use Rattle.cell_units.proofs.Sources.{row-lt}
use Rattle.joined_folds.specs.Windows.{AreAlike, moved_on}
use Rattle.joined_folds.proofs.Sweeps.{all-at}
use Rattle.edit_patch.specs.LayerLeads.{LayerLeads, layer_places, offset_after, token_after}
use Rattle.edit_patch.specs.Leads.{Leads, LeadsIfAny, Reach, reach_of, unmoved}
use Rattle.edit_patch.proofs.TokenPlaces.{length-at_places}
use Rattle.text_rope.proofs.Layers.{row_end_is}
use Rattle.text_rope.proofs.RowStarts.{row_start_is}
use Rattle.fold_map.specs.Amounts.{line_at}
use Rattle.fold_map.specs.Maps.{DifferWithin, fold_change, folded_up, opened_up, shown_from, shown_to, state_of, turned_to, with_fold, without}
use Rattle.fold_map.specs.MetLines.{HasRowOf, IsOverMet, MeetsJust, MeetsLine, SpansMeet, Syncs}
use Rattle.fold_map.specs.Snapshots.{fold_refusal, with_folds}
use Rattle.fold_map.specs.Synced.{Follows, end_after, layer_change, row_end_at, row_start_at, source_after}
use Rattle.fold_map.proofs.MapRows.{end-row, one-row, start-row}
use Rattle.fold_map.proofs.MapTokens.{bare, layer-is}
use Rattle.fold_map.proofs.MetPlaces.{ends-line, row-before, row-behind, starts-line}
use Rattle.fold_map.proofs.MetRows.{end-stays, first-row, last-row, start-stays}
use Rattle.fold_map.proofs.MetSpans.{between-meets, between-met, lower-meets, meets-between, meets-lower, met-between}
use Rattle.fold_map.proofs.Positions.{row-line, unfold-same}
use Rattle.fold_map.proofs.StateFolds.{accepted-is, added-differ, added-lawful, range-fits, removed-differ, removed-lawful, row-first, row-last}
use Rattle.fold_map.proofs.StateMaps.{still-leads, wider, wider-end}
use Rattle.fold_map.proofs.StateSynced.{end-moves, folds-alike, folds-lawful, folds-open, met-rows, row-end-behind, row-end-within, row-start-by, rows-order, text-size}

-- ---- lines that places meet, and lines whose spans meet rows

-- places on the line of the first row's start and on that of the last row's end
module _ (s : Source) (formed : IsWellFormed s) (a b : ℕ) (order : a ≤ b) (within : b ≤ length s.text) (first last : ℕ)
    (first-in : first ≤ length (shown_text s)) (last-in : last ≤ length (shown_text s))
    (from : row_of (shown_text s) first ≡ line_of s.text s.inlays s.folds (row_start s.text a) Left)
    (to : row_of (shown_text s) last ≡ line_of s.text s.inlays s.folds (row_end s.text b) Right) where
  pub met-spans : (line : ℕ) → MeetsLine s first last line → SpansMeet (span_of s line) (row_of s.text a, row_of s.text b)
  met-spans line m =
      let r = met-between s formed first last line m in
      between-meets s formed a b order within line m.there (omega (arith, r.0, from)) (omega (arith, r.1, to))

  pub spans-met : (line : ℕ) → line < length (shown_lines s) → SpansMeet (span_of s line) (row_of s.text a, row_of s.text b) → MeetsLine s first last line
  spans-met line lt m =
      let r = meets-between s formed a b order within line lt m in
      between-met s formed first last line first-in last-in lt (omega (arith, r.0, from)) (omega (arith, r.1, to))

-- places on the lines of the ends of the rows of the lower layer's lines that a replacement meets
module _ (s : Source) (formed : IsWellFormed s) (low : IsWellFormed (unfolded s)) (p q : ℕ) (order : p ≤ q) (within : q ≤ length (shown_text (unfolded s))) (first last : ℕ)
    (first-in : first ≤ length (shown_text s)) (last-in : last ≤ length (shown_text s))
    (from : row_of (shown_text s) first ≡ line_of s.text s.inlays s.folds (row_start_at (unfolded s) p) Left)
    (to : row_of (shown_text s) last ≡ line_of s.text s.inlays s.folds (row_end_at (unfolded s) q) Right) where
  abbrev first-of : ℕ
  first-of = (span_of (unfolded s) (row_of (shown_text (unfolded s)) p)).0

  abbrev last-of : ℕ
  last-of = (span_of (unfolded s) (row_of (shown_text (unfolded s)) q)).1

  abbrev a : ℕ
  a = row_start_at (unfolded s) p

  abbrev b : ℕ
  b = row_end_at (unfolded s) q

  a-row : row_of s.text a ≡ first-of
  a-row = row_of_start s.text first-of (start-row s.text (line_tokens (unfolded s) (row_of (shown_text (unfolded s)) p)))

  b-row : row_of s.text b ≡ last-of
  b-row = row_of_end s.text last-of (end-row s.text (line_tokens (unfolded s) (row_of (shown_text (unfolded s)) q)))

  ordered : a ≤ b
  ordered = rows-order (unfolded s) refl low p q order within

  b-within : b ≤ length s.text
  b-within = row-end-within (unfolded s) refl low q within

  a-start : row_start s.text a ≡ a
  a-start = row_start_is s.text a (let o = ordered in let w = b-within in omega (arith, o, w)) ∙ ap (line_start s.text) a-row

  b-end : row_end s.text b ≡ b
  b-end = row_end_is s.text b b-within ∙ ap (line_end s.text) b-row

  from' : row_of (shown_text s) first ≡ line_of s.text s.inlays s.folds (row_start s.text a) Left
  from' = from ∙ ap (λ o. line_of s.text s.inlays s.folds o Left) (sym a-start)

  to' : row_of (shown_text s) last ≡ line_of s.text s.inlays s.folds (row_end s.text b) Right
  to' = to ∙ ap (λ o. line_of s.text s.inlays s.folds o Right) (sym b-end)

  pub over-met : (line : ℕ) → MeetsLine s first last line ↔ IsOverMet s (unfolded s) p q line
  over-met line = (into, back) where
    into : MeetsLine s first last line → IsOverMet s (unfolded s) p q line
    into m =
        let spans = met-spans s formed a b ordered b-within first last first-in last-in from' to' line m in
        let r = meets-lower s.text s.inlays low p q order within (span_of s line) (subst (λ (t : ℕ × ℕ). SpansMeet (span_of s line) t) (λ i. (a-row i, b-row i)) spans) in
        record { there = m.there; lower = r.0; met = r.1; spans = r.2 }

    back : IsOverMet s (unfolded s) p q line → MeetsLine s first last line
    back r =
        let spans = lower-meets s.text s.inlays low p q order within (span_of s line) r.lower r.met r.spans in
        spans-met s formed a b ordered b-within first last first-in last-in from' to' line r.there
        (subst (λ (t : ℕ × ℕ). SpansMeet (span_of s line) t) (λ i. (sym a-row i, sym b-row i)) spans)

-- ---- the ends of what a change replaces

-- They are on the lines of the start and of the end of the rows that it is within, before it and after it.
module _ (shift : Option Reach) (v v' : Source) (start end last : ℕ) (alike : AreAlike v.folds v'.folds start end last) (opens : inside v.folds end ≡ false → inside v'.folds last ≡ false)
    (within : end ≤ length v.text) (size : length v'.text ≡ moved_on end last (length v.text))
    (s : Reach) (led : Leads (map (token_after shift)) (bare v.text v.inlays) (bare v'.text v'.inlays) s)
    (first : place_of (unfolded v) start Left ≤ s.start) (second : s.end ≤ place_of (unfolded v) end Right)
    (moves : (o : ℕ) → end ≤ o → offset_after shift o ≡ moved_on end last o)
    (r : Reach) (leads : LayerLeads shift v v' (Some r))
    (from : row_of (shown_text v) r.start ≡ line_of v.text v.inlays v.folds start Left) (to : row_of (shown_text v) r.end ≡ line_of v.text v.inlays v.folds end Right) where
  pub new-first : row_of (shown_text v') r.start ≡ line_of v'.text v'.inlays v'.folds start Left
  new-first = row-before shift v v' r leads ∙ from ∙ sym (starts-line shift v v' start end last alike opens within size s led first second moves)

  pub new-last : row_of (shown_text v') (r.start + r.count) ≡ line_of v'.text v'.inlays v'.folds last Right
  new-last = omega (arith, row-behind shift v v' r leads, to, ends-line shift v v' start end last alike opens within size s led first second moves)

pub new-last_in : (shift : Option Reach) (v v' : Source) (r : Reach) → LayerLeads shift v v' (Some r) → r.start + r.count ≤ length (shown_text v')
new-last_in shift v v' r leads = let u = leads.reaches in omega (arith, u, length-at_places (folded_to v'.text v'.inlays v'.folds (length v'.text) Right))

-- ---- a replacement of the lower layer

taken : (shift : Option Reach) (text text' : List ℕ) (start : ℕ) → LeadsIfAny unmoved text text' shift → ((r : Reach) → shift ≡ Some r → start ≤ r.start) → take start text' ≡ take start text
taken None text text' start led h = ap (take start) led
taken (Some r) text text' start led h =
    let l = h r refl in
    sym (take-take start r.start text' l) ∙ ap (take start) led.before ∙ take-take start r.start text l

dropped : (shift : Option Reach) (text text' : List ℕ) (end : ℕ) → LeadsIfAny unmoved text text' shift → ((r : Reach) → shift ≡ Some r → r.end ≤ end) → drop (end_after shift end) text' ≡ drop end text
dropped None text text' end led h = ap (drop end) led
dropped (Some r) text text' end led h =
    let l = h r refl in
    let here : r.start + r.count + (end - r.end) ≡ end - r.end + (r.start + r.count) = omega arith in
    let there : r.end + (end - r.end) ≡ end = omega (arith, l) in
    ap (λ k. drop k text') (sym here) ∙ sym (drop-drop (end - r.end) (r.start + r.count) text')
    ∙ ap (drop (end - r.end)) led.behind
    ∙ drop-drop (end - r.end) r.end text ∙ ap (λ k. drop k text) there

module _ (s layer : Source) (formed : IsWellFormed s) (layer-formed : IsWellFormed layer) (shift : Option Reach) (ordered : (r : Reach) → shift ≡ Some r → r.start ≤ r.end)
    (below : Reach) (order : below.start ≤ below.end) (f : Follows s layer shift (Some below)) where
  abbrev carried : Source
  carried = source_after layer shift s

  abbrev start : ℕ
  start = row_start_at (unfolded s) below.start

  abbrev end : ℕ
  end = row_end_at (unfolded s) below.end

  abbrev last : ℕ
  last = end_after shift end

  low : IsWellFormed (unfolded s)
  low = record { text = formed.text; inlays = formed.inlays; folds = no_entries fold_le (λ g. g.id) (IsFoldOf s.text) }

  low' : IsWellFormed (unfolded carried)
  low' = record { text = layer-formed.text; inlays = layer-formed.inlays; folds = no_entries fold_le (λ g. g.id) (IsFoldOf layer.text) }

  carried-formed : IsWellFormed carried
  carried-formed = record { text = layer-formed.text; inlays = layer-formed.inlays; folds = folds-lawful shift s.text layer.text s.folds f.text formed.folds f.stand }

  low-leads : Leads (map (token_after shift)) (layer_places (unfolded s)) (layer_places (unfolded carried)) below
  low-leads = subst (λ (v : Source). Leads (map (token_after shift)) (layer_places (unfolded s)) (layer_places v) below) (unfold-same layer f.bare) f.leads

  led : Leads (map (token_after shift)) (bare s.text s.inlays) (bare layer.text layer.inlays) below
  led = subst (λ (p : List Token × List Token). Leads (map (token_after shift)) p.0 p.1 below) (λ i. (layer-is s.text s.inlays i, layer-is layer.text layer.inlays i)) low-leads

  below-in : below.end ≤ length (shown_text (unfolded s))
  below-in = let w = low-leads.within in omega (arith, w, length-at_places (folded_to s.text s.inlays [] (length s.text) Right))

  below-in' : below.start + below.count ≤ length (shown_text (unfolded carried))
  below-in' = let w = low-leads.reaches in omega (arith, w, length-at_places (folded_to layer.text layer.inlays [] (length layer.text) Right))

  rows-ordered : start ≤ end
  rows-ordered = rows-order (unfolded s) refl low below.start below.end order below-in

  end-in : end ≤ length s.text
  end-in = row-end-within (unfolded s) refl low below.end below-in

  met : (r : Reach) → shift ≡ Some r → (r.start ≤ r.end) × (start ≤ r.start) × (r.end ≤ end)
  met r e = let m = met-rows (unfolded s) shift below f.meets r e in (ordered r e, m.0, m.1)

  met-end : (r : Reach) → shift ≡ Some r → (r.start ≤ r.end) × (r.end ≤ end)
  met-end r e = let m = met r e in (m.0, m.2)

  size : length layer.text ≡ moved_on end last (length s.text)
  size = text-size shift s.text layer.text end f.text met-end end-in

  alike : AreAlike s.folds carried.folds start end last
  alike = folds-alike shift s.folds start end rows-ordered met

  opens : inside s.folds end ≡ false → inside carried.folds last ≡ false
  opens = folds-open shift s.folds end met-end

  -- ---- the rows of the lines that it meets, after it

  abbrev old-row : ℕ
  old-row = (span_of (unfolded s) (row_of (shown_text (unfolded s)) below.start)).0

  start-same : row_start_at (unfolded carried) below.start ≡ start
  start-same =
      let reach = alike.reach in
      ap (line_start layer.text) (first-row shift s.text layer.text s.inlays layer.inlays low low' below led order below-in below-in')
      ∙ start-stays s.text layer.text old-row (start-row s.text (line_tokens (unfolded s) (row_of (shown_text (unfolded s)) below.start)))
      (omega (arith, reach, size, end-in)) (taken shift s.text layer.text start f.text (λ r e. (met r e).1))

  end-same : row_end_at (unfolded carried) (below.start + below.count) ≡ last
  end-same =
      let line = row_of (shown_text (unfolded s)) below.end in
      let line' = row_of (shown_text (unfolded carried)) (below.start + below.count) in
      end-stays s.text layer.text (span_of (unfolded s) line).1 (span_of (unfolded carried) line').1 last (end-row s.text (line_tokens (unfolded s) line))
      (omega (arith, size, end-in)) (dropped shift s.text layer.text end f.text (λ r e. (met r e).2))
      (omega (
        arith,
        last-row shift s.text layer.text s.inlays layer.inlays low low' below led order below-in below-in',
        one-row s.text s.inlays low line (row-lt (unfolded s) low below.end),
        one-row layer.text layer.inlays low' line' (row-lt (unfolded carried) low' (below.start + below.count)),
      ))

  abbrev replaced : Reach
  replaced = layer_change s carried below

  module _ (leads : LayerLeads shift s carried (Some replaced)) where
    first : place_of (unfolded s) start Left ≤ below.start
    first = row-start-by (unfolded s) refl low below.start (omega (arith, order, below-in))

    second : below.end ≤ place_of (unfolded s) end Right
    second = row-end-behind (unfolded s) refl low below.end below-in

    moves : (o : ℕ) → end ≤ o → offset_after shift o ≡ moved_on end last o
    moves = end-moves shift end met-end

    from : row_of (shown_text s) replaced.start ≡ line_of s.text s.inlays s.folds start Left
    from = row-line s formed start Left (omega (arith, rows-ordered, end-in))

    to : row_of (shown_text s) replaced.end ≡ line_of s.text s.inlays s.folds end Right
    to = row-line s formed end Right end-in

    pub before-met : (line : ℕ) → MeetsLine s replaced.start replaced.end line ↔ IsOverMet s (unfolded s) below.start below.end line
    before-met = over-met s formed low below.start below.end order below-in replaced.start replaced.end (place-le s start Left (omega (arith, rows-ordered, end-in))) (place-le s end Right end-in) from to

    pub after-met : (line : ℕ) → MeetsLine carried replaced.start (replaced.start + replaced.count) line ↔ IsOverMet carried layer below.start (below.start + below.count) line
    after-met line =
        let in-text = new-last_in shift s carried replaced leads in
        subst (λ (v : Source). MeetsLine carried replaced.start (replaced.start + replaced.count) line ↔ IsOverMet carried v below.start (below.start + below.count) line) (sym (unfold-same layer f.bare))
        (over-met carried carried-formed low' below.start (below.start + below.count) (omega arith) below-in' replaced.start (replaced.start + replaced.count) (omega (arith, in-text)) in-text
        (new-first shift s carried start end last alike opens end-in size below led first second moves replaced leads from to ∙ ap (λ o. line_of carried.text carried.inlays carried.folds o Left) (sym start-same))
        (new-last shift s carried start end last alike opens end-in size below led first second moves replaced leads from to ∙ ap (λ o. line_of carried.text carried.inlays carried.folds o Right) (sym end-same))
        line)

some-same : {X : Type 0} (x y : X) → Some x ≡ Some y → x ≡ y
some-same x y e = cc

-- what is met by the numbers of a replacement
meets-just : (before after : Source) (answer : Shift) (r : Reach) (Old New : ℕ → Type 0) → reach_of answer ≡ r → ((line : ℕ) → MeetsLine before r.start r.end line ↔ Old line) → ((line : ℕ) → MeetsLine after r.start (r.start + r.count) line ↔ New line) → MeetsJust before after answer Old New
meets-just before after answer r Old New e old new =
    record {
      before_it = subst (λ (r : Reach). (line : ℕ) → MeetsLine before r.start r.end line ↔ Old line) (sym e) old;
      after_it = subst (λ (r : Reach). (line : ℕ) → MeetsLine after r.start (r.start + r.count) line ↔ New line) (sym e) new;
    }

shift-ordered : (shift : Option Shift) (r : Reach) → option_map reach_of shift ≡ Some r → r.start ≤ r.end
shift-ordered None r e = absurd (cc e)
shift-ordered (Some x) r e = subst (λ (q : Reach). q.start ≤ q.end) (some-same (reach_of x) r e) x.ordered

pub replaced-meets : (source layer made : Source) (shift : Option Shift) (below answer : Shift) → IsWellFormed source → Syncs (state_of source) layer shift (Some below) made answer
    → MeetsJust source made answer (IsOverMet source (unfolded source) below.start below.end) (IsOverMet made layer below.start (below.start + below.count))
replaced-meets source layer made shift below answer formed syncs = go made syncs.synced.made_is syncs.synced.leads where
  replaced : Option Reach
  replaced = option_map reach_of shift

  change : Reach
  change = layer_change source (source_after layer (option_map reach_of shift) source) (reach_of below)

  same : reach_of answer ≡ change
  same = some-same (reach_of answer) change syncs.synced.answered

  go : (made : Source) → made ≡ source_after layer (option_map reach_of shift) source → LayerLeads (option_map reach_of shift) source made (Some (reach_of answer))
      → MeetsJust source made answer (IsOverMet source (unfolded source) below.start below.end) (IsOverMet made layer below.start (below.start + below.count))
  go made e leads =
      let led = subst (λ (r : Reach). LayerLeads (option_map reach_of shift) source (source_after layer (option_map reach_of shift) source) (Some r)) same
      (subst (λ (m : Source). LayerLeads (option_map reach_of shift) source m (Some (reach_of answer))) e leads) in
      subst (λ (m : Source). MeetsJust source m answer (IsOverMet source (unfolded source) below.start below.end) (IsOverMet m layer below.start (below.start + below.count))) (sym e)
      (meets-just source (source_after layer (option_map reach_of shift) source) answer change
      (IsOverMet source (unfolded source) below.start below.end)
      (IsOverMet (source_after layer (option_map reach_of shift) source) layer below.start (below.start + below.count)) same
      (before-met source layer formed syncs.well_formed (option_map reach_of shift) (shift-ordered shift) (reach_of below) below.ordered syncs.follows led)
      (after-met source layer formed syncs.well_formed (option_map reach_of shift) (shift-ordered shift) (reach_of below) below.ordered syncs.follows led))

-- ---- a fold that is added or removed

-- the folds become others, which differ within the rows of a fold, over a layer that shows the same
module _ (s after layer : Source) (formed : IsWellFormed s) (folds : AreFolds s.text after.folds) (layer-formed : IsWellFormed layer) (f : Fold) (d : DifferWithin s after f) (f-order : f.start ≤ f.end)
    (same-text : layer.text ≡ s.text) (same-places : layer_places (unfolded layer) ≡ layer_places (unfolded s)) where
  abbrev turned : Source
  turned = with_folds layer after.folds

  abbrev from-row : ℕ
  from-row = row_start s.text f.start

  abbrev to-row : ℕ
  to-row = row_end s.text f.end

  turned-formed : IsWellFormed turned
  turned-formed = record { text = layer-formed.text; inlays = layer-formed.inlays; folds = subst (λ (t : List ℕ). AreFolds t after.folds) (sym same-text) folds }

  begins : from-row ≤ f.start
  begins = (row-first s.text f.start formed.text.0 d.start.0).1

  ends : f.end ≤ to-row
  ends = (row-last s.text f.end formed.text.0 d.end.0).1

  to-row_in : to-row ≤ length s.text
  to-row_in = (row-last s.text f.end formed.text.0 d.end.0).0.0

  turned-alike : AreAlike s.folds after.folds from-row to-row to-row
  turned-alike = wider s.folds after.folds f.start f.end from-row to-row d.alike begins ends

  turned-opens : inside s.folds to-row ≡ false → inside after.folds to-row ≡ false
  turned-opens = wider-end s.folds after.folds f.start f.end to-row d.alike d.end_open ends

  turned-size : length layer.text ≡ moved_on to-row to-row (length s.text)
  turned-size = omega (arith, to-row_in, ap (λ (t : List ℕ). length t) same-text)

  abbrev whole : Reach
  whole = record {
    start = place_of (unfolded s) from-row Left;
    end = place_of (unfolded s) to-row Right;
    count = place_of (unfolded s) to-row Right - place_of (unfolded s) from-row Left;
  }

  whole-led : Leads (map (token_after None)) (bare s.text s.inlays) (bare layer.text layer.inlays) whole
  whole-led =
      let a = begins in
      let b = ends in
      let same : bare layer.text layer.inlays ≡ bare s.text s.inlays = sym (layer-is layer.text layer.inlays) ∙ same-places ∙ layer-is s.text s.inlays in
      subst (λ (ts : List Token). Leads (map (token_after None)) (bare s.text s.inlays) ts whole) (sym same)
      (still-leads (bare s.text s.inlays) whole.start whole.end
      (omega (arith, places-left_first (unfolded s) from-row, places-rise (unfolded s) from-row to-row Right (omega (arith, a, b, f-order)) to-row_in))
      (omega (arith, place-le (unfolded s) to-row Right to-row_in, length-at_places (folded_to s.text s.inlays [] (length s.text) Right), ap (λ (ts : List Token). length ts) (layer-is s.text s.inlays))))

  stays : (o : ℕ) → to-row ≤ o → offset_after None o ≡ moved_on to-row to-row o
  stays o l = omega (arith, l)

  -- what is replaced begins on the line of the first row's start and ends on that of the last row's end
  module _ (r : Reach) (leads : LayerLeads None s turned (Some r)) (first-in : r.start ≤ length (shown_text s)) (last-in : r.end ≤ length (shown_text s))
      (from : row_of (shown_text s) r.start ≡ line_of s.text s.inlays s.folds from-row Left) (to : row_of (shown_text s) r.end ≡ line_of s.text s.inlays s.folds to-row Right) where
    fold-met : (v : Source) → IsWellFormed v → v.text ≡ s.text → (first last : ℕ) → first ≤ length (shown_text v) → last ≤ length (shown_text v)
        → row_of (shown_text v) first ≡ line_of v.text v.inlays v.folds from-row Left → row_of (shown_text v) last ≡ line_of v.text v.inlays v.folds to-row Right
        → (line : ℕ) → MeetsLine v first last line ↔ HasRowOf v f line
    fold-met v v-formed same first last first-in last-in from to line =
        let within : f.end ≤ length v.text = subst (λ (t : List ℕ). f.end ≤ length t) (sym same) d.end.0 in
        let from' = from ∙ ap (λ (t : List ℕ). line_of v.text v.inlays v.folds (row_start t f.start) Left) (sym same) in
        let to' = to ∙ ap (λ (t : List ℕ). line_of v.text v.inlays v.folds (row_end t f.end) Right) (sym same) in (
          (λ m. record { there = m.there; spans = met-spans v v-formed f.start f.end f-order within first last first-in last-in from' to' line m }),
          (λ r. spans-met v v-formed f.start f.end f-order within first last first-in last-in from' to' line r.there r.spans),
        )

    pub fold-before : (line : ℕ) → MeetsLine s r.start r.end line ↔ HasRowOf s f line
    fold-before = fold-met s formed refl r.start r.end first-in last-in from to

    pub fold-after : (line : ℕ) → MeetsLine turned r.start (r.start + r.count) line ↔ HasRowOf turned f line
    fold-after =
        let in-text = new-last_in None s turned r leads in
        fold-met turned turned-formed same-text r.start (r.start + r.count) (omega (arith, in-text)) in-text
        (new-first None s turned from-row to-row to-row turned-alike turned-opens to-row_in turned-size whole whole-led (omega arith) (omega arith) stays r leads from to)
        (new-last None s turned from-row to-row to-row turned-alike turned-opens to-row_in turned-size whole whole-led (omega arith) (omega arith) stays r leads from to)

-- what a fold replaces begins on the line of its first row's start, and ends on that of its last row's end
module _ (s : Source) (formed : IsWellFormed s) where
  starts-on : (o : ℕ) → o ≤ length s.text → (shown_from s o ≤ length s.text) × (line_at s (shown_from s o) Left ≡ line_at s (row_start s.text o) Left)
  starts-on o u = go (line_at s (row_start s.text o) Left == line_at s o Left) refl where
    row : ℕ
    row = row_start s.text o

    go : (c : Bool) → (line_at s (row_start s.text o) Left == line_at s o Left) ≡ c → (cond c o (row_start s.text o) ≤ length s.text) × (line_at s (cond c o (row_start s.text o)) Left ≡ line_at s (row_start s.text o) Left)
    go true e = (u, sym (eqb-true (line_at s (row_start s.text o) Left) (line_at s o Left) e))
    go false e = ((row-first s.text o formed.text.0 u).0.0, refl)

  ends-on : (o : ℕ) → o ≤ length s.text → (shown_to s o ≤ length s.text) × (line_at s (shown_to s o) Right ≡ line_at s (row_end s.text o) Right)
  ends-on o u = go (line_at s (row_end s.text o) Right == line_at s o Right) refl where
    go : (c : Bool) → (line_at s (row_end s.text o) Right == line_at s o Right) ≡ c → (cond c o (row_end s.text o) ≤ length s.text) × (line_at s (cond c o (row_end s.text o)) Right ≡ line_at s (row_end s.text o) Right)
    go true e = (u, sym (eqb-true (line_at s (row_end s.text o) Right) (line_at s o Right) e))
    go false e = ((row-last s.text o formed.text.0 u).0.0, refl)

pub turned-meets : (source after layer made : Source) (f : Fold) (answer : Shift) → IsWellFormed source → AreFolds source.text after.folds → DifferWithin source after f → f.start ≤ f.end
    → Syncs (turned_to after f (state_of source)) layer None None made answer → MeetsJust source made answer (HasRowOf source f) (HasRowOf made f)
turned-meets source after layer made f answer formed folds d order syncs = go made syncs.synced.made_is syncs.synced.leads where
  change : Reach
  change = fold_change source after f

  same : reach_of answer ≡ change
  same = some-same (reach_of answer) change syncs.synced.answered

  same-text : layer.text ≡ source.text
  same-text = syncs.follows.text ∙ ap (λ (v : Source). v.text) d.below

  same-places : layer_places (unfolded layer) ≡ layer_places (unfolded source)
  same-places = ap (λ (v : Source). layer_places v) (sym (unfold-same layer syncs.follows.bare)) ∙ syncs.follows.leads ∙ ap (λ (v : Source). layer_places v) d.below

  starts : (shown_from source f.start ≤ length source.text) × (line_at source (shown_from source f.start) Left ≡ line_at source (row_start source.text f.start) Left)
  starts = starts-on source formed f.start (d.start.0)

  ends : (shown_to source f.end ≤ length source.text) × (line_at source (shown_to source f.end) Right ≡ line_at source (row_end source.text f.end) Right)
  ends = ends-on source formed f.end (d.end.0)

  first-in : change.start ≤ length (shown_text source)
  first-in = place-le source (shown_from source f.start) Left starts.0

  last-in : change.end ≤ length (shown_text source)
  last-in = place-le source (shown_to source f.end) Right ends.0

  from : row_of (shown_text source) change.start ≡ line_at source (row_start source.text f.start) Left
  from = row-line source formed (shown_from source f.start) Left starts.0 ∙ starts.1

  to : row_of (shown_text source) change.end ≡ line_at source (row_end source.text f.end) Right
  to = row-line source formed (shown_to source f.end) Right ends.0 ∙ ends.1

  go : (made : Source) → made ≡ with_folds layer after.folds → LayerLeads None source made (Some (reach_of answer)) → MeetsJust source made answer (HasRowOf source f) (HasRowOf made f)
  go made e leads =
      let led = subst (λ (r : Reach). LayerLeads None source (with_folds layer after.folds) (Some r)) same
      (subst (λ (m : Source). LayerLeads None source m (Some (reach_of answer))) e leads) in
      subst (λ (m : Source). MeetsJust source m answer (HasRowOf source f) (HasRowOf m f)) (sym e)
      (meets-just source (with_folds layer after.folds) answer change (HasRowOf source f) (HasRowOf (with_folds layer after.folds) f) same
      (fold-before source after layer formed folds syncs.well_formed f d order same-text same-places change led first-in last-in from to)
      (fold-after source after layer formed folds syncs.well_formed f d order same-text same-places change led first-in last-in from to))

pub folded-meets : (source layer made : Source) (f : Fold) (answer : Shift) → IsWellFormed source → fold_refusal source f.id f.start f.end ≡ None
    → Syncs (folded_up f (state_of source)) layer None None made answer → MeetsJust source made answer (HasRowOf source f) (HasRowOf made f)
folded-meets source layer made f answer formed accepted syncs =
    let a = accepted-is source f accepted in
    let fits = range-fits source f formed a.range in
    let some = fits.some in
    turned-meets source (with_fold f source) layer made f answer formed (added-lawful source f formed a) (added-differ source f formed a) (omega (arith, some)) syncs

pub opened-meets : (source layer made : Source) (f : Fold) (answer : Shift) → IsWellFormed source → Contains source.folds f
    → Syncs (opened_up f (state_of source)) layer None None made answer → MeetsJust source made answer (HasRowOf source f) (HasRowOf made f)
opened-meets source layer made f answer formed there syncs =
    let fits = all-at (IsFoldOf source.text) source.folds f formed.folds.each there in
    let some = fits.some in
    turned-meets source (without f.id source) layer made f answer formed (removed-lawful source f.id formed) (removed-differ source f formed there) (omega (arith, some)) syncs
