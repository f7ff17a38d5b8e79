-- A change within offsets leads from what was shown to what is shown then.
use Rattle.std.proofs.Common.{◌≡◌, ℕ, ◌+◌, ◌-◌, ◌<◌, ◌≤◌, Bool, true, false, List, [], ◌∷◌, length, map, take, drop, Option, Some, refl, sym, ap, ◌∙◌, subst, inl, inr, ◌⊎◌, arith}
use Rattle.std.specs.List.{flat_map}
use Rattle.std.proofs.lemmas.Bool.{cases_lt, false≢true}
use Rattle.std.proofs.lemmas.List.{drop-drop, drop-map, take-take}
use Rattle.cell_units.specs.declared.place.Bias.{Bias}
use Rattle.cell_units.specs.declared.place.Bias.TheVariants.{Left, Right}
use Rattle.cell_units.specs.Folded.{covered, folded_to, inside}
use Rattle.cell_units.specs.Inlaid.{Token, bytes_of, offset_of}
use Rattle.cell_units.specs.Joined.{ShowsOnePlaceholder}
use Rattle.cell_units.specs.Layers.{Source, place_of, shown_text, unfolded}
use Rattle.cell_units.specs.Record.{Fold}
use Rattle.cell_units.proofs.CutLists.{Every}
use Rattle.cell_units.proofs.FoldedPlaces.{place-behind, places-within}
use Rattle.cell_units.proofs.Folding.{folded_to-folded}
use Rattle.cell_units.proofs.Joined.{covered_inside}
use Rattle.cell_units.proofs.ShownPlaces.{places-left_first, places-rise}
use Rattle.joined_folds.specs.declared.joined_fold.JoinedFold.{JoinedFold}
use Rattle.joined_folds.specs.JoinedLists.{AreAllJoined, AreJoined, EndBy}
use Rattle.joined_folds.specs.Windows.{AreAlike, moved_on}
use Rattle.joined_folds.proofs.JoinedLists.{covered_past, joined-order, open_first, shown-joined}
use Rattle.edit_patch.specs.LayerLeads.{LayerLeads, layer_places, offset_after, token_after}
use Rattle.edit_patch.specs.Leads.{Leads, Reach}
use Rattle.edit_patch.proofs.TokenPlaces.{at_places, length-at_places}
use Rattle.fold_map.specs.Replaced.{shown_change}
use Rattle.fold_map.proofs.MapPlaces.{every-by}
use Rattle.fold_map.proofs.MapTokens.{HideAlike, bare, drop-bare, fold_each, folds-lead, front-left, front-right, layer-is, rest-after, rest_from, take-bare}
use Rattle.fold_map.proofs.Places.{low-apart}

-- ---- the joined fold around an offset

record Around (folds : List Fold) (o to : ℕ) : Type 0 where
  start : ℕ
  end : ℕ
  from : start < o
  past : o < end
  within : end ≤ to
  shows : ShowsOnePlaceholder folds start end

module _ (folds : List Fold) where
  around : (from : ℕ) (js : List JoinedFold) (to o : ℕ) → AreJoined folds from js to → inside folds from ≡ false → from ≤ o → o < to → inside folds o ≡ true → Around folds o to
  around from [] to o a out l u h = absurd (false≢true (sym (covered_inside folds o (a.1 o l u)) ∙ h))
  around from (j ∷ js) to o a out l u h = go (cases_lt o j.start) (cases_lt j.start o) (cases_lt o j.end) (λ x. around j.end js to o a.1 a.0.shows.3 x u h) where
    go : (o < j.start) ⊎ (j.start ≤ o) → (j.start < o) ⊎ (o ≤ j.start) → (o < j.end) ⊎ (j.end ≤ o) → (j.end ≤ o → Around folds o to) → Around folds o to
    go (inl x) _ _ next = absurd (false≢true (sym (covered_inside folds o (a.0.bare o l x)) ∙ h))
    go (inr x) (inr y) _ next =
        let e : j.start ≡ o = omega (arith, x, y) in
        absurd (false≢true (sym (subst (λ (k : ℕ). inside folds k ≡ false) e a.0.shows.1) ∙ h))
    go (inr x) (inl y) (inl z) next = record { start = j.start; end = j.end; from = y; past = z; within = joined-order folds j.end js to a.1; shows = a.0.shows }
    go (inr x) (inl y) (inr z) next = next z

  pub open-past : (n o : ℕ) → EndBy folds n → n ≤ o → inside folds o ≡ false
  open-past n o ends l = covered_inside folds o (covered_past folds n o ends l)

-- ---- open positions with the places of others

-- a position before all that is at the offset or after it, with its left place
record CutFront (v : Source) (start : ℕ) : Type 0 where
  offset : ℕ
  bias : Bias
  within : offset ≤ length v.text
  is_open : inside v.folds offset ≡ false
  place : place_of v offset bias ≡ place_of v start Left
  below : place_of (unfolded v) offset bias ≤ place_of (unfolded v) start Left
  before : Every (λ t. offset_of t < start) (folded_to v.text v.inlays [] offset bias)

-- a position after all that is before the offset, with its right place
record CutBack (v : Source) (end : ℕ) : Type 0 where
  offset : ℕ
  bias : Bias
  order : end ≤ offset
  within : offset ≤ length v.text
  is_open : inside v.folds offset ≡ false
  place : place_of v offset bias ≡ place_of v end Right
  below : place_of (unfolded v) end Right ≤ place_of (unfolded v) offset bias
  end_open : end ≡ offset → inside v.folds end ≡ false

module _ (v : Source) (js : List JoinedFold) (all : AreAllJoined v.folds (length v.text) js) where
  front-cut : (start : ℕ) → start ≤ length v.text → CutFront v start
  front-cut start u = go (inside v.folds start) refl where
    go : (b : Bool) → inside v.folds start ≡ b → CutFront v start
    go false e = record { offset = start; bias = Left; within = u; is_open = e; place = refl; below = omega arith; before = front-left v.text v.inlays start }
    go true e = at (cases_lt start (length v.text)) where
      at : (start < length v.text) ⊎ (length v.text ≤ start) → CutFront v start
      at (inr x) = absurd (false≢true (sym (open-past v.folds (length v.text) start all.0 x) ∙ e))
      at (inl x) =
          let r = around v.folds 0 js (length v.text) start all.1 (open_first v.folds) (omega arith) x e in
          let s = r.start in
          let from = r.from in
          let past = r.past in
          let within = r.within in
          let is = shown-joined v.folds s r.end (omega (arith, from, past)) r.shows in
          record {
            offset = s;
            bias = Right;
            within = omega (arith, from, u);
            is_open = r.shows.1;
            place = sym (places-within v.text v.inlays v.folds s r.end start is from past within).0;
            below = omega (arith, low-apart v.text v.inlays s start from u);
            before = every-by (λ t. offset_of t ≤ s) (λ t. offset_of t < start) (λ t l. omega (arith, l, from)) (folded_to v.text v.inlays [] s Right) (front-right v.text v.inlays s);
          }

  back-cut : (end : ℕ) → end ≤ length v.text → CutBack v end
  back-cut end u = go (inside v.folds end) refl where
    go : (b : Bool) → inside v.folds end ≡ b → CutBack v end
    go false e = record { offset = end; bias = Right; order = omega arith; within = u; is_open = e; place = refl; below = omega arith; end_open = λ _. e }
    go true e = at (cases_lt end (length v.text)) where
      at : (end < length v.text) ⊎ (length v.text ≤ end) → CutBack v end
      at (inr x) = absurd (false≢true (sym (open-past v.folds (length v.text) end all.0 x) ∙ e))
      at (inl x) =
          let r = around v.folds 0 js (length v.text) end all.1 (open_first v.folds) (omega arith) x e in
          let s = r.start in
          let from = r.from in
          let past = r.past in
          let within = r.within in
          let is = shown-joined v.folds s r.end (omega (arith, from, past)) r.shows in
          record {
            offset = r.end;
            bias = Left;
            order = omega (arith, past);
            within = within;
            is_open = r.shows.3;
            place = place-behind v.text v.inlays v.folds s r.end is (omega (arith, from, past)) within ∙ sym (places-within v.text v.inlays v.folds s r.end end is from past within).1;
            below = omega (arith, low-apart v.text v.inlays end r.end past within);
            end_open = λ same. absurd (omega (arith, same, past));
          }

-- what is before an open position is what was there in the lower layer, folded
place-folded : (v : Source) (o : ℕ) (bias : Bias) → o ≤ length v.text → inside v.folds o ≡ false
    → place_of v o bias ≡ length (at_places (fold_each v.folds (take (place_of (unfolded v) o bias) (bare v.text v.inlays))))
place-folded v o bias u out =
    ap (λ (ts : List Token). length (flat_map bytes_of ts)) (folded_to-folded v.folds v.inlays v.text o bias out)
    ∙ sym (length-at_places (fold_each v.folds (folded_to v.text v.inlays [] o bias)))
    ∙ ap (λ (ts : List Token). length (at_places (fold_each v.folds ts))) (sym (take-bare v.text v.inlays o bias u))

pub whole-folded : (v : Source) → EndBy v.folds (length v.text) → layer_places v ≡ at_places (fold_each v.folds (bare v.text v.inlays))
whole-folded v ends = ap at_places (folded_to-folded v.folds v.inlays v.text (length v.text) Right (open-past v.folds (length v.text) (length v.text) ends (omega arith)))

shown-size : (v : Source) → EndBy v.folds (length v.text) → length (shown_text v) ≡ length (at_places (fold_each v.folds (bare v.text v.inlays)))
shown-size v ends =
    sym (length-at_places (folded_to v.text v.inlays v.folds (length v.text) Right)) ∙ ap (λ (ts : List Token). length ts) (whole-folded v ends)

-- ---- a change of folds, over a layer that a replacement led to

module _ (shift : Option Reach) (v v' : Source) (js : List JoinedFold) (all : AreAllJoined v.folds (length v.text) js) (ends' : EndBy v'.folds (length v'.text))
    (start end last : ℕ) (alike : AreAlike v.folds v'.folds start end last) (opens : inside v.folds end ≡ false → inside v'.folds last ≡ false) (within : end ≤ length v.text)
    (s : Reach) (leads : Leads (map (token_after shift)) (layer_places (unfolded v)) (layer_places (unfolded v')) s) (ordered : s.start ≤ s.end)
    (first : place_of (unfolded v) start Left ≤ s.start) (second : s.end ≤ place_of (unfolded v) end Right)
    (moves : (o : ℕ) → end ≤ o → offset_after shift o ≡ moved_on end last o) where
  abbrev low : Source
  low = unfolded v

  abbrev L : List Token
  L = bare v.text v.inlays

  abbrev L' : List Token
  L' = bare v'.text v'.inlays

  led : Leads (map (token_after shift)) L L' s
  led = subst (λ (p : List Token × List Token). Leads (map (token_after shift)) p.0 p.1 s) (λ i. (layer-is v.text v.inlays i, layer-is v'.text v'.inlays i)) leads

  start-within : start ≤ length v.text
  start-within = let o = alike.order in omega (arith, o, within)

  module _ (f : CutFront v start) (b : CutBack v end) where
    abbrev p : ℕ
    p = place_of low f.offset f.bias

    abbrev q : ℕ
    q = place_of low b.offset b.bias

    abbrev q' : ℕ
    q' = q - s.end + (s.start + s.count)

    p-first : p ≤ s.start
    p-first = let x = f.below in omega (arith, x, first)

    q-second : s.end ≤ q
    q-second = let x = b.below in omega (arith, x, second)

    front : take p L' ≡ take p L
    front =
        let l = p-first in
        sym (take-take p s.start L' l) ∙ ap (take p) led.before ∙ take-take p s.start L l

    behind : drop q' L' ≡ map (token_after shift) (drop q L)
    behind =
        let l = q-second in
        let here : s.start + s.count + (q - s.end) ≡ q' = omega arith in
        let there : s.end + (q - s.end) ≡ q = omega (arith, l) in
        ap (λ k. drop k L') (sym here) ∙ sym (drop-drop (q - s.end) (s.start + s.count) L')
        ∙ ap (drop (q - s.end)) led.behind
        ∙ drop-map (token_after shift) (q - s.end) (drop s.end L)
        ∙ ap (map (token_after shift)) (drop-drop (q - s.end) s.end L ∙ ap (λ k. drop k L) there)

    same-at : (o : ℕ) → o < start → HideAlike v.folds v'.folds o o
    same-at o l = record { inside_as = alike.inside_before o l; covered_as = alike.covered_before o l }

    alike-front : Every (λ t. HideAlike v.folds v'.folds (offset_of t) (offset_of t)) (take p L)
    alike-front =
        subst (Every (λ t. HideAlike v.folds v'.folds (offset_of t) (offset_of t))) (sym (take-bare v.text v.inlays f.offset f.bias f.within))
        (every-by (λ t. offset_of t < start) (λ t. HideAlike v.folds v'.folds (offset_of t) (offset_of t)) (λ t l. same-at (offset_of t) l) (folded_to v.text v.inlays [] f.offset f.bias) f.before)

    moved-at : (o : ℕ) → b.offset ≤ o → HideAlike v.folds v'.folds o (offset_after shift o)
    moved-at o l =
        let order = b.order in
        let there : offset_after shift o ≡ last + (o - end) = moves o (omega (arith, l, order)) ∙ omega arith in
        let here : end + (o - end) ≡ o = omega (arith, l, order) in
        record {
          covered_as = ap (covered v'.folds) there ∙ alike.covered_behind (o - end) ∙ ap (covered v.folds) here;
          inside_as = go (cases_lt end o) there here;
        }
      where
        go : (end < o) ⊎ (o ≤ end) → offset_after shift o ≡ last + (o - end) → end + (o - end) ≡ o → inside v'.folds (offset_after shift o) ≡ inside v.folds o
        go (inl x) there here = ap (inside v'.folds) there ∙ alike.inside_behind (o - end) (omega (arith, x)) ∙ ap (inside v.folds) here
        go (inr x) there here =
            let order = b.order in
            let is : end ≡ o = omega (arith, x, l, order) in
            let same : end ≡ b.offset = omega (arith, x, l, order) in
            let at : last + (o - end) ≡ last = omega (arith, x) in
            let out = b.end_open same in
            ap (inside v'.folds) (there ∙ at) ∙ opens out ∙ sym out ∙ ap (inside v.folds) is

    alike-back : Every (λ t. HideAlike v.folds v'.folds (offset_of t) (offset_after shift (offset_of t))) (drop q L)
    alike-back =
        subst (Every (λ t. HideAlike v.folds v'.folds (offset_of t) (offset_after shift (offset_of t)))) (sym (drop-bare v.text v.inlays b.offset b.bias b.within))
        (every-by (λ t. b.offset ≤ offset_of t) (λ t. HideAlike v.folds v'.folds (offset_of t) (offset_after shift (offset_of t))) (λ t l. moved-at (offset_of t) l) (rest_from v.text v.inlays b.offset b.bias)
        (rest-after v.text v.inlays b.offset b.bias b.within))

    order : p ≤ q
    order =
        let x = f.below in
        let y = b.below in
        let z = alike.order in
        omega (arith, x, y, places-rise low start end Right z within, places-left_first low start)

    change : Leads (map (token_after shift)) (layer_places v) (layer_places v') (shown_change v v' start end)
    change =
        let r = shown_change v v' start end in
        let x = p-first in
        subst (λ (m : List Token × List Token). Leads (map (token_after shift)) m.0 m.1 r) (λ i. (sym (whole-folded v all.0) i, sym (whole-folded v' ends') i))
        (folds-lead shift v.folds v'.folds L L' p q q' order (omega (arith, x)) front behind alike-front alike-back r
        (sym f.place ∙ place-folded v f.offset f.bias f.within f.is_open)
        (sym b.place ∙ place-folded v b.offset b.bias b.within b.is_open)
        (λ i. shown-size v' ends' i - (shown-size v all.0 i - place_of v end Right) - place_of v start Left))

  pub change-leads : LayerLeads shift v v' (Some (shown_change v v' start end))
  change-leads = change (front-cut v js all start start-within) (back-cut v js all end within)
