-- What becomes of stops where a gap changes: those from it on move.
use Rattle.std.proofs.Common.{◌≡◌, ℕ, zero, suc, ◌+◌, ◌-◌, ◌^◌, ◌<◌, ◌≤◌, Bool, true, false, cond, List, [], ◌∷◌, ◌++◌, Some, None, length, map, take, drop, get_or, refl, sym, ap, subst, ◌∙◌, arith, add-one, inl, inr}
use Rattle.std.specs.List.{slice_get}
use Rattle.std.proofs.lemmas.Bool.{cases_lt, false≢true, le-leb, le-ltb, lt-leb, lt-ltb}
use Rattle.std.proofs.lemmas.List.{length-map, length-take-le, map-append, take-append-drop}
use Rattle.std.proofs.lemmas.Option.{same_Some, slice_get_within}
use Rattle.cell_units.specs.declared.place.Bias.{Bias}
use Rattle.cell_units.specs.declared.place.Bias.TheVariants.{Left, Right}
use Rattle.sum_core.specs.Sums.{total}
use Rattle.sum_tree.specs.Firsts.{IsFirst, IsReaching, IsShort}
use Rattle.splice_tree.specs.declared.sides.Sides.{Sides}
use Rattle.splice_tree.specs.Sides.{none, both, BothFit}
use Rattle.splice_tree.specs.Splices.{piece_sum, regapped, replaced, with_first_gap}
use Rattle.block_map.specs.declared.row_count.RowCount.{RowCount}
use Rattle.block_map.specs.RowCounts.{RowsFit, more_rows, no_rows, rows_in}
use Rattle.block_map.specs.Stops.{Stop, all_stop_rows, stands_before}
use Rattle.block_map.specs.inside.RowMoves.{AreClear, moved_stop}
use Rattle.block_map.specs.inside.StopLists.{AreStopPieces, StopPiece, StopsFit, last_row, stops_from}
use Rattle.block_map.proofs.StopEdits.{are-replaced, are-take, count-replaced, end-row-is, end-row-rises, end_row, fits-replaced, last-is, lower-is, piece-at, row-at-most, stops-append}
use Rattle.block_map.proofs.StopPlaces.{length-stops}

short-before : (bias : Bias) (end row last : ℕ) (lines : List (List ℕ)) → row ≤ last → IsShort bias end last → stands_before bias end (record { row = row; lines = lines }) ≡ true
short-before Left end row last lines le short = lt-ltb row end (omega (arith, le, short))
short-before Right end row last lines le short = le-leb row end (omega (arith, le, short))

reaching-not : (bias : Bias) (end row first : ℕ) (lines : List (List ℕ)) → first ≤ row → IsReaching bias end first → stands_before bias end (record { row = row; lines = lines }) ≡ false
reaching-not Left end row first lines le reaching = le-ltb row end (omega (arith, le, reaching))
reaching-not Right end row first lines le reaching = lt-leb row end (omega (arith, le, reaching))

reaching-end : (bias : Bias) (end row : ℕ) → IsReaching bias end row → end ≤ row
reaching-end Left end row r = r
reaching-end Right end row r = omega (arith, r)

module _ (bias : Bias) (start end count : ℕ) where
  -- stops before the end stay
  kept-before : (base : ℕ) (qs : List StopPiece) → IsShort bias end (end_row base qs) → map (moved_stop bias start end count) (stops_from base qs) ≡ stops_from base qs
  kept-before base [] short = refl
  kept-before base (q ∷ qs) short =
      let s : Stop = record { row = base + q.gap.rows; lines = q.load } in
      let moved : Stop = record { row = base + q.gap.rows + count - (end - start); lines = q.load } in
      let test = short-before bias end (base + q.gap.rows) (end_row (base + q.gap.rows) qs) q.load (end-row-rises (base + q.gap.rows) qs) short in
      ap (λ (b : Bool). cond b s moved ∷ map (moved_stop bias start end count) (stops_from (base + q.gap.rows) qs)) test
      ∙ ap (λ (l : List Stop). s ∷ l) (kept-before (base + q.gap.rows) qs short)

  -- those after it move, all as far
  moved-behind : (base to : ℕ) (qs : List StopPiece) → start ≤ end → IsReaching bias end base → to + (end - start) ≡ base + count
      → map (moved_stop bias start end count) (stops_from base qs) ≡ stops_from to qs
  moved-behind base to [] order reaching far = refl
  moved-behind base to (q ∷ qs) order reaching far =
      let row : ℕ = base + q.gap.rows in
      let s : Stop = record { row = row; lines = q.load } in
      let moved : Stop = record { row = row + count - (end - start); lines = q.load } in
      let test = reaching-not bias end row base q.load (omega arith) reaching in
      let there : row + count - (end - start) ≡ to + q.gap.rows = omega (arith, far) in
      let on = reaching-on bias end base row (omega arith) reaching in
      ap (λ (b : Bool). cond b s moved ∷ map (moved_stop bias start end count) (stops_from row qs)) test
      ∙ ap (λ (l : List Stop). moved ∷ l) (moved-behind row (to + q.gap.rows) qs order on (omega (arith, far)))
      ∙ ap (λ (r : ℕ). the_stop r q.load ∷ stops_from (to + q.gap.rows) qs) there where
        the_stop : ℕ → List (List ℕ) → Stop
        the_stop row lines = record { row = row; lines = lines }

        reaching-on : (bias : Bias) (end base row : ℕ) → base ≤ row → IsReaching bias end base → IsReaching bias end row
        reaching-on Left end base row le r = omega (arith, le, r)
        reaching-on Right end base row le r = omega (arith, le, r)

drop-at : (ps : List StopPiece) (n : ℕ) (p : StopPiece) → slice_get ps n ≡ Some p → (qs : List StopPiece) × (drop n ps ≡ p ∷ qs)
drop-at [] zero p e = absurd (cc)
drop-at [] (suc n) p e = absurd (cc)
drop-at (q ∷ qs) zero p e = let f : q ≡ p = cc in (qs, ap (λ (r : StopPiece). r ∷ qs) f)
drop-at (q ∷ qs) (suc n) p e = drop-at qs n p e

drop-end : (ps : List StopPiece) (n : ℕ) → slice_get ps n ≡ None → drop n ps ≡ []
drop-end [] zero e = refl
drop-end [] (suc n) e = refl
drop-end (q ∷ qs) zero e = absurd (cc)
drop-end (q ∷ qs) (suc n) e = drop-end qs n e

get-append : (xs ys : List StopPiece) (n : ℕ) (y : StopPiece) → length xs ≡ n → slice_get (xs ++ y ∷ ys) n ≡ Some y
get-append [] ys zero y e = refl
get-append [] ys (suc n) y e = absurd (omega (arith, e))
get-append (x ∷ xs) ys zero y e = absurd (omega (arith, e))
get-append (x ∷ xs) ys (suc n) y e = get-append xs ys n y (omega (arith, e))

-- the splice at the first stop that isn't before the end gets another gap
module _ (ps : List StopPiece) (stops : List Stop) (are : AreStopPieces ps) (is : stops_from 0 ps ≡ stops) (bias : Bias) (start end count at : ℕ) (order : start ≤ end)
    (first : IsFirst (none no_rows) (both more_rows) (piece_sum more_rows) (λ (s : Sides RowCount). rows_in s.lower) ps end bias at) (clear : AreClear bias start end stops) where
  base : ℕ
  base = end_row 0 (take at ps)

  is-base : (total (none no_rows) (both more_rows) (piece_sum more_rows) (take at ps)).lower.rows ≡ end_row 0 (take at ps)
  is-base = omega (arith, lower-is 0 (take at ps) (are-take ps at are))

  moves : Stop → Stop
  moves = moved_stop bias start end count

  short-row : 0 < at → IsShort bias end (end_row 0 (take at ps))
  short-row some = subst (IsShort bias end) is-base (first.short some)

  -- those before it
  front : map (moved_stop bias start end count) (stops_from 0 (take at ps)) ≡ stops_from 0 (take at ps)
  front = elim (cases_lt 0 at) [
    | inl some ↦ kept-before bias start end count 0 (take at ps) (short-row some)
    | inr few ↦ let z : at ≡ 0 = omega (arith, few) in subst (λ (n : ℕ). map (moved_stop bias start end count) (stops_from 0 (take n ps)) ≡ stops_from 0 (take n ps)) (sym z) (empty ps)
  ] where
    empty : (ps : List StopPiece) → map (moved_stop bias start end count) (stops_from 0 (take 0 ps)) ≡ stops_from 0 (take 0 ps)
    empty [] = refl
    empty (p ∷ ps) = refl

  parts : stops ≡ stops_from 0 (take at ps) ++ stops_from (end_row 0 (take at ps)) (drop at ps)
  parts = sym is ∙ ap (stops_from 0) (sym (take-append-drop at ps)) ∙ stops-append 0 (take at ps) (drop at ps)

  parts-moved : map (moved_stop bias start end count) stops ≡ stops_from 0 (take at ps) ++ map (moved_stop bias start end count) (stops_from (end_row 0 (take at ps)) (drop at ps))
  parts-moved =
      ap (map (moved_stop bias start end count)) parts
      ∙ map-append (moved_stop bias start end count) (stops_from 0 (take at ps)) (stops_from (end_row 0 (take at ps)) (drop at ps))
      ∙ ap (λ (l : List Stop). l ++ map (moved_stop bias start end count) (stops_from (end_row 0 (take at ps)) (drop at ps))) front

  pub none-moves : slice_get ps at ≡ None → stops ≡ map (moved_stop bias start end count) stops
  none-moves e =
      let gone = drop-end ps at e in
      parts
      ∙ ap (λ (l : List StopPiece). stops_from 0 (take at ps) ++ stops_from (end_row 0 (take at ps)) l) gone
      ∙ sym (parts-moved ∙ ap (λ (l : List StopPiece). stops_from 0 (take at ps) ++ map (moved_stop bias start end count) (stops_from (end_row 0 (take at ps)) l)) gone)

  -- the stop before it is at the start at most
  base-clear : end_row 0 (take at ps) ≤ start
  base-clear = elim (cases_lt 0 at) [
    | inl some ↦
        let d : Stop = record { row = 0; lines = [] } in
        let long = length-stops 0 ps in
        let last = end-row-is 0 ps at d some first.within in
        let size : at - 1 < length stops = omega (arith, first.within, long, ap length is, some) in
        let s : Stop = get_or stops (at - 1) d in
        let same : (get_or (stops_from 0 ps) (at - 1) d).row ≡ (get_or stops (at - 1) d).row = ap (λ (l : List Stop). (get_or l (at - 1) d).row) is in
        let test : stands_before bias end s ≡ true = short-before bias end s.row (end_row 0 (take at ps)) s.lines (omega (arith, last, same)) (short-row some) in
        omega (arith, last, same, clear (at - 1) d size test)
    | inr few ↦ let z : at ≡ 0 = omega (arith, few) in omega (arith, ap (λ (n : ℕ). end_row 0 (take n ps)) z, zero-row ps)
  ] where
    zero-row : (ps : List StopPiece) → end_row 0 (take 0 ps) ≡ 0
    zero-row [] = refl
    zero-row (p ∷ ps) = refl

  module _ (p : StopPiece) (there : slice_get ps at ≡ Some p) where
    -- it reaches the end
    reaches : IsReaching bias end (end_row 0 (take at ps) + p.gap.rows)
    reaches =
        let lt = slice_get_within ps at p there in
        subst (IsReaching bias end) (omega (arith, lower-is 0 (take (at + 1) ps) (are-take ps (at + 1) are), one-more 0 ps at there)) (first.reaching lt) where
          one-more : (base : ℕ) (ps : List StopPiece) (n : ℕ) → slice_get ps n ≡ Some p → end_row base (take (n + 1) ps) ≡ end_row base (take n ps) + p.gap.rows
          one-more base ps n e = ap (λ (k : ℕ). end_row base (take k ps)) (add-one n) ∙ go base ps n e where
            go : (base : ℕ) (ps : List StopPiece) (n : ℕ) → slice_get ps n ≡ Some p → end_row base (take (suc n) ps) ≡ end_row base (take n ps) + p.gap.rows
            go base [] zero e = absurd (cc)
            go base [] (suc n) e = absurd (cc)
            go base (q ∷ []) zero e = let f : q ≡ p = cc in ap (λ (r : StopPiece). base + r.gap.rows) f
            go base (q ∷ r ∷ qs) zero e = let f : q ≡ p = cc in ap (λ (r : StopPiece). base + r.gap.rows) f
            go base (q ∷ qs) (suc n) e = go (base + q.gap.rows) qs n e

    pub gap-wide : end - start ≤ p.gap.rows
    gap-wide = omega (arith, base-clear, reaching-end bias end (end_row 0 (take at ps) + p.gap.rows) reaches)

    module _ (gap : RowCount) (wide : gap.rows ≡ p.gap.rows - (end - start) + count) where
      pub stops-moved : stops_from 0 (replaced at at [] gap ps) ≡ map (moved_stop bias start end count) stops
      stops-moved =
          let rest = drop-at ps at p there in
          let qs = rest.0 in
          let from : ℕ = end_row 0 (take at ps) in
          let row : ℕ = from + p.gap.rows in
          let to : ℕ = from + gap.rows in
          let s : Stop = record { row = row; lines = p.load } in
          let test = reaching-not bias end row row p.load (omega arith) reaches in
          let far : to + (end - start) ≡ row + count = omega (arith, wide, gap-wide) in
          let here : row + count - (end - start) ≡ to = omega (arith, far) in
          let moved : map (moved_stop bias start end count) (stops_from from (p ∷ qs)) ≡ the_stop to p.load ∷ stops_from to qs =
          ap (λ (b : Bool). cond b s (the_stop (row + count - (end - start)) p.load) ∷ map (moved_stop bias start end count) (stops_from row qs)) test
          ∙ ap (λ (r : ℕ). the_stop r p.load ∷ map (moved_stop bias start end count) (stops_from row qs)) here
          ∙ ap (λ (l : List Stop). the_stop to p.load ∷ l) (moved-behind bias start end count row to qs order reaches far) in
          stops-append 0 (take at ps) (with_first_gap gap (drop at ps))
          ∙ ap (λ (l : List StopPiece). stops_from 0 (take at ps) ++ stops_from from (with_first_gap gap l)) rest.1
          ∙ sym (parts-moved ∙ ap (λ (l : List StopPiece). stops_from 0 (take at ps) ++ map (moved_stop bias start end count) (stops_from from l)) rest.1 ∙ ap (λ (l : List Stop). stops_from 0 (take at ps) ++ l) moved) where
            the_stop : ℕ → List (List ℕ) → Stop
            the_stop row lines = record { row = row; lines = lines }

      pub are-moved : AreStopPieces (replaced at at [] gap ps)
      are-moved = are-replaced at at [] ps gap tt are

      pub count-moved : length (replaced at at [] gap ps) ≡ length stops
      count-moved = omega (arith, length-stops 0 (replaced at at [] gap ps), ap length stops-moved, length-map stops (moved_stop bias start end count))

      module _ (fit : StopsFit (map (moved_stop bias start end count) stops)) where
        pub fits-moved : BothFit RowsFit (total (none no_rows) (both more_rows) (piece_sum more_rows) (replaced at at [] gap ps))
        fits-moved = fits-replaced (replaced at at [] gap ps) (map (moved_stop bias start end count) stops) are-moved stops-moved fit

        pub small-moved : length (replaced at at [] gap ps) < 2 ^ 32
        small-moved = count-replaced (replaced at at [] gap ps) (map (moved_stop bias start end count) stops) stops-moved fit

        new-piece : slice_get (replaced at at [] gap ps) at ≡ Some (regapped gap p)
        new-piece =
            let rest = drop-at ps at p there in
            ap (λ (l : List StopPiece). slice_get (take at ps ++ with_first_gap gap l) at) rest.1
            ∙ get-append (take at ps) rest.0 at (regapped gap p) (length-take-le at ps first.within)

        sizes : gap.rows + p.new.rows < 2 ^ 32
        sizes =
            let qs = replaced at at [] gap ps in
            let q = regapped gap p in
            let most = row-at-most 0 qs at q new-piece in
            let own = piece-at 0 qs at q are-moved new-piece in
            omega (arith, most, own.1, last-is 0 qs, ap (last_row 0) stops-moved, ap all_stop_rows stops-moved, fit.rows)

        pub gap-small : gap.rows < 2 ^ 32
        gap-small = omega (arith, sizes)

        pub gaps-fit : (q : StopPiece) → slice_get ps at ≡ Some q → (gap.rows + q.old.rows < 2 ^ 32) × (gap.rows + q.new.rows < 2 ^ 32)
        gaps-fit q e =
            let same : p ≡ q = same_Some p q (sym there ∙ e) in
            let old = piece-at 0 ps at q are e in
            (omega (arith, sizes, old.0), omega (arith, sizes, ap (λ (r : StopPiece). r.new.rows) same))

-- ---- which stops are before a place

rows-least : (base : ℕ) (ps : List StopPiece) (k : ℕ) (s : Stop) → slice_get (stops_from base ps) k ≡ Some s → base ≤ s.row
rows-least base [] zero s e = absurd (cc)
rows-least base [] (suc k) s e = absurd (cc)
rows-least base (p ∷ ps) zero s e = let f : the_stop (base + p.gap.rows) p.load ≡ s = cc in omega (arith, ap (λ (s : Stop). s.row) f) where
  the_stop : ℕ → List (List ℕ) → Stop
  the_stop row lines = record { row = row; lines = lines }
rows-least base (p ∷ ps) (suc k) s e = omega (arith, rows-least (base + p.gap.rows) ps k s e)

rows-upto : (base : ℕ) (ps : List StopPiece) (k : ℕ) (s : Stop) → slice_get (stops_from base ps) k ≡ Some s → (n : ℕ) → k < n → s.row ≤ end_row base (take n ps)
rows-upto base [] zero s e n lt = absurd (cc)
rows-upto base [] (suc k) s e n lt = absurd (cc)
rows-upto base (p ∷ ps) k s e zero lt = absurd (omega (arith, lt))
rows-upto base (p ∷ ps) zero s e (suc n) lt =
    let f : the_stop (base + p.gap.rows) p.load ≡ s = cc in
    omega (arith, ap (λ (s : Stop). s.row) f, end-row-rises (base + p.gap.rows) (take n ps)) where
      the_stop : ℕ → List (List ℕ) → Stop
      the_stop row lines = record { row = row; lines = lines }
rows-upto base (p ∷ ps) (suc k) s e (suc n) lt = rows-upto (base + p.gap.rows) ps k s e n (omega (arith, lt))

rows-from : (base : ℕ) (ps : List StopPiece) (k : ℕ) (s : Stop) → slice_get (stops_from base ps) k ≡ Some s → (n : ℕ) → n ≤ k → end_row base (take (suc n) ps) ≤ s.row
rows-from base [] zero s e n le = absurd (cc)
rows-from base [] (suc k) s e n le = absurd (cc)
rows-from base (p ∷ ps) k s e zero le = omega (arith, least k e, none ps) where
  none : (ps : List StopPiece) → end_row (base + p.gap.rows) (take 0 ps) ≡ base + p.gap.rows
  none [] = refl
  none (q ∷ qs) = refl

  the_stop : ℕ → List (List ℕ) → Stop
  the_stop row lines = record { row = row; lines = lines }

  least : (k : ℕ) → slice_get (the_stop (base + p.gap.rows) p.load ∷ stops_from (base + p.gap.rows) ps) k ≡ Some s → base + p.gap.rows ≤ s.row
  least zero e = let f : the_stop (base + p.gap.rows) p.load ≡ s = cc in omega (arith, ap (λ (s : Stop). s.row) f)
  least (suc k) e = rows-least (base + p.gap.rows) ps k s e
rows-from base (p ∷ ps) zero s e (suc n) le = absurd (omega (arith, le))
rows-from base (p ∷ ps) (suc k) s e (suc n) le = rows-from (base + p.gap.rows) ps k s e n (omega (arith, le))

module _ (ps : List StopPiece) (stops : List Stop) (are : AreStopPieces ps) (is : stops_from 0 ps ≡ stops) (bias : Bias) (row at : ℕ)
    (first : IsFirst (none no_rows) (both more_rows) (piece_sum more_rows) (λ (s : Sides RowCount). rows_in s.lower) ps row bias at) where
  pub first-in : at ≤ length stops
  first-in = omega (arith, first.within, length-stops 0 ps, ap length is)

  module _ (k : ℕ) (s : Stop) (e : slice_get stops k ≡ Some s) where
    seen : slice_get (stops_from 0 ps) k ≡ Some s
    seen = ap (λ (l : List Stop). slice_get l k) is ∙ e

    pub before-first : k < at → stands_before bias row s ≡ true
    before-first lt =
        short-before bias row s.row (end_row 0 (take at ps)) s.lines (rows-upto 0 ps k s seen at lt)
        (subst (IsShort bias row) (omega (arith, lower-is 0 (take at ps) (are-take ps at are))) (first.short (omega (arith, lt))))

    pub first-before : stands_before bias row s ≡ true → k < at
    first-before before = elim (cases_lt k at) [
      | inl lt ↦ lt
      | inr ge ↦
          let within : at < length ps = omega (arith, ge, slice_get_within (stops_from 0 ps) k s seen, length-stops 0 ps) in
          let reach : IsReaching bias row (end_row 0 (take (at + 1) ps)) = subst (IsReaching bias row) (omega (arith, lower-is 0 (take (at + 1) ps) (are-take ps (at + 1) are))) (first.reaching within) in
          let low : end_row 0 (take (at + 1) ps) ≤ s.row = omega (arith, ap (λ (n : ℕ). end_row 0 (take n ps)) (add-one at), rows-from 0 ps k s seen at ge) in
          absurd (differ (reaching-not bias row s.row (end_row 0 (take (at + 1) ps)) s.lines low reach) before)
    ] where
      differ : stands_before bias row s ≡ false → stands_before bias row s ≡ true → ⊥
      differ x y = false≢true (sym x ∙ y)
