-- What becomes of stops where splices take the place of others.
use Rattle.std.proofs.Common.{◌≡◌, ℕ, zero, suc, ◌+◌, ◌-◌, ◌^◌, ◌<◌, ◌≤◌, List, [], ◌∷◌, ◌++◌, Option, Some, None, IfSome, length, min, take, drop, get_or, refl, sym, ap, subst, ◌∙◌, arith}
use Rattle.std.specs.List.{slice_get}
use Rattle.sum_core.specs.Sums.{total}
use Rattle.std.specs.Borrow.{Bor}
use Rattle.std.specs.Option.{option_copied}
use Rattle.std.proofs.lemmas.List.{get_or-drop, length-append, length-drop, length-take-le}
use Rattle.std.proofs.lemmas.List.Sums.{sum_by-append, sum_by-cons}
use Rattle.std.proofs.lemmas.Option.{none-some, same_Some, slice_get_within}
use Rattle.splice_tree.specs.Sides.{none, both, BothFit}
use Rattle.splice_tree.specs.declared.sides.Sides.{Sides}
use Rattle.splice_tree.specs.Splices.{piece_sum, replaced, with_first_gap}
use Rattle.block_map.specs.declared.row_count.RowCount.{RowCount}
use Rattle.block_map.specs.RowCounts.{RowsFit, more_rows, no_rows}
use Rattle.block_map.specs.Stops.{Stop, all_stop_rows}
use Rattle.block_map.specs.inside.StopLists.{AreRising, AreStopPieces, IsRowFor, IsStopPiece, StopPiece, StopsFit, last_row, stop_with, stops_from, with_stop}
use Rattle.block_map.proofs.StopPlaces.{height, length-stops, sums-are}

-- how many rows of text are before the last stop of splices, or before all where there is none
abbrev pub end_row : ℕ → List StopPiece → ℕ
end_row base [] = base
end_row base (p ∷ ps) = end_row (base + p.gap.rows) ps

pub lower-is : (base : ℕ) (ps : List StopPiece) → AreStopPieces ps → base + (total (none no_rows) (both more_rows) (piece_sum more_rows) ps).lower.rows ≡ end_row base ps
lower-is base [] are = omega arith
lower-is base (p ∷ ps) are = omega (arith, lower-is (base + p.gap.rows) ps are.1, are.0.0)

pub stops-append : (base : ℕ) (ps qs : List StopPiece) → stops_from base (ps ++ qs) ≡ stops_from base ps ++ stops_from (end_row base ps) qs
stops-append base [] qs = refl
stops-append base (p ∷ ps) qs = ap (λ (l : List Stop). record { row = base + p.gap.rows; lines = p.load } ∷ l) (stops-append (base + p.gap.rows) ps qs)

pub stops-take : (base : ℕ) (ps : List StopPiece) (n : ℕ) → stops_from base (take n ps) ≡ take n (stops_from base ps)
stops-take base [] zero = refl
stops-take base [] (suc n) = refl
stops-take base (p ∷ ps) zero = refl
stops-take base (p ∷ ps) (suc n) = ap (λ (l : List Stop). record { row = base + p.gap.rows; lines = p.load } ∷ l) (stops-take (base + p.gap.rows) ps n)

pub stops-drop : (base : ℕ) (ps : List StopPiece) (n : ℕ) → stops_from (end_row base (take n ps)) (drop n ps) ≡ drop n (stops_from base ps)
stops-drop base [] zero = refl
stops-drop base [] (suc n) = refl
stops-drop base (p ∷ ps) zero = refl
stops-drop base (p ∷ ps) (suc n) = stops-drop (base + p.gap.rows) ps n

pub are-append : (ps qs : List StopPiece) → AreStopPieces ps → AreStopPieces qs → AreStopPieces (ps ++ qs)
are-append [] qs a b = b
are-append (p ∷ ps) qs a b = (a.0, are-append ps qs a.1 b)

pub are-take : (ps : List StopPiece) (n : ℕ) → AreStopPieces ps → AreStopPieces (take n ps)
are-take [] zero a = tt
are-take [] (suc n) a = tt
are-take (p ∷ ps) zero a = tt
are-take (p ∷ ps) (suc n) a = (a.0, are-take ps n a.1)

pub are-drop : (ps : List StopPiece) (n : ℕ) → AreStopPieces ps → AreStopPieces (drop n ps)
are-drop [] zero a = tt
are-drop [] (suc n) a = tt
are-drop (p ∷ ps) zero a = a
are-drop (p ∷ ps) (suc n) a = are-drop ps n a.1

pub are-regapped : (gap : RowCount) (ps : List StopPiece) → AreStopPieces ps → AreStopPieces (with_first_gap gap ps)
are-regapped gap [] a = tt
are-regapped gap (p ∷ ps) a = a

pub are-replaced : (from to : ℕ) (fresh ps : List StopPiece) (gap : RowCount) → AreStopPieces fresh → AreStopPieces ps → AreStopPieces (replaced from to fresh gap ps)
are-replaced from to fresh ps gap f a = are-append (take from ps) (fresh ++ with_first_gap gap (drop to ps)) (are-take ps from a) (are-append fresh (with_first_gap gap (drop to ps)) f (are-regapped gap (drop to ps) (are-drop ps to a)))

-- the gap before the first of the splices that follow puts them where they were
abbrev pub PutsBack : ℕ → RowCount → ℕ → List StopPiece → Type 0
PutsBack base gap old [] = Unit {0}
PutsBack base gap old (p ∷ ps) = base + gap.rows ≡ old + p.gap.rows

pub put-back : (base : ℕ) (gap : RowCount) (old : ℕ) (ps : List StopPiece) → PutsBack base gap old ps → stops_from base (with_first_gap gap ps) ≡ stops_from old ps
put-back base gap old [] e = refl
put-back base gap old (p ∷ ps) e =
    ap (λ (n : ℕ). the_stop n p.load ∷ stops_from n ps) e where
      the_stop : ℕ → List (List ℕ) → Stop
      the_stop row lines = record { row = row; lines = lines }

-- other splices in the place of some, with the stops after them where they were
pub stops-replaced : (from to : ℕ) (fresh ps : List StopPiece) (gap : RowCount) → PutsBack (end_row (end_row 0 (take from ps)) fresh) gap (end_row 0 (take to ps)) (drop to ps)
    → stops_from 0 (replaced from to fresh gap ps) ≡ take from (stops_from 0 ps) ++ (stops_from (end_row 0 (take from ps)) fresh ++ drop to (stops_from 0 ps))
stops-replaced from to fresh ps gap put =
    let base = end_row 0 (take from ps) in
    stops-append 0 (take from ps) (fresh ++ with_first_gap gap (drop to ps))
    ∙ ap (λ (l : List Stop). l ++ stops_from base (fresh ++ with_first_gap gap (drop to ps))) (stops-take 0 ps from)
    ∙ ap (λ (l : List Stop). take from (stops_from 0 ps) ++ l)
    (stops-append base fresh (with_first_gap gap (drop to ps))
    ∙ ap (λ (l : List Stop). stops_from base fresh ++ l) (put-back (end_row base fresh) gap (end_row 0 (take to ps)) (drop to ps) put ∙ stops-drop 0 ps to))

-- ---- one stop more, or less

-- the row of the stop before an index
pub end-row-is : (base : ℕ) (ps : List StopPiece) (n : ℕ) (d : Stop) → 0 < n → n ≤ length ps → end_row base (take n ps) ≡ (get_or (stops_from base ps) (n - 1) d).row
end-row-is base ps zero d some le = absurd (omega (arith, some))
end-row-is base [] (suc n) d some le = absurd (omega (arith, le))
end-row-is base (p ∷ []) (suc zero) d some le = refl
end-row-is base (p ∷ q ∷ ps) (suc zero) d some le = refl
end-row-is base (p ∷ ps) (suc (suc n)) d some le =
    let e : suc (suc n) - 1 ≡ suc n = omega arith in
    let f : suc n - 1 ≡ n = omega arith in
    end-row-is (base + p.gap.rows) ps (suc n) d (omega arith) (omega arith)
    ∙ ap (λ (k : ℕ). (get_or (stops_from (base + p.gap.rows) ps) k d).row) f
    ∙ sym (ap (λ (k : ℕ). (get_or (stops_from base (p ∷ ps)) k d).row) e)

-- the row of the stop at an index
pub row-at : (base : ℕ) (ps : List StopPiece) (n : ℕ) (p : StopPiece) (d : Stop) → slice_get ps n ≡ Some p → (get_or (stops_from base ps) n d).row ≡ end_row base (take n ps) + p.gap.rows
row-at base [] zero p d is = absurd (cc)
row-at base [] (suc n) p d is = absurd (cc)
row-at base (q ∷ ps) zero p d is = let e : q ≡ p = cc in ap (λ (q : StopPiece). base + q.gap.rows) e
row-at base (q ∷ ps) (suc n) p d is = row-at (base + q.gap.rows) ps n p d is

-- rows don't fall
pub end-row-rises : (base : ℕ) (ps : List StopPiece) → base ≤ end_row base ps
end-row-rises base [] = omega arith
end-row-rises base (p ∷ ps) = omega (arith, end-row-rises (base + p.gap.rows) ps)

pub rising-from : (base : ℕ) (ps : List StopPiece) → AreRising base (stops_from base ps)
rising-from base [] = tt
rising-from base (p ∷ ps) = (omega arith, rising-from (base + p.gap.rows) ps)

-- ---- sizes

pub last-is : (base : ℕ) (ps : List StopPiece) → end_row base ps ≡ last_row base (stops_from base ps)
last-is base [] = refl
last-is base (p ∷ ps) = last-is (base + p.gap.rows) ps

-- what fits as stops fits as splices
pub fits-replaced : (qs : List StopPiece) (stops : List Stop) → AreStopPieces qs → stops_from 0 qs ≡ stops → StopsFit stops
    → BothFit RowsFit (total (none no_rows) (both more_rows) (piece_sum more_rows) qs)
fits-replaced qs stops are is fit =
    let last = last-is 0 qs ∙ ap (last_row 0) is in
    let lower = lower-is 0 qs are in
    let upper = sums-are 0 qs are in
    let all = ap all_stop_rows is in
    (omega (arith, last, lower, fit.rows), omega (arith, last, lower, upper, all, fit.rows))

pub count-replaced : (qs : List StopPiece) (stops : List Stop) → stops_from 0 qs ≡ stops → StopsFit stops → length qs < 2 ^ 32
count-replaced qs stops is fit = omega (arith, length-stops 0 qs, ap length is, fit.count)

-- a gap that puts the splice at an index back puts all back from there on
pub puts : (ps : List StopPiece) (n base : ℕ) (gap : RowCount) (old : ℕ) → ((p : StopPiece) → slice_get ps n ≡ Some p → base + gap.rows ≡ old + p.gap.rows) → PutsBack base gap old (drop n ps)
puts [] zero base gap old each = tt
puts [] (suc n) base gap old each = tt
puts (p ∷ ps) zero base gap old each = each p refl
puts (p ∷ ps) (suc n) base gap old each = puts ps n base gap old each

-- ---- one stop more

module _ (ps : List StopPiece) (stops : List Stop) (are : AreStopPieces ps) (is : stops_from 0 ps ≡ stops) (at row : ℕ) (place : IsRowFor stops at row) where
  -- the row lies after the stop before
  pub row-behind : end_row 0 (take at ps) ≤ row
  row-behind = go at refl where
    go : (n : ℕ) → at ≡ n → end_row 0 (take at ps) ≤ row
    go zero e = omega (arith, ap (λ (k : ℕ). end_row 0 (take k ps)) e, none ps) where
      none : (ps : List StopPiece) → end_row 0 (take 0 ps) ≡ 0
      none [] = refl
      none (p ∷ ps) = refl
    go (suc k) e =
        let d : Stop = record { row = 0; lines = [] } in
        let size : at ≤ length ps = omega (arith, place.within, length-stops 0 ps, ap length is) in
        let last = end-row-is 0 ps at d (omega arith) size in
        let same : (get_or (stops_from 0 ps) (at - 1) d).row ≡ (get_or stops (at - 1) d).row = ap (λ (l : List Stop). (get_or l (at - 1) d).row) is in
        omega (arith, last, same, place.behind (at - 1) d (omega arith))

  -- and before the next
  pub row-before : (p : StopPiece) → slice_get ps at ≡ Some p → row ≤ end_row 0 (take at ps) + p.gap.rows
  row-before p e =
      let d : Stop = record { row = 0; lines = [] } in
      let lt : at < length stops = omega (arith, slice_get_within ps at p e, length-stops 0 ps, ap length is) in
      omega (arith, row-at 0 ps at p d e, ap (λ (l : List Stop). (get_or l at d).row) is, place.before at d (omega arith) lt)

  -- with the gap that puts the next one back
  pub put-stop : (lines : List (List ℕ)) (gap : RowCount) (fresh : StopPiece) → fresh.gap.rows ≡ row - end_row 0 (take at ps) → fresh.load ≡ lines
      → ((p : StopPiece) → slice_get ps at ≡ Some p → row + gap.rows ≡ end_row 0 (take at ps) + p.gap.rows)
      → stops_from 0 (replaced at at (fresh ∷ []) gap ps) ≡ with_stop at (stop_with row lines) stops
  put-stop lines gap fresh gap-is load-is next =
      let base = end_row 0 (take at ps) in
      let there : base + fresh.gap.rows ≡ row = omega (arith, gap-is, row-behind) in
      stops-replaced at at (fresh ∷ []) ps gap (puts ps at (base + fresh.gap.rows) gap base (λ p e. omega (arith, there, next p e)))
      ∙ ap (λ (s : Stop). take at (stops_from 0 ps) ++ ((s ∷ []) ++ drop at (stops_from 0 ps))) (ap (λ (r : ℕ). stop_with r fresh.load) there ∙ ap (stop_with row) load-is)
      ∙ ap (λ (l : List Stop). take at l ++ (stop_with row lines ∷ drop at l)) is

-- ---- as the code puts one in

-- how many rows of text are before an index, as a look at it says
pub start-is : (ps : List StopPiece) → AreStopPieces ps → (at index : ℕ) (before : Sides RowCount) → at ≤ length ps → index ≡ min at (length ps)
    → before ≡ total (none no_rows) (both more_rows) (piece_sum more_rows) (take index ps) → before.lower.rows ≡ end_row 0 (take at ps)
start-is ps are at index before le index-is before-is =
    let same : index ≡ at = omega (arith, index-is) in
    omega (
      arith,
      ap (λ (s : Sides RowCount). s.lower.rows) before-is,
      ap (λ (k : ℕ). (total (none no_rows) (both more_rows) (piece_sum more_rows) (take k ps)).lower.rows) same,
      lower-is 0 (take at ps) (are-take ps at are),
    )

-- the splice of an index
pub there : (ps : List StopPiece) (at index : ℕ) → at ≤ length ps → index ≡ min at (length ps) → slice_get ps index ≡ slice_get ps at
there ps at index le index-is = let same : index ≡ at = omega (arith, index-is) in ap (slice_get ps) same

-- it has no more rows than all
pub piece-at : (base : ℕ) (ps : List StopPiece) (n : ℕ) (p : StopPiece) → AreStopPieces ps → slice_get ps n ≡ Some p
    → (p.old.rows ≡ 0) × (p.new.rows ≤ all_stop_rows (stops_from base ps))
piece-at base [] zero p are e = absurd (cc)
piece-at base [] (suc n) p are e = absurd (cc)
piece-at base (q ∷ ps) zero p are e =
    let same : q ≡ p = cc in
    let all = sum_by-cons height (record { row = base + q.gap.rows; lines = q.load }) (stops_from (base + q.gap.rows) ps) in
    subst (λ (p : StopPiece). (p.old.rows ≡ 0) × (p.new.rows ≤ all_stop_rows (stops_from base (q ∷ ps)))) same (are.0.0, omega (arith, are.0.1, all))
piece-at base (q ∷ ps) (suc n) p are e =
    let next = piece-at (base + q.gap.rows) ps n p are.1 e in
    let all = sum_by-cons height (record { row = base + q.gap.rows; lines = q.load }) (stops_from (base + q.gap.rows) ps) in
    (next.0, omega (arith, next.1, all))

-- the row of the splice of an index is at most the last one
pub row-at-most : (base : ℕ) (ps : List StopPiece) (n : ℕ) (p : StopPiece) → slice_get ps n ≡ Some p → end_row base (take n ps) + p.gap.rows ≤ end_row base ps
row-at-most base [] zero p e = absurd (cc)
row-at-most base [] (suc n) p e = absurd (cc)
row-at-most base (q ∷ ps) zero p e = let same : q ≡ p = cc in omega (arith, end-row-rises (base + q.gap.rows) ps, ap (λ (p : StopPiece). p.gap.rows) same)
row-at-most base (q ∷ ps) (suc n) p e = row-at-most (base + q.gap.rows) ps n p e

module _ (ps : List StopPiece) (stops : List Stop) (are : AreStopPieces ps) (is : stops_from 0 ps ≡ stops) (at row : ℕ) (place : IsRowFor stops at row) (fit : StopsFit stops)
    (start index : ℕ) (o : Option (Bor StopPiece)) (start-at : start ≡ end_row 0 (take at ps)) (index-is : index ≡ min at (length ps)) (found : option_copied o ≡ slice_get ps index) where
  pub at-within : at ≤ length ps
  at-within = omega (arith, place.within, length-stops 0 ps, ap length is)

  seen : (b : Bor StopPiece) → o ≡ Some b → slice_get ps at ≡ Some b.now
  seen b e = sym (there ps at index at-within index-is) ∙ sym found ∙ ap option_copied e

  next-row : (p : StopPiece) → slice_get ps at ≡ Some p → start + p.gap.rows ≤ last_row 0 stops
  next-row p e = omega (arith, start-at, row-at-most 0 ps at p e, last-is 0 ps, ap (last_row 0) is)

  pub gap-asked : IfSome o (λ p. (row ≤ start + p.now.gap.rows) × (start + p.now.gap.rows < 2 ^ 32))
  gap-asked = go o refl where
    go : (q : Option (Bor StopPiece)) → o ≡ q → IfSome q (λ p. (row ≤ start + p.now.gap.rows) × (start + p.now.gap.rows < 2 ^ 32))
    go None e = tt
    go (Some b) e =
        let here = seen b e in
        (omega (arith, start-at, row-before ps stops are is at row place b.now here), omega (arith, next-row b.now here, fit.rows))

  module _ (gap : RowCount) (given : IfSome o (λ p. row + gap.rows ≡ start + p.now.gap.rows)) where
    next : (p : StopPiece) → slice_get ps at ≡ Some p → row + gap.rows ≡ end_row 0 (take at ps) + p.gap.rows
    next p e = go o refl given where
      go : (q : Option (Bor StopPiece)) → o ≡ q → IfSome q (λ p. row + gap.rows ≡ start + p.now.gap.rows) → row + gap.rows ≡ end_row 0 (take at ps) + p.gap.rows
      go None f g = absurd (none-some p (ap option_copied (sym f) ∙ found ∙ there ps at index at-within index-is ∙ e))
      go (Some b) f g =
          let same : b.now ≡ p = same_Some b.now p (sym (seen b f) ∙ e) in
          omega (arith, g, start-at, ap (λ (p : StopPiece). p.gap.rows) same)

    pub gap-fits : (p : StopPiece) → slice_get ps at ≡ Some p → (gap.rows + p.old.rows < 2 ^ 32) × (gap.rows + p.new.rows < 2 ^ 32)
    gap-fits p e =
        let sizes = piece-at 0 ps at p are e in
        let all = ap all_stop_rows is in (
          omega (arith, next p e, start-at, next-row p e, fit.rows, sizes.0),
          omega (arith, next p e, start-at, next-row p e, fit.rows, sizes.1, all),
        )

    module _ (lines : List (List ℕ)) (items before : List StopPiece) (fresh : StopPiece) (empty : before ≡ []) (pushed : items ≡ before ++ fresh ∷ [])
        (made : fresh ≡ record { gap = record { rows = row - start }; old = no_rows; new = record { rows = length lines }; load = lines }) where
      one : items ≡ fresh ∷ []
      one = pushed ∙ ap (λ (l : List StopPiece). l ++ fresh ∷ []) empty

      pub stops-after : stops_from 0 (replaced at at items gap ps) ≡ with_stop at (stop_with row lines) stops
      stops-after =
          ap (λ (l : List StopPiece). stops_from 0 (replaced at at l gap ps)) one
          ∙ put-stop ps stops are is at row place lines gap fresh (ap (λ (p : StopPiece). p.gap.rows) made ∙ omega (arith, start-at)) (ap (λ (p : StopPiece). p.load) made) next

      pub are-after : AreStopPieces (replaced at at items gap ps)
      are-after =
          let own : IsStopPiece fresh = (ap (λ (p : StopPiece). p.old.rows) made, ap (λ (p : StopPiece). p.new.rows) made ∙ sym (ap (λ (p : StopPiece). length p.load) made)) in
          are-replaced at at items ps gap (subst AreStopPieces (sym one) (own, tt)) are

      pub fits-after : StopsFit (with_stop at (stop_with row lines) stops) → BothFit RowsFit (total (none no_rows) (both more_rows) (piece_sum more_rows) (replaced at at items gap ps))
      fits-after f = fits-replaced (replaced at at items gap ps) (with_stop at (stop_with row lines) stops) are-after stops-after f

      pub small-after : StopsFit (with_stop at (stop_with row lines) stops) → length (replaced at at items gap ps) < 2 ^ 32
      small-after f = count-replaced (replaced at at items gap ps) (with_stop at (stop_with row lines) stops) stops-after f

      pub count-after : length (replaced at at items gap ps) ≡ length stops + 1
      count-after =
          omega (arith, length-stops 0 (replaced at at items gap ps), ap length stops-after, length-append (take at stops) (stop_with row lines ∷ drop at stops), length-take-le at stops place.within, length-drop at stops, place.within)

-- an index of stops is one of their splices
pub within : (ps : List StopPiece) (stops : List Stop) → stops_from 0 ps ≡ stops → (at : ℕ) → at ≤ length stops → at ≤ length ps
within ps stops is at le = omega (arith, le, length-stops 0 ps, ap length is)

-- the row of a stop that is put in and its own rows are at most all
pub last-append : (base : ℕ) (xs ys : List Stop) → last_row base (xs ++ ys) ≡ last_row (last_row base xs) ys
last-append base [] ys = refl
last-append base (x ∷ xs) ys = last-append x.row xs ys

last-least : (row base : ℕ) (ss : List Stop) → row ≤ base → ((k : ℕ) (d : Stop) → k < length ss → row ≤ (get_or ss k d).row) → row ≤ last_row base ss
last-least row base [] le each = le
last-least row base (s ∷ ss) le each = last-least row s.row ss (each 0 s (omega arith)) (λ k d lt. each (suc k) d (omega (arith, lt)))

pub with-sizes : (at row : ℕ) (lines : List (List ℕ)) (stops : List Stop) → IsRowFor stops at row → StopsFit (with_stop at (stop_with row lines) stops) → row + length lines < 2 ^ 32
with-sizes at row lines stops place fit =
    let s = stop_with row lines in
    let rest = drop at stops in
    let last : last_row 0 (with_stop at s stops) ≡ last_row row rest = last-append 0 (take at stops) (s ∷ rest) in
    let least : row ≤ last_row row rest = last-least row row rest (omega arith) (λ k d lt.
    let same : (get_or rest k d).row ≡ (get_or stops (at + k) d).row = ap (λ (s : Stop). s.row) (get_or-drop at stops k d) in
    omega (arith, same, place.before (at + k) d (omega arith) (omega (arith, lt, length-drop at stops)))) in
    let all = sum_by-append height (take at stops) (s ∷ rest) in
    let own = sum_by-cons height s rest in
    omega (arith, fit.rows, last, least, all, own)
