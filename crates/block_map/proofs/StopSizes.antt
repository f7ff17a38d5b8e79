-- Sizes and order of stops of which some are left out.
use Rattle.std.proofs.Common.{◌≡◌, ℕ, zero, suc, ◌+◌, ◌-◌, ◌^◌, ◌<◌, ◌≤◌, Bool, true, false, cond, eqb, List, [], ◌∷◌, ◌++◌, Some, length, take, drop, get_or, ap, arith}
use Rattle.std.specs.List.{slice_get}
use Rattle.std.proofs.lemmas.List.{length-append, length-drop, length-take-le}
use Rattle.std.proofs.lemmas.List.Sums.{sum_by-cons}
use Rattle.std.proofs.lemmas.Option.{slice_get_within}
use Rattle.mark_tree.proofs.Sorting.{Every}
use Rattle.block_map.specs.Stops.{Stop, all_stop_rows}
use Rattle.block_map.specs.inside.StopLists.{IsRowFor, AreRising, StopsFit, last_row}
use Rattle.block_map.specs.inside.Without.{without}
use Rattle.block_map.proofs.LeftOut.{every-left, length-left}

abbrev pub IsUpto : ℕ → Stop → Type 0
IsUpto row s = s.row ≤ row

abbrev the_height : Stop → ℕ
the_height s = length s.lines

pub rise-less : (from low : ℕ) (ss : List Stop) → low ≤ from → AreRising from ss → AreRising low ss
rise-less from low [] le r = tt
rise-less from low (s ∷ ss) le r = (omega (arith, le, r.0), r.1)

pub rise-left : (from : ℕ) (bs : List ℕ) (at : ℕ) (ss : List Stop) → AreRising from ss → AreRising from (without bs at ss)
rise-left from bs at [] r = tt
rise-left from [] at (s ∷ ss) r = r
rise-left from (a ∷ bs) at (s ∷ ss) r = go (eqb a at) (rise-left s.row bs (at + 1) ss r.1) (rise-left s.row (a ∷ bs) (at + 1) ss r.1) where
  go : (b : Bool) → AreRising s.row (without bs (at + 1) ss) → AreRising s.row (without (a ∷ bs) (at + 1) ss) → AreRising from (cond b (without bs (at + 1) ss) (s ∷ without (a ∷ bs) (at + 1) ss))
  go true x y = rise-less s.row from (without bs (at + 1) ss) r.0 x
  go false x y = (r.0, y)

pub last-rises : (from : ℕ) (ss : List Stop) → AreRising from ss → from ≤ last_row from ss
last-rises from [] r = omega arith
last-rises from (s ∷ ss) r = omega (arith, r.0, last-rises s.row ss r.1)

-- none is after the last
pub each-upto : (from : ℕ) (ss : List Stop) → AreRising from ss → Every (IsUpto (last_row from ss)) ss
each-upto from [] r = tt
each-upto from (s ∷ ss) r = (last-rises s.row ss r.1, each-upto s.row ss r.1)

pub last-upto : (from row : ℕ) (ss : List Stop) → from ≤ row → Every (IsUpto row) ss → last_row from ss ≤ row
last-upto from row [] le each = le
last-upto from row (s ∷ ss) le each = last-upto s.row row ss each.0 each.1

pub heights-left : (bs : List ℕ) (at : ℕ) (ss : List Stop) → all_stop_rows (without bs at ss) ≤ all_stop_rows ss
heights-left bs at [] = omega arith
heights-left [] at (s ∷ ss) = omega arith
heights-left (a ∷ bs) at (s ∷ ss) = go (eqb a at) (heights-left bs (at + 1) ss) (heights-left (a ∷ bs) (at + 1) ss) where
  go : (b : Bool) → all_stop_rows (without bs (at + 1) ss) ≤ all_stop_rows ss → all_stop_rows (without (a ∷ bs) (at + 1) ss) ≤ all_stop_rows ss
      → all_stop_rows (cond b (without bs (at + 1) ss) (s ∷ without (a ∷ bs) (at + 1) ss)) ≤ all_stop_rows (s ∷ ss)
  go true x y = omega (arith, x, sum_by-cons the_height s ss)
  go false x y = omega (arith, y, sum_by-cons the_height s ss, sum_by-cons the_height s (without (a ∷ bs) (at + 1) ss))

pub fit-upto : (row : ℕ) (ss : List Stop) → Every (IsUpto row) ss → row + all_stop_rows ss < 2 ^ 32 → length ss < 2 ^ 32 → StopsFit ss
fit-upto row ss each fits few = record { rows = omega (arith, last-upto 0 row ss (omega arith) each, fits); count = few }

pub fit-left : (bs : List ℕ) (ss : List Stop) → AreRising 0 ss → StopsFit ss → StopsFit (without bs 0 ss)
fit-left bs ss rise fit =
    fit-upto (last_row 0 ss) (without bs 0 ss) (every-left (IsUpto (last_row 0 ss)) bs 0 ss (each-upto 0 ss rise))
    (omega (arith, fit.rows, heights-left bs 0 ss)) (omega (arith, fit.count, length-left bs 0 ss))

-- ---- a row of one among the others

-- those before an index are at most at its row, and those after it at least
pub record IsAmong (from n : ℕ) (y : Stop) (ys : List Stop) : Type 0 where
  pub behind : (k : ℕ) (d : Stop) → k < n → (get_or (take n ys ++ drop (n + 1) ys) k d).row ≤ y.row
  pub before : (k : ℕ) (d : Stop) → n ≤ k → k + 1 < length ys → y.row ≤ (get_or (take n ys ++ drop (n + 1) ys) k d).row

rises-at : (from : ℕ) (ss : List Stop) (k : ℕ) (d : Stop) → AreRising from ss → k < length ss → from ≤ (get_or ss k d).row
rises-at from [] k d r lt = absurd (omega (arith, lt))
rises-at from (s ∷ ss) zero d r lt = r.0
rises-at from (s ∷ ss) (suc k) d r lt = omega (arith, r.0, rises-at s.row ss k d r.1 (omega (arith, lt)))

rises-to : (from : ℕ) (ss : List Stop) (n : ℕ) (y : Stop) → AreRising from ss → slice_get ss n ≡ Some y → from ≤ y.row
rises-to from [] zero y r e = absurd (cc)
rises-to from [] (suc n) y r e = absurd (cc)
rises-to from (s ∷ ss) zero y r e = let f : s ≡ y = cc in omega (arith, r.0, ap (λ (s : Stop). s.row) f)
rises-to from (s ∷ ss) (suc n) y r e = omega (arith, r.0, rises-to s.row ss n y r.1 e)

pub among : (from n : ℕ) (y : Stop) (ys : List Stop) → AreRising from ys → slice_get ys n ≡ Some y → IsAmong from n y ys
among from n y [] r e = absurd (no n e) where
  no : (n : ℕ) → slice_get [] n ≡ Some y → ⊥
  no zero e = cc
  no (suc n) e = cc
among from zero y (s ∷ ss) r e =
    let f : s ≡ y = cc in
    record {
      behind = λ k d lt. absurd (omega (arith, lt));
      before = λ k d le lt. omega (arith, ap (λ (s : Stop). s.row) f, rises-at s.row ss k d r.1 (omega (arith, lt)));
    }
among from (suc n) y (s ∷ ss) r e =
    let next = among s.row n y ss r.1 e in
    let least = rises-to s.row ss n y r.1 e in
    let one : suc n + 1 ≡ suc (n + 1) = omega arith in
    record {
      behind = λ k d lt. omega (arith, ap (λ (i : ℕ). (get_or (take (suc n) (s ∷ ss) ++ drop i (s ∷ ss)) k d).row) one, behind next least k d lt);
      before = λ k d le lt. omega (arith, ap (λ (i : ℕ). (get_or (take (suc n) (s ∷ ss) ++ drop i (s ∷ ss)) k d).row) one, before next k d le lt);
    } where
      behind : IsAmong s.row n y ss → s.row ≤ y.row → (k : ℕ) (d : Stop) → k < suc n → (get_or (s ∷ (take n ss ++ drop (n + 1) ss)) k d).row ≤ y.row
      behind next least zero d lt = least
      behind next least (suc k) d lt = next.behind k d (omega (arith, lt))

      before : IsAmong s.row n y ss → (k : ℕ) (d : Stop) → suc n ≤ k → k + 1 < suc (length ss) → y.row ≤ (get_or (s ∷ (take n ss ++ drop (n + 1) ss)) k d).row
      before next zero d le lt = absurd (omega (arith, le))
      before next (suc k) d le lt = next.before k d (omega (arith, le)) (omega (arith, lt))

pub row-for : (n : ℕ) (y : Stop) (ys : List Stop) → AreRising 0 ys → slice_get ys n ≡ Some y → IsRowFor (take n ys ++ drop (n + 1) ys) n y.row
row-for n y ys r e =
    let a = among 0 n y ys r e in
    let lt = slice_get_within ys n y e in
    let size : length (take n ys ++ drop (n + 1) ys) ≡ n + (length ys - (n + 1)) = omega (arith, length-append (take n ys) (drop (n + 1) ys), length-take-le n ys (omega (arith, lt)), length-drop (n + 1) ys) in
    record {
      within = omega (arith, size);
      behind = a.behind;
      before = λ k d le less. a.before k d le (omega (arith, less, size, lt));
    }
