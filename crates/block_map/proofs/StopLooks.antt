-- What one way down the tree of stops says of a place. It gives the rows of the stops before it, and which places near
-- it have the same stops before them.
use Rattle.std.proofs.Common.{◌≡◌, ℕ, zero, suc, ◌+◌, ◌<◌, ◌≤◌, ◌↔◌, true, List, [], ◌∷◌, Option, Some, None, length, take, get_or, unwrap_or, refl, sym, ap, ◌∙◌, inl, inr, ◌⊎◌, arith}
use Rattle.std.specs.List.{slice_get}
use Rattle.std.specs.Option.{MatchOption}
use Rattle.std.proofs.lemmas.Bool.{cases_lt, false_from_ne_true, le-leb, leb-true, lt-ltb, ltb-true}
use Rattle.std.proofs.lemmas.List.Sums.{sum_by-cons}
use Rattle.std.proofs.lemmas.Option.{get_or_from_slice_get, slice_get_within}
use Rattle.cell_units.specs.declared.place.Bias.{Bias}
use Rattle.cell_units.specs.declared.place.Bias.TheVariants.{Left, Right}
use Rattle.sum_core.specs.Sums.{total}
use Rattle.splice_tree.specs.declared.sides.Sides.{Sides}
use Rattle.splice_tree.specs.Sides.{none, both}
use Rattle.splice_tree.specs.Splices.{piece_sum}
use Rattle.block_map.specs.declared.row_count.RowCount.{RowCount}
use Rattle.block_map.specs.RowCounts.{more_rows, no_rows}
use Rattle.block_map.specs.Stops.{Stop, all_stop_rows, rows_upto, stands_before}
use Rattle.block_map.specs.inside.StopLists.{AreRising, AreStopPieces, StopPiece, last_row, stop_with, stops_from}
use Rattle.block_map.proofs.RisingStops.{rises, row-between}
use Rattle.block_map.proofs.StopEdits.{are-take, last-is, lower-is, stops-take}
use Rattle.block_map.proofs.StopPlaces.{height, sums-are, upto-skip, upto-take}

-- ---- the stops before a place are those up to the first one that isn't

pub upto-place : (bias : Bias) (row : ℕ) (ss : List Stop) (at : ℕ) → ((k : ℕ) (s : Stop) → slice_get ss k ≡ Some s → (k < at) ↔ (stands_before bias row s ≡ true)) → rows_upto bias row ss ≡ all_stop_rows (take at ss)
upto-place bias row [] zero place = refl
upto-place bias row [] (suc at) place = refl
upto-place bias row (s ∷ ss) zero place =
    upto-skip bias row s ss (false_from_ne_true (stands_before bias row s) (λ t. absurd (omega (arith, (place zero s refl).1 t))))
    ∙ upto-place bias row ss zero (λ k d e. (λ lt. absurd (omega (arith, lt)), λ t. absurd (omega (arith, (place (suc k) d e).1 t))))
upto-place bias row (s ∷ ss) (suc at) place =
    upto-take bias row s ss ((place zero s refl).0 (omega arith))
    ∙ ap (λ (n : ℕ). length s.lines + n) (upto-place bias row ss at (λ k d e. (λ lt. (place (suc k) d e).0 (omega (arith, lt)), λ t. omega (arith, (place (suc k) d e).1 t))))
    ∙ sym (sum_by-cons height s (take at ss))

module _ (ps : List StopPiece) (stops : List Stop) (are : AreStopPieces ps) (is : stops_from 0 ps ≡ stops) (at : ℕ) (before : Sides RowCount)
    (sum : before ≡ total (none no_rows) (both more_rows) (piece_sum more_rows) (take at ps)) where
  taken : stops_from 0 (take at ps) ≡ take at stops
  taken = stops-take 0 ps at ∙ ap (take at) is

  -- what splices put in has as many rows as their stops
  pub found-rows : before.upper.rows ≡ before.lower.rows + all_stop_rows (take at stops)
  found-rows =
      omega (
        arith,
        sums-are 0 (take at ps) (are-take ps at are),
        ap (λ (s : Sides RowCount). s.upper.rows) sum,
        ap (λ (s : Sides RowCount). s.lower.rows) sum,
        ap all_stop_rows taken,
      )

  pub found-before : before.lower.rows ≡ last_row 0 (take at stops)
  found-before =
      omega (
        arith,
        ap (λ (s : Sides RowCount). s.lower.rows) sum,
        lower-is 0 (take at ps) (are-take ps at are),
        last-is 0 (take at ps),
        ap (last_row 0) taken,
      )

-- ---- places that have the same stops before them

-- what is before a place has all stops before it that aren't after it
before-too : (bias : Bias) (t : ℕ) (s d : Stop) → s.row ≤ d.row → stands_before bias t d ≡ true → stands_before bias t s ≡ true
before-too Left t s d le b = lt-ltb s.row t (omega (arith, le, ltb-true d.row t b))
before-too Right t s d le b = le-leb s.row t (omega (arith, le, leb-true d.row t b))

-- a stop is before places from one on
pub from-left : (row t : ℕ) (s : Stop) → s.row ≡ row → (row + 1 ≤ t) ↔ (stands_before Left t s ≡ true)
from-left row t s is = (λ le. lt-ltb s.row t (omega (arith, le, is)), λ b. omega (arith, is, ltb-true s.row t b))

pub from-right : (row t : ℕ) (s : Stop) → s.row ≡ row → (row ≤ t) ↔ (stands_before Right t s ≡ true)
from-right row t s is = (λ le. le-leb s.row t (omega (arith, le, is)), λ b. omega (arith, is, leb-true s.row t b))

-- a row that is at most that of the stop at an index is at most that of a later one
pub at-most-later : (ss : List Stop) (at next : ℕ) (o : Option ℕ) (end : ℕ) → AreRising 0 ss → ((d : Stop) → MatchOption o (length ss ≤ at) (λ r. (get_or ss at d).row ≡ r)) → next ≤ unwrap_or o end
    → (k : ℕ) (s : Stop) → at ≤ k → slice_get ss k ≡ Some s → next ≤ s.row
at-most-later ss at next None end rising here le k s ge e = absurd (omega (arith, here s, slice_get_within ss k s e, ge))
at-most-later ss at next (Some r) end rising here le k s ge e =
    let own : s.row ≡ (get_or ss k s).row = ap (λ (s : Stop). s.row) (sym (get_or_from_slice_get ss k s s e)) in
    omega (arith, le, here s, own, rises 0 ss at k s rising ge (slice_get_within ss k s e))

module _ (bias : Bias) (row : ℕ) (ss : List Stop) (at : ℕ) (place : (k : ℕ) (s : Stop) → slice_get ss k ≡ Some s → (k < at) ↔ (stands_before bias row s ≡ true))
    (rising : AreRising 0 ss) (within : at ≤ length ss)
    (before from : ℕ) (last : before ≡ last_row 0 (take at ss)) (first : (t : ℕ) (s : Stop) → s.row ≡ before → (from ≤ t) ↔ (stands_before bias t s ≡ true))
    (next to : ℕ) (later : (k : ℕ) (s : Stop) → at ≤ k → slice_get ss k ≡ Some s → next ≤ s.row) (end : (t : ℕ) (s : Stop) → s.row ≡ next → (to ≤ t) ↔ (stands_before bias t s ≡ true)) where
  same-place : (t : ℕ) → from ≤ t → t < to → (k : ℕ) (s : Stop) → slice_get ss k ≡ Some s → (k < at) ↔ (stands_before bias t s ≡ true)
  same-place t low high k s e = (λ lt. earlier lt, λ b. still b (cases_lt k at)) where
    earlier : k < at → stands_before bias t s ≡ true
    earlier lt =
        let own : s.row ≡ (get_or ss k s).row = ap (λ (s : Stop). s.row) (sym (get_or_from_slice_get ss k s s e)) in
        let le : s.row ≤ before = omega (arith, own, (row-between ss at before rising within last).behind k s lt) in
        before-too bias t s (stop_with before []) le ((first t (stop_with before []) refl).0 low)

    still : stands_before bias t s ≡ true → (k < at) ⊎ (at ≤ k) → k < at
    still b (inl lt) = lt
    still b (inr ge) =
        let there = before-too bias t (stop_with next []) s (later k s ge e) b in
        absurd (omega (arith, (end t (stop_with next []) refl).1 there, high))

  pub same-rows : (t : ℕ) → from ≤ t → t < to → rows_upto bias t ss ≡ rows_upto bias row ss
  same-rows t low high = upto-place bias t ss at (same-place t low high) ∙ sym (upto-place bias row ss at place)
