-- Which stops there are from a row through another, by the first of them.
use Rattle.std.proofs.Common.{◌≡◌, ℕ, zero, suc, ◌+◌, ◌<◌, ◌≤◌, ◌↔◌, true, List, [], ◌∷◌, Option, Some, None, length, take, get_or, inl, inr, ◌⊎◌, sym, ap, subst, arith}
use Rattle.std.specs.Borrow.{Bor}
use Rattle.std.specs.List.{slice_get}
use Rattle.std.specs.Option.{MatchOption, option_copied}
use Rattle.std.proofs.lemmas.Bool.{cases_lt, le-leb, leb-true, ltb-true}
use Rattle.std.proofs.lemmas.Option.{get_or_from_slice_get, slice_get_within}
use Rattle.cell_units.specs.declared.place.Bias.TheVariants.{Left, Right}
use Rattle.sum_core.specs.Sums.{total}
use Rattle.splice_tree.specs.declared.sides.Sides.{Sides}
use Rattle.splice_tree.specs.Sides.{none, both}
use Rattle.splice_tree.specs.Splices.{piece_sum}
use Rattle.block_map.specs.declared.row_count.RowCount.{RowCount}
use Rattle.block_map.specs.RowCounts.{more_rows, no_rows}
use Rattle.block_map.specs.Stops.{Stop, stands_before}
use Rattle.block_map.specs.inside.StopLists.{AreRising, AreStopPieces, StopPiece, stops_from}
use Rattle.block_map.proofs.RisingStops.{rises}
use Rattle.block_map.proofs.StopEdits.{are-take, lower-is, row-at}
use Rattle.block_map.proofs.StopPlaces.{length-stops}

past : (ps : List StopPiece) (at : ℕ) → slice_get ps at ≡ None → length ps ≤ at
past [] at e = omega arith
past (p ∷ ps) zero e = absurd (cc)
past (p ∷ ps) (suc at) e = omega (arith, past ps at e)

-- the row of the stop of a splice that a look found, or none past the last
pub found-row : (ps : List StopPiece) (stops : List Stop) → AreStopPieces ps → stops_from 0 ps ≡ stops → (at : ℕ) (before : Sides RowCount) (o : Option (Bor StopPiece)) (r : Option ℕ) (d : Stop)
    → before ≡ total (none no_rows) (both more_rows) (piece_sum more_rows) (take at ps) → option_copied o ≡ slice_get ps at
    → MatchOption o (r ≡ None) (λ p. r ≡ Some (before.lower.rows + p.now.gap.rows)) → MatchOption r (length stops ≤ at) (λ n. (get_or stops at d).row ≡ n)
found-row ps stops are is at before None r d before-is found m =
    subst (λ (r : Option ℕ). MatchOption r (length stops ≤ at) (λ n. (get_or stops at d).row ≡ n)) (sym m) (omega (arith, past ps at (sym found), length-stops 0 ps, ap length is))
found-row ps stops are is at before (Some b) r d before-is found m =
    subst (λ (r : Option ℕ). MatchOption r (length stops ≤ at) (λ n. (get_or stops at d).row ≡ n)) (sym m)
    (omega (arith, ap (λ (l : List Stop). (get_or l at d).row) is, row-at 0 ps at b.now d (sym found), ap (λ (s : Sides RowCount). s.lower.rows) before-is, lower-is 0 (take at ps) (are-take ps at are)))

-- Where the first stop from a row on is after another row, none is from the one through the other. The same holds where
-- there is no such stop.
module _ (ss : List Stop) (first last at : ℕ) (order : first ≤ last) (place : (k : ℕ) (s : Stop) → slice_get ss k ≡ Some s → (k < at) ↔ (stands_before Left first s ≡ true)) where
  upto-last : (k : ℕ) (s : Stop) → slice_get ss k ≡ Some s → k < at → stands_before Right last s ≡ true
  upto-last k s e lt = le-leb s.row last (omega (arith, ltb-true s.row first ((place k s e).0 lt), order))

  pub no-stop : length ss ≤ at → (k : ℕ) (s : Stop) → slice_get ss k ≡ Some s → (k < at) ↔ (stands_before Right last s ≡ true)
  no-stop end k s e = (upto-last k s e, λ t. omega (arith, slice_get_within ss k s e, end))

  pub none-through : AreRising 0 ss → (row : ℕ) → ((d : Stop) → (get_or ss at d).row ≡ row) → last < row
      → (k : ℕ) (s : Stop) → slice_get ss k ≡ Some s → (k < at) ↔ (stands_before Right last s ≡ true)
  none-through rising row here behind k s e = (upto-last k s e, λ t. before t (cases_lt k at)) where
    before : stands_before Right last s ≡ true → (k < at) ⊎ (at ≤ k) → k < at
    before t (inl lt) = lt
    before t (inr ge) =
        let own : s.row ≡ (get_or ss k s).row = ap (λ (s : Stop). s.row) (sym (get_or_from_slice_get ss k s s e)) in
        absurd (omega (arith, leb-true s.row last t, own, here s, behind, rises 0 ss at k s rising ge (slice_get_within ss k s e)))
