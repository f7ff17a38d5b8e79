-- What becomes of stops where one is taken out.
use Rattle.std.proofs.Common.{◌≡◌, ℕ, zero, suc, ◌+◌, ◌^◌, ◌<◌, ◌≤◌, List, [], ◌∷◌, ◌++◌, Option, Some, None, IfSome, length, min, take, drop, refl, sym, ap, ◌∙◌, arith, add-one, subst}
use Rattle.std.specs.Borrow.{Bor}
use Rattle.std.specs.List.{slice_get}
use Rattle.std.specs.Option.{option_copied}
use Rattle.std.proofs.lemmas.List.{length-append, length-drop, length-take-le, take-append-drop}
use Rattle.std.proofs.lemmas.List.Sums.{sum_by-append, sum_by-drop_more, sum_by-take-drop}
use Rattle.std.proofs.lemmas.Option.{none-some, same_Some}
use Rattle.sum_core.specs.Sums.{total}
use Rattle.splice_tree.specs.Sides.{none, both, BothFit}
use Rattle.splice_tree.specs.Splices.{piece_sum, replaced}
use Rattle.block_map.specs.declared.row_count.RowCount.{RowCount}
use Rattle.block_map.specs.RowCounts.{RowsFit, more_rows, no_rows}
use Rattle.block_map.specs.Stops.{Stop, all_stop_rows}
use Rattle.block_map.specs.inside.StopLists.{AreStopPieces, StopPiece, StopsFit, last_row, stops_from, without_stop}
use Rattle.block_map.proofs.StopEdits.{are-replaced, count-replaced, end_row, fits-replaced, last-append, last-is, piece-at, puts, row-at-most, stops-replaced, stops-take, there}
use Rattle.block_map.proofs.StopPlaces.{height, length-stops}

-- the rows of text before an index don't fall
pub take-next : (base : ℕ) (ps : List StopPiece) (n : ℕ) → end_row base (take n ps) ≤ end_row base (take (n + 1) ps)
take-next base ps n = omega (arith, go base ps n, ap (λ (k : ℕ). end_row base (take k ps)) (add-one n)) where
  go : (base : ℕ) (ps : List StopPiece) (n : ℕ) → end_row base (take n ps) ≤ end_row base (take (suc n) ps)
  go base [] zero = omega arith
  go base [] (suc n) = omega arith
  go base (p ∷ ps) zero = omega (arith, none (base + p.gap.rows) ps) where
    none : (base : ℕ) (ps : List StopPiece) → end_row base (take 0 ps) ≡ base
    none base [] = refl
    none base (p ∷ ps) = refl
  go base (p ∷ ps) (suc n) = go (base + p.gap.rows) ps n

last-mono : (a b : ℕ) (ss : List Stop) → a ≤ b → last_row a ss ≤ last_row b ss
last-mono a b [] le = le
last-mono a b (s ∷ ss) le = omega arith

module _ (ps : List StopPiece) (stops : List Stop) (are : AreStopPieces ps) (is : stops_from 0 ps ≡ stops) (at : ℕ) (lt : at < length stops) (fit : StopsFit stops)
    (start before index : ℕ) (o : Option (Bor StopPiece)) (start-at : start ≡ end_row 0 (take at ps)) (before-at : before ≡ end_row 0 (take (at + 1) ps))
    (index-is : index ≡ min (at + 1) (length ps)) (found : option_copied o ≡ slice_get ps index) where
  pub next-within : at + 1 ≤ length ps
  next-within = omega (arith, lt, length-stops 0 ps, ap length is)

  seen : (b : Bor StopPiece) → o ≡ Some b → slice_get ps (at + 1) ≡ Some b.now
  seen b e = sym (there ps (at + 1) index next-within index-is) ∙ sym found ∙ ap option_copied e

  next-row : (p : StopPiece) → slice_get ps (at + 1) ≡ Some p → before + p.gap.rows ≤ last_row 0 stops
  next-row p e = omega (arith, before-at, row-at-most 0 ps (at + 1) p e, last-is 0 ps, ap (last_row 0) is)

  pub removal-asked : IfSome o (λ p. (start ≤ before + p.now.gap.rows) × (before + p.now.gap.rows < 2 ^ 32))
  removal-asked = go o refl where
    go : (q : Option (Bor StopPiece)) → o ≡ q → IfSome q (λ p. (start ≤ before + p.now.gap.rows) × (before + p.now.gap.rows < 2 ^ 32))
    go None e = tt
    go (Some b) e = (omega (arith, start-at, before-at, take-next 0 ps at), omega (arith, next-row b.now (seen b e), fit.rows))

  -- the stops that are left fit too
  pub without-fits : StopsFit (without_stop at stops)
  without-fits =
      let front = ap (last_row 0) (sym (stops-take 0 ps at)) in
      let front' = ap (last_row 0) (sym (stops-take 0 ps (at + 1))) in
      let same = ap (λ (l : List Stop). last_row 0 (take at l)) is in
      let same' = ap (λ (l : List Stop). last_row 0 (take (at + 1) l)) is in
      let le : last_row 0 (take at stops) ≤ last_row 0 (take (at + 1) stops) = omega (arith, front, front', same, same', last-is 0 (take at ps), last-is 0 (take (at + 1) ps), take-next 0 ps at) in
      let d : Stop = record { row = 0; lines = [] } in
      let all = sum_by-append height (take at stops) (drop (at + 1) stops) in
      let split = sum_by-take-drop height stops at in
      let one = sum_by-drop_more height stops at d lt in
      let joined = ap (last_row 0) (take-append-drop (at + 1) stops) in
      record {
        rows = omega (arith, fit.rows, all, split, one, joined, last-append 0 (take at stops) (drop (at + 1) stops), last-append 0 (take (at + 1) stops) (drop (at + 1) stops), last-mono (last_row 0 (take at stops)) (last_row 0 (take (at + 1) stops)) (drop (at + 1) stops) le);
        count = omega (arith, fit.count, length-append (take at stops) (drop (at + 1) stops), length-drop (at + 1) stops, length-take-le at stops (omega (arith, lt)), lt);
      }

  module _ (gap : RowCount) (given : IfSome o (λ p. start + gap.rows ≡ before + p.now.gap.rows)) where
    next : (p : StopPiece) → slice_get ps (at + 1) ≡ Some p → start + gap.rows ≡ before + p.gap.rows
    next p e = go o refl given where
      go : (q : Option (Bor StopPiece)) → o ≡ q → IfSome q (λ p. start + gap.rows ≡ before + p.now.gap.rows) → start + gap.rows ≡ before + p.gap.rows
      go None f g = absurd (none-some p (ap option_copied (sym f) ∙ found ∙ there ps (at + 1) index next-within index-is ∙ e))
      go (Some b) f g =
          let same : b.now ≡ p = same_Some b.now p (sym (seen b f) ∙ e) in
          omega (arith, g, ap (λ (p : StopPiece). p.gap.rows) same)

    pub removal-gap_fits : (p : StopPiece) → slice_get ps (at + 1) ≡ Some p → (gap.rows + p.old.rows < 2 ^ 32) × (gap.rows + p.new.rows < 2 ^ 32)
    removal-gap_fits p e =
        let sizes = piece-at 0 ps (at + 1) p are e in
        let all = ap all_stop_rows is in (
          omega (arith, next p e, next-row p e, fit.rows, sizes.0),
          omega (arith, next p e, next-row p e, fit.rows, sizes.1, all),
        )

    module _ (items : List StopPiece) (empty : items ≡ []) where
      pub stops-removed : stops_from 0 (replaced at (at + 1) items gap ps) ≡ without_stop at stops
      stops-removed =
          ap (λ (l : List StopPiece). stops_from 0 (replaced at (at + 1) l gap ps)) empty
          ∙ stops-replaced at (at + 1) [] ps gap (puts ps (at + 1) (end_row 0 (take at ps)) gap (end_row 0 (take (at + 1) ps)) (λ p e. omega (arith, start-at, before-at, next p e)))
          ∙ ap (λ (l : List Stop). take at l ++ drop (at + 1) l) is

      pub are-removed : AreStopPieces (replaced at (at + 1) items gap ps)
      are-removed = are-replaced at (at + 1) items ps gap (subst AreStopPieces (sym empty) tt) are

      pub removed-fits : BothFit RowsFit (total (none no_rows) (both more_rows) (piece_sum more_rows) (replaced at (at + 1) items gap ps))
      removed-fits = fits-replaced (replaced at (at + 1) items gap ps) (without_stop at stops) are-removed stops-removed without-fits

      pub removed-small : length (replaced at (at + 1) items gap ps) < 2 ^ 32
      removed-small = count-replaced (replaced at (at + 1) items gap ps) (without_stop at stops) stops-removed without-fits

      pub removed-count : length (replaced at (at + 1) items gap ps) ≤ length stops
      removed-count =
          omega (arith, length-stops 0 (replaced at (at + 1) items gap ps), ap length stops-removed, length-append (take at stops) (drop (at + 1) stops), length-drop (at + 1) stops, length-take-le at stops (omega (arith, lt)), lt)
