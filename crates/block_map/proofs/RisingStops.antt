-- Stops whose rows don't fall: where a stop without lines is put, and what is left where one is taken out.
use Rattle.std.proofs.Common.{◌≡◌, ℕ, zero, suc, ◌+◌, ◌^◌, ◌<◌, ◌≤◌, List, [], ◌∷◌, length, take, drop, get_or, refl, ap, arith}
use Rattle.std.proofs.lemmas.List.{length-append, length-drop, length-take}
use Rattle.std.proofs.lemmas.List.Sums.{sum_by-cons}
use Rattle.block_map.specs.Stops.{Stop, all_stop_rows}
use Rattle.block_map.specs.inside.StopLists.{AreRising, IsRowFor, StopsFit, last_row, stop_with, with_stop, without_stop}
use Rattle.block_map.proofs.PairedSides.{first-without, next-without, none-without}

first-last : (base : ℕ) (ss : List Stop) → AreRising base ss → base ≤ last_row base ss
first-last base [] r = omega arith
first-last base (s ∷ ss) r = omega (arith, r.0, first-last s.row ss r.1)

first-at : (base : ℕ) (ss : List Stop) (k : ℕ) (d : Stop) → AreRising base ss → k < length ss → base ≤ (get_or ss k d).row
first-at base [] k d r lt = absurd (omega arith)
first-at base (s ∷ ss) zero d r lt = r.0
first-at base (s ∷ ss) (suc k) d r lt = omega (arith, r.0, first-at s.row ss k d r.1 (omega arith))

-- no stop is after a later one
pub rises : (base : ℕ) (ss : List Stop) (i j : ℕ) (d : Stop) → AreRising base ss → i ≤ j → j < length ss → (get_or ss i d).row ≤ (get_or ss j d).row
rises base [] i j d r le lt = absurd (omega arith)
rises base (s ∷ ss) zero zero d r le lt = omega arith
rises base (s ∷ ss) zero (suc j) d r le lt = first-at s.row ss j d r.1 (omega arith)
rises base (s ∷ ss) (suc i) zero d r le lt = absurd (omega arith)
rises base (s ∷ ss) (suc i) (suc j) d r le lt = rises s.row ss i j d r.1 (omega arith) (omega arith)

rising-take : (base at : ℕ) (ss : List Stop) → AreRising base ss → AreRising base (take at ss)
rising-take base zero [] r = tt
rising-take base (suc at) [] r = tt
rising-take base zero (s ∷ ss) r = tt
rising-take base (suc at) (s ∷ ss) r = (r.0, rising-take s.row at ss r.1)

-- ---- the row of the stop before an index

behind : (base at : ℕ) (ss : List Stop) (k : ℕ) (d : Stop) → AreRising base ss → at ≤ length ss → k < at → (get_or ss k d).row ≤ last_row base (take at ss)
behind base zero ss k d r le lt = absurd (omega arith)
behind base (suc at) [] k d r le lt = absurd (omega arith)
behind base (suc at) (s ∷ ss) zero d r le lt = first-last s.row (take at ss) (rising-take s.row at ss r.1)
behind base (suc at) (s ∷ ss) (suc k) d r le lt = behind s.row at ss k d r.1 (omega arith) (omega arith)

before : (base at : ℕ) (ss : List Stop) (k : ℕ) (d : Stop) → AreRising base ss → at ≤ k → k < length ss → last_row base (take at ss) ≤ (get_or ss k d).row
before base at [] k d r le lt = absurd (omega arith)
before base zero (s ∷ ss) k d r le lt = first-at base (s ∷ ss) k d r lt
before base (suc at) (s ∷ ss) zero d r le lt = absurd (omega arith)
before base (suc at) (s ∷ ss) (suc k) d r le lt = before s.row at ss k d r.1 (omega arith) (omega arith)

pub row-between : (ss : List Stop) (at row : ℕ) → AreRising 0 ss → at ≤ length ss → row ≡ last_row 0 (take at ss) → IsRowFor ss at row
row-between ss at row r le is = record {
  within = le;
  behind = λ k d lt. omega (arith, is, behind 0 at ss k d r le lt);
  before = λ k d low lt. omega (arith, is, before 0 at ss k d r low lt);
}

-- ---- one more, without lines

last-with : (base at row : ℕ) (ss : List Stop) → row ≡ last_row base (take at ss) → last_row base (with_stop at (stop_with row []) ss) ≡ last_row base ss
last-with base zero row [] is = is
last-with base (suc at) row [] is = is
last-with base zero row (s ∷ ss) is = refl
last-with base (suc at) row (s ∷ ss) is = last-with s.row at row ss is

rows-with : (at row : ℕ) (ss : List Stop) → all_stop_rows (with_stop at (stop_with row []) ss) ≡ all_stop_rows ss
rows-with zero row [] = refl
rows-with (suc at) row [] = refl
rows-with zero row (s ∷ ss) = omega (arith, sum_by-cons (λ (s : Stop). length s.lines) (stop_with row []) (s ∷ ss))
rows-with (suc at) row (s ∷ ss) =
    omega (arith, sum_by-cons (λ (s : Stop). length s.lines) s (with_stop at (stop_with row []) ss), sum_by-cons (λ (s : Stop). length s.lines) s ss, rows-with at row ss)

pub length-more : (at : ℕ) (t : Stop) (ss : List Stop) → length (with_stop at t ss) ≡ length ss + 1
length-more zero t [] = refl
length-more (suc at) t [] = refl
length-more zero t (s ∷ ss) = omega arith
length-more (suc at) t (s ∷ ss) = omega (arith, length-more at t ss)

pub fits-with : (ss : List Stop) (at row : ℕ) → row ≡ last_row 0 (take at ss) → length ss + 1 < 2 ^ 32 → StopsFit ss → StopsFit (with_stop at (stop_with row []) ss)
fits-with ss at row is few fit = record {
  rows = omega (arith, last-with 0 at row ss is, rows-with at row ss, fit.rows);
  count = omega (arith, length-more at (stop_with row []) ss, few);
}

-- ---- one less

lower-base : (a b : ℕ) (ss : List Stop) → a ≤ b → last_row a ss ≤ last_row b ss
lower-base a b [] le = le
lower-base a b (s ∷ ss) le = omega arith

last-without : (base at : ℕ) (ss : List Stop) → AreRising base ss → last_row base (without_stop at ss) ≤ last_row base ss
last-without base at [] r = omega (arith, ap (last_row base) (none-without {X = Stop} at))
last-without base zero (s ∷ ss) r = omega (arith, ap (last_row base) (first-without s ss), lower-base base s.row ss r.0)
last-without base (suc at) (s ∷ ss) r = omega (arith, ap (last_row base) (next-without at s ss), last-without s.row at ss r.1)

rows-without : (at : ℕ) (ss : List Stop) → all_stop_rows (without_stop at ss) ≤ all_stop_rows ss
rows-without at [] = omega (arith, ap all_stop_rows (none-without {X = Stop} at))
rows-without zero (s ∷ ss) = omega (arith, ap all_stop_rows (first-without s ss), sum_by-cons (λ (s : Stop). length s.lines) s ss)
rows-without (suc at) (s ∷ ss) =
    omega (
      arith,
      ap all_stop_rows (next-without at s ss),
      sum_by-cons (λ (s : Stop). length s.lines) s (without_stop at ss),
      sum_by-cons (λ (s : Stop). length s.lines) s ss,
      rows-without at ss,
    )

pub fits-without : (ss : List Stop) (at : ℕ) → AreRising 0 ss → StopsFit ss → StopsFit (without_stop at ss)
fits-without ss at r fit = record {
  rows = omega (arith, last-without 0 at ss r, rows-without at ss, fit.rows);
  count = omega (arith, length-append (take at ss) (drop (at + 1) ss), length-drop (at + 1) ss, length-take at ss, fit.count);
}
