-- Sums over the parts of a line.
use Rattle.std.proofs.Common.{ℕ, ◌+◌, ◌-◌, ◌<◌, ◌≤◌, suc, zero, Bool, true, false, cond, ltb, List, [], ◌∷◌, length, take, get_or, arith}
use Rattle.std.specs.List.{sum_by}
use Rattle.std.proofs.lemmas.List.Sums.{sum_by-cons}
use Rattle.cell_units.specs.declared.place.Bias.{Bias}
use Rattle.plain_rows.specs.declared.folded_lines.Part.{Part}
use Rattle.plain_rows.specs.declared.folded_lines.Part.TheVariants.{Buffer, Feed, Inlay, InlayFeed, Placeholder}
use Rattle.plain_rows.specs.inside.Passed.{inlay_passed, part_bytes, passed_bytes}

abbrev one : Bool → ℕ → ℕ
one c n = cond c n 0

one-le : (c : Bool) (n : ℕ) → one c n ≤ n
one-le true n = omega arith
one-le false n = omega arith

pub passed-most : (o : ℕ) (bias : Bias) (p : Part) → passed_bytes o bias p ≤ part_bytes p
passed-most o bias (Buffer start end) = omega arith
passed-most o bias (Inlay number at start end) = one-le (inlay_passed o bias at) (end - start)
passed-most o bias (Placeholder start end) = one-le (ltb start o) 3
passed-most o bias (Feed at) = one-le (ltb at o) 1
passed-most o bias (InlayFeed number at) = one-le (inlay_passed o bias at) 1

-- what was added up with one more is at most all bytes
pub sum-bound : (o : ℕ) (bias : Bias) (ps : List Part) (k : ℕ) (d : Part) → k < length ps →
    sum_by (passed_bytes o bias) (take k ps) + passed_bytes o bias (get_or ps k d) ≤ sum_by part_bytes ps
sum-bound o bias [] k d lt = absurd (omega (arith, lt))
sum-bound o bias (p ∷ ps) zero d lt = omega (arith, sum_by-cons part_bytes p ps, passed-most o bias p)
sum-bound o bias (p ∷ ps) (suc k) d lt =
    omega (arith, sum_by-cons part_bytes p ps, sum_by-cons (passed_bytes o bias) p (take k ps), passed-most o bias p, sum-bound o bias ps k d (omega arith))
