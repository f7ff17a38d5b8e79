-- Which ranges have a byte in common with others.
use Rattle.std.specs.Prelude.{◌≡◌, ℕ, ◌+◌, List, [], ◌∷◌, map, filter, drop, Option, MatchOption}
use Rattle.mark_tree.specs.declared.entry.Placed.{Placed}
use Rattle.mark_tree.specs.declared.mark.RangeMark.{RangeMark}
use Rattle.mark_tree.specs.declared.meeting.Met.{Met}
use Rattle.mark_tree.specs.Ranges.{has_in_common}
use Rattle.mark_tree.specs.RangeViews.{range_of}

module _ {P : Type 0} where
  -- the ranges from place `at` on that have a byte in common with those from `start` to `end`
  abbrev pub met_from : ℕ → ℕ → ℕ → List (Placed P) → List RangeMark
  met_from start end at ps = filter (has_in_common start end) (map range_of (drop at ps))

  -- the first of these with its place, after which the others lie, or none where there are none
  abbrev pub IsNextMet : ℕ → ℕ → ℕ → List (Placed P) → Option Met → Type 0
  IsNextMet start end at ps found =
      let met = met_from start end at ps in
      MatchOption found (met ≡ []) (λ m. met ≡ m.range ∷ met_from start end (m.place + 1) ps)
