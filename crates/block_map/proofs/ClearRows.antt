-- Rows of text after one at which there is no stop: those up to the next stop.
use Rattle.std.proofs.Common.{◌≡◌, ℕ, ◌+◌, ◌<◌, ◌≤◌, ◌↔◌, true, List, [], Some, length, get_or, sym, ap, inl, inr, ◌⊎◌, arith}
use Rattle.std.specs.List.{slice_get}
use Rattle.std.proofs.lemmas.Bool.{cases_lt, le-leb, leb-true}
use Rattle.std.proofs.lemmas.List.{get_or_past}
use Rattle.std.proofs.lemmas.Option.{get_or_from_slice_get, slice_get-get_or, slice_get_within}
use Rattle.cell_units.specs.declared.place.Bias.TheVariants.{Right}
use Rattle.block_map.specs.Stops.{Stop, stands_before, texts_at}
use Rattle.block_map.specs.inside.StopLists.{AreRising, stop_with}
use Rattle.block_map.proofs.RisingStops.{rises}
use Rattle.block_map.proofs.ZonesOfLines.{no-texts}

module _ (ss : List Stop) (row at : ℕ) (place : (k : ℕ) (s : Stop) → slice_get ss k ≡ Some s → (k < at) ↔ (stands_before Right row s ≡ true)) where
  clear-before : (t : ℕ) → row < t → ((k : ℕ) (s : Stop) → at ≤ k → slice_get ss k ≡ Some s → t < s.row) → texts_at t ss ≡ []
  clear-before t lt further = no-texts t ss (λ k d few e. none k d few e (cases_lt k at)) where
    none : (k : ℕ) (d : Stop) → k < length ss → (get_or ss k d).row ≡ t → (k < at) ⊎ (at ≤ k) → ⊥
    none k d few e (inl less) =
        let s = get_or ss k d in
        omega (arith, leb-true s.row row ((place k s (slice_get-get_or ss k d few)).0 less), e, lt)
    none k d few e (inr ge) = omega (arith, further k (get_or ss k d) ge (slice_get-get_or ss k d few), e)

  -- no stop is after it
  pub clear-end : length ss ≤ at → (t : ℕ) → row < t → texts_at t ss ≡ []
  clear-end end t lt = clear-before t lt (λ k s ge seen. absurd (omega (arith, slice_get_within ss k s seen, end, ge)))

  -- the next stop
  module _ (next : ℕ) (here : (d : Stop) → (get_or ss at d).row ≡ next) where
    pub next-behind : row < next
    next-behind = elim (cases_lt at (length ss)) [
      | inl few ↦ behind (get_or ss at (stop_with 0 [])) (slice_get-get_or ss at (stop_with 0 []) few) (here (stop_with 0 []))
      | inr past ↦
          let d = stop_with (row + 1) [] in
          omega (arith, here d, ap (λ (s : Stop). s.row) (get_or_past ss at d past))
    ] where
      behind : (s : Stop) → slice_get ss at ≡ Some s → s.row ≡ next → row < next
      behind s seen e = elim (cases_lt row s.row) [
        | inl lt ↦ omega (arith, lt, e)
        | inr le ↦ absurd (omega (arith, (place at s seen).1 (le-leb s.row row le)))
      ]

    pub clear-next : AreRising 0 ss → (t : ℕ) → row < t → t < next → texts_at t ss ≡ []
    clear-next rising t lt few = clear-before t lt (λ k s ge seen.
        let own : s.row ≡ (get_or ss k s).row = ap (λ (s : Stop). s.row) (sym (get_or_from_slice_get ss k s s seen)) in
        omega (arith, few, here s, own, rises 0 ss at k s rising ge (slice_get_within ss k s seen)))
