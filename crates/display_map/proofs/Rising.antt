-- The lines of a job are in the order in which they were sent, and stay so over an operation.
use Rattle.std.proofs.Common.{◌≡◌, ℕ, zero, suc, ◌+◌, ◌-◌, ◌<◌, ◌≤◌, cond, ltb, List, [], ◌∷◌, map, sym, subst, inl, inr, arith}
use Rattle.std.specs.Prelude.{Option, Some, None}
use Rattle.std.proofs.lemmas.Bool.{cases_lt, le-ltb, lt-ltb}
use Rattle.std.proofs.lemmas.List.Elements.{All-map, All-weaker}
use Rattle.kept_sheet.specs.Kept.{IsRising, standing}
use Rattle.display_map.specs.Outs.{OutParts, StandInOrder, carried, carried_out, some_places}

abbrev Rise : ℕ → List (Option ℕ) → Type 0
Rise from places = IsRising from (standing places)

-- the places of a run that is sent
pub run-rises : (from first count : ℕ) → from ≤ first → Rise from (some_places first count)
run-rises from first zero le = tt
run-rises from first (suc n) le = (le, run-rises (first + 1) (first + 1) n (omega arith))

module _ (first end count : ℕ) (order : first ≤ end) where
  put : (low : ℕ) (places : List (Option ℕ)) (p q : Option ℕ) → p ≡ q → Rise low (q ∷ places) → Rise low (p ∷ places)
  put low places p q is r = subst (λ (o : Option ℕ). Rise low (o ∷ places)) (sym is) r

  stays : (line : ℕ) → line < first → carried first end count (Some line) ≡ Some line
  stays line lt = λ i. cond (lt-ltb line first lt i) (Some line) (cond (ltb line end) None (Some (line - end + (first + count))))

  goes : (line : ℕ) → first ≤ line → line < end → carried first end count (Some line) ≡ None
  goes line ge lt = λ i. cond (le-ltb line first ge i) (Some line) (cond (lt-ltb line end lt i) None (Some (line - end + (first + count))))

  moves : (line : ℕ) → end ≤ line → carried first end count (Some line) ≡ Some (line - end + (first + count))
  moves line ge = λ i. cond (le-ltb line first (omega (arith, ge, order)) i) (Some line) (cond (le-ltb line end ge i) None (Some (line - end + (first + count))))

  -- of places that all lie after the first line of the splice
  behind : (from low : ℕ) (places : List (Option ℕ)) → first ≤ from → low ≤ first + count + (from - end) → Rise from places → Rise low (map (carried first end count) places)
  behind from low [] ge le r = tt
  behind from low (None ∷ places) ge le r = behind from low places ge le r
  behind from low (Some line ∷ places) ge le r = elim (cases_lt line end) [
    | inl lt ↦
        put low (map (carried first end count) places) (carried first end count (Some line)) None (goes line (omega (arith, ge, r.0)) lt)
        (behind (line + 1) low places (omega (arith, ge, r.0)) (omega (arith, le, lt, r.0)) r.1)
    | inr past ↦
        put low (map (carried first end count) places) (carried first end count (Some line)) (Some (line - end + (first + count))) (moves line past)
        (omega (arith, le, past, r.0), behind (line + 1) (line - end + (first + count) + 1) places (omega (arith, ge, r.0)) (omega (arith, past)) r.1)
  ]

  -- of any
  carried-rises : (from : ℕ) (places : List (Option ℕ)) → from ≤ first → Rise from places → Rise from (map (carried first end count) places)
  carried-rises from [] le r = tt
  carried-rises from (None ∷ places) le r = carried-rises from places le r
  carried-rises from (Some line ∷ places) le r = elim (cases_lt line first) [
    | inl lt ↦
        put from (map (carried first end count) places) (carried first end count (Some line)) (Some line) (stays line lt)
        (r.0, carried-rises (line + 1) places (omega (arith, lt)) r.1)
    | inr ge ↦ elim (cases_lt line end) [
      | inl lt ↦
          put from (map (carried first end count) places) (carried first end count (Some line)) None (goes line ge lt)
          (behind (line + 1) from places (omega (arith, ge)) (omega (arith, le)) r.1)
      | inr past ↦
          put from (map (carried first end count) places) (carried first end count (Some line)) (Some (line - end + (first + count))) (moves line past)
          (omega (arith, le, past), behind (line + 1) (line - end + (first + count) + 1) places (omega (arith, ge)) (omega (arith, past)) r.1)
    ]
  ]

  -- of all jobs
  pub carried-in_order : (outs : List OutParts) → StandInOrder outs → StandInOrder (map (carried_out first end count) outs)
  carried-in_order outs rise =
      let P : OutParts → Type 0 = λ (out : OutParts). Rise 0 out.lines in
      All-map P (carried_out first end count) outs
      (All-weaker P (λ (out : OutParts). P (carried_out first end count out)) (λ out r. carried-rises 0 out.lines (omega arith) r) outs rise)
