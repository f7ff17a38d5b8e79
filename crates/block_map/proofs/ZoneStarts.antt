-- How many rows are before a zone, and what is in it.
use Rattle.std.proofs.Common.{◌≡◌, ℕ, zero, suc, ◌+◌, ◌<◌, ◌≤◌, Bool, true, false, cond, eqb, ltb, leb, List, [], ◌∷◌, ◌++◌, flat_map, length, map, get_or, refl, sym, ap, ◌∙◌, inl, inr, arith, add-one, append-nil}
use Rattle.std.specs.List.{range_with_len}
use Rattle.std.proofs.lemmas.Bool.{cases_order, le-ltb}
use Rattle.std.proofs.lemmas.Bool.Decides.{nat_tests}
use Rattle.std.proofs.lemmas.List.{length-append, length-map}
use Rattle.std.proofs.lemmas.List.Concat.{flat_map-append}
use Rattle.std.proofs.lemmas.List.Sums.{sum_by-cons}
use Rattle.cell_units.specs.declared.place.Bias.{Bias}
use Rattle.cell_units.specs.declared.place.Bias.TheVariants.{Left, Right}
use Rattle.plain_rows.specs.Rows.{Row}
use Rattle.block_map.specs.Between.{Between, block_row}
use Rattle.block_map.specs.Stops.{Stop, all_stop_rows, rows_upto, stands_before, texts_at}
use Rattle.block_map.specs.inside.Zones.{zone, zone_start}
use Rattle.block_map.proofs.FoundTexts.{texts-cons}
use Rattle.block_map.proofs.StopPlaces.{upto-cons, upto-skip, upto-take}
use Rattle.block_map.proofs.ZonesOfLines.{range-append}

-- ---- rows of stops before a place

length-cond : (c : Bool) (xs : List (List ℕ)) → length (cond c xs []) ≡ cond c (length xs) 0
length-cond true xs = refl
length-cond false xs = refl

count-cons : (t : ℕ) (s : Stop) (ss : List Stop) → length (texts_at t (s ∷ ss)) ≡ cond (eqb s.row t) (length s.lines) 0 + length (texts_at t ss)
count-cons t s ss = ap length (texts-cons t s ss) ∙ length-append (cond (eqb s.row t) s.lines []) (texts_at t ss) ∙ ap (λ n. n + length (texts_at t ss)) (length-cond (eqb s.row t) s.lines)

left_test : (a t h : ℕ) → cond (ltb a (t + 1)) h 0 ≡ cond (ltb a t) h 0 + cond (eqb a t) h 0
left_test a t h = grind (arith, nat_tests)

right_test : (a t h : ℕ) → cond (leb a t) h 0 ≡ cond (ltb a t) h 0 + cond (eqb a t) h 0
right_test a t h = grind (arith, nat_tests)

at_most : (c : Bool) (h : ℕ) → cond c h 0 ≤ h
at_most true h = omega arith
at_most false h = omega arith

-- those at the place are the next
pub upto-next : (t : ℕ) (stops : List Stop) → rows_upto Left (t + 1) stops ≡ rows_upto Left t stops + length (texts_at t stops)
upto-next t [] = refl
upto-next t (s ∷ ss) = omega (arith, upto-cons Left (t + 1) s ss, upto-cons Left t s ss, count-cons t s ss, left_test s.row t (length s.lines), upto-next t ss)

pub upto-through : (t : ℕ) (stops : List Stop) → rows_upto Right t stops ≡ rows_upto Left t stops + length (texts_at t stops)
upto-through t [] = refl
upto-through t (s ∷ ss) = omega (arith, upto-cons Right t s ss, upto-cons Left t s ss, count-cons t s ss, right_test s.row t (length s.lines), upto-through t ss)

pub upto-before_next : (t : ℕ) (stops : List Stop) → rows_upto Left (t + 1) stops ≡ rows_upto Right t stops
upto-before_next t stops = omega (arith, upto-next t stops, upto-through t stops)

pub upto-right_next : (t : ℕ) (stops : List Stop) → rows_upto Right (t + 1) stops ≡ rows_upto Right t stops + length (texts_at (t + 1) stops)
upto-right_next t stops = omega (arith, upto-through (t + 1) stops, upto-through t stops, upto-next t stops)

pub upto-start : (stops : List Stop) → rows_upto Left 0 stops ≡ 0
upto-start [] = refl
upto-start (s ∷ ss) = upto-skip Left 0 s ss (le-ltb s.row 0 (omega arith)) ∙ upto-start ss

pub upto-le : (bias : Bias) (t : ℕ) (stops : List Stop) → rows_upto bias t stops ≤ all_stop_rows stops
upto-le bias t [] = omega arith
upto-le bias t (s ∷ ss) = omega (arith, upto-cons bias t s ss, sum_by-cons (λ (s : Stop). length s.lines) s ss, at_most (stands_before bias t s) (length s.lines), upto-le bias t ss)

pub upto-all : (bias : Bias) (t : ℕ) (stops : List Stop) → ((k : ℕ) (d : Stop) → k < length stops → stands_before bias t (get_or stops k d) ≡ true) → rows_upto bias t stops ≡ all_stop_rows stops
upto-all bias t [] each = refl
upto-all bias t (s ∷ ss) each =
    upto-take bias t s ss (each 0 s (omega arith))
    ∙ ap (λ n. length s.lines + n) (upto-all bias t ss (λ k d lt. each (suc k) d (omega (arith, lt))))
    ∙ sym (sum_by-cons (λ (s : Stop). length s.lines) s ss)

-- ---- zones

module _ (b : Between) where
  pub length-zone : (t : ℕ) → length (zone b t) ≡ length (texts_at t b.above) + 1 + length (texts_at (t + 1) b.below)
  length-zone t =
      length-append (map block_row (texts_at t b.above)) _
      ∙ omega (arith, length-map (texts_at t b.above) block_row, length-map (texts_at (t + 1) b.below) block_row)

  pub zone-next : (t : ℕ) → zone_start b (t + 1) ≡ zone_start b t + length (zone b t)
  zone-next t = omega (arith, length-zone t, upto-next t b.above, upto-right_next t b.below)

  pub zones-rise : (s t : ℕ) → s ≤ t → zone_start b s ≤ zone_start b t
  zones-rise s zero le = let e : s ≡ 0 = omega arith in omega (arith, ap (zone_start b) e)
  zones-rise s (suc t) le = elim (cases_order s (suc t)) [
    | inl e ↦ omega (arith, ap (zone_start b) e)
    | inr (inl lt) ↦ omega (arith, zones-rise s t (omega arith), zone-next t, ap (zone_start b) (add-one t))
    | inr (inr gt) ↦ absurd (omega arith)
  ]

  -- all zones before one
  pub zone-sizes : texts_at 0 b.below ≡ [] → (t : ℕ) → length (flat_map (zone b) (range_with_len 0 t)) ≡ zone_start b t
  zone-sizes none zero = omega (arith, upto-start b.above, upto-through 0 b.below, upto-start b.below, ap length none)
  zone-sizes none (suc t) =
      let one : range_with_len 0 (suc t) ≡ range_with_len 0 t ++ t ∷ [] = ap (range_with_len 0) (sym (add-one t)) ∙ range-append 0 t 1 ∙ ap (λ (k : ℕ). range_with_len 0 t ++ k ∷ []) (omega arith) in
      ap (λ (l : List ℕ). length (flat_map (zone b) l)) one
      ∙ ap length (flat_map-append (zone b) (range_with_len 0 t) (t ∷ []))
      ∙ length-append (flat_map (zone b) (range_with_len 0 t)) (zone b t ++ [])
      ∙ ap (λ (n : ℕ). n + length (zone b t ++ [])) (zone-sizes none t)
      ∙ ap (λ (l : List Row). zone_start b t + length l) (append-nil (zone b t))
      ∙ sym (zone-next t)
      ∙ ap (zone_start b) (add-one t)
