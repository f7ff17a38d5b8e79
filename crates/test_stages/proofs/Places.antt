-- The places of the lines of a run: where it was taken, and after lines were replaced.
use Rattle.std.proofs.Common.{◌≡◌, ℕ, zero, suc, ◌+◌, ◌-◌, ◌<◌, ◌≤◌, ltb, cond, List, [], ◌∷◌, ◌++◌, length, length-drop, map, take, drop, drop-cons, get_or, Option, Some, None, refl, sym, ap, subst, ◌∙◌, inl, inr, arith}
use Rattle.std.specs.Prelude.{All, slice_range}
use Rattle.std.proofs.lemmas.Bool.{cases_lt, le-ltb, lt-ltb}
use Rattle.std.proofs.lemmas.List.{get_or-drop, get_or-take}
use Rattle.std.proofs.lemmas.List.Elements.{All-cons, All-head, All-nil, All-tail}
use Rattle.cell_line.specs.declared.element.Element.{Element}
use Rattle.cell_units.specs.declared.place.Shift.{Shift}
use Rattle.edit_patch.specs.Leads.{LeadsAt}
use Rattle.kept_sheet.specs.Kept.{AreLinesAt, IsRising, standing}
use Rattle.test_stages.specs.Places.{carried, places_from}

-- ---- a run that was just taken

pub places-more : (first n : ℕ) → places_from first (n + 1) ≡ places_from first n ++ Some (first + n) ∷ []
places-more first zero = ap (λ (k : ℕ). Some k ∷ []) (omega arith)
places-more first (suc n) =
    let more : suc n + 1 ≡ suc (n + 1) = omega arith in
    let last : first + 1 + n ≡ first + suc n = omega arith in
    ap (places_from first) more
    ∙ ap (λ (l : List (Option ℕ)). Some first ∷ l) (places-more (first + 1) n)
    ∙ ap (λ (k : ℕ). Some first ∷ (places_from (first + 1) n ++ Some k ∷ [])) last

-- its places rise
pub run-rises : (from first count : ℕ) → from ≤ first → IsRising from (standing (places_from first count))
run-rises from first zero le = tt
run-rises from first (suc n) le = (le, run-rises (first + 1) (first + 1) n (omega arith))

-- and at each is its line
lines-at : (lines : List (List Element)) (first count : ℕ) → first + count ≤ length lines → AreLinesAt lines (places_from first count) (take count (drop first lines))
lines-at lines first zero within = tt
lines-at lines first (suc n) within =
    let here : first < length lines = omega (arith, within) in
    let on : suc first ≡ first + 1 = omega arith in
    let split : drop first lines ≡ get_or lines first [] ∷ drop (first + 1) lines =
    drop-cons lines first [] here ∙ ap (λ (k : ℕ). get_or lines first [] ∷ drop k lines) on in
    subst (λ (ls : List (List Element)). AreLinesAt lines (places_from first (suc n)) (take (suc n) ls)) (sym split)
    (here, refl, lines-at lines (first + 1) n (omega (arith, within)))

pub run-lines : (lines : List (List Element)) (first count : ℕ) → first + count ≤ length lines
    → AreLinesAt lines (places_from first count) (slice_range lines first (first + count))
run-lines lines first count within =
    let count-is : count ≡ first + count - first = omega arith in
    subst (λ (n : ℕ). AreLinesAt lines (places_from first count) (take n (drop first lines))) count-is (lines-at lines first count within)

-- ---- one place of several

pub one-there : (n : ℕ) (places : List (Option ℕ)) (i : ℕ) → i < length places → All (λ line. line < n) (standing places)
    → All (λ line. line < n) (standing (get_or places i None ∷ []))
one-there n [] i lt all = absurd (omega (arith, lt))
one-there n (None ∷ places) zero lt all = All-nil (λ line. line < n)
one-there n (None ∷ places) (suc i) lt all = one-there n places i (omega (arith, lt)) all
one-there n (Some line ∷ places) zero lt all =
    All-cons (λ line. line < n) line [] (All-head (λ line. line < n) line (standing places) all) (All-nil (λ line. line < n))
one-there n (Some line ∷ places) (suc i) lt all = one-there n places i (omega (arith, lt)) (All-tail (λ line. line < n) line (standing places) all)

-- ---- after lines were replaced

module _ (s : Shift) where
  put : (low : ℕ) (places : List (Option ℕ)) (p q : Option ℕ) → p ≡ q → IsRising low (standing (q ∷ places)) → IsRising low (standing (p ∷ places))
  put low places p q is r = subst (λ (o : Option ℕ). IsRising low (standing (o ∷ places))) (sym is) r

  stays : (line : ℕ) → line < s.start → carried s (Some line) ≡ Some line
  stays line lt = λ i. cond (lt-ltb line s.start lt i) (Some line) (cond (ltb line s.end) None (Some (line - s.end + (s.start + s.count))))

  goes : (line : ℕ) → s.start ≤ line → line < s.end → carried s (Some line) ≡ None
  goes line ge lt = λ i. cond (le-ltb line s.start ge i) (Some line) (cond (lt-ltb line s.end lt i) None (Some (line - s.end + (s.start + s.count))))

  moves : (line : ℕ) → s.end ≤ line → carried s (Some line) ≡ Some (line - s.end + (s.start + s.count))
  moves line ge =
      λ i. cond (le-ltb line s.start (omega (arith, ge, s.ordered)) i) (Some line) (cond (le-ltb line s.end ge i) None (Some (line - s.end + (s.start + s.count))))

  -- of places that all lie after the first replaced line
  behind : (from low : ℕ) (places : List (Option ℕ)) → s.start ≤ from → low ≤ s.start + s.count + (from - s.end) → IsRising from (standing places)
      → IsRising low (standing (map (carried s) places))
  behind from low [] ge le r = tt
  behind from low (None ∷ places) ge le r = behind from low places ge le r
  behind from low (Some line ∷ places) ge le r = elim (cases_lt line s.end) [
    | inl lt ↦
        put low (map (carried s) places) (carried s (Some line)) None (goes line (omega (arith, ge, r.0)) lt)
        (behind (line + 1) low places (omega (arith, ge, r.0)) (omega (arith, le, lt, r.0)) r.1)
    | inr past ↦
        put low (map (carried s) places) (carried s (Some line)) (Some (line - s.end + (s.start + s.count))) (moves line past)
        (omega (arith, le, past, r.0), behind (line + 1) (line - s.end + (s.start + s.count) + 1) places (omega (arith, ge, r.0)) (omega (arith, past)) r.1)
  ]

  -- of any
  pub carried-rises : (from : ℕ) (places : List (Option ℕ)) → from ≤ s.start → IsRising from (standing places) → IsRising from (standing (map (carried s) places))
  carried-rises from [] le r = tt
  carried-rises from (None ∷ places) le r = carried-rises from places le r
  carried-rises from (Some line ∷ places) le r = elim (cases_lt line s.start) [
    | inl lt ↦
        put from (map (carried s) places) (carried s (Some line)) (Some line) (stays line lt)
        (r.0, carried-rises (line + 1) places (omega (arith, lt)) r.1)
    | inr ge ↦ elim (cases_lt line s.end) [
      | inl lt ↦
          put from (map (carried s) places) (carried s (Some line)) None (goes line ge lt)
          (behind (line + 1) from places (omega (arith, ge)) (omega (arith, le)) r.1)
      | inr past ↦
          put from (map (carried s) places) (carried s (Some line)) (Some (line - s.end + (s.start + s.count))) (moves line past)
          (omega (arith, le, past), behind (line + 1) (line - s.end + (s.start + s.count) + 1) places (omega (arith, ge)) (omega (arith, past)) r.1)
    ]
  ]

  module _ (old new : List (List Element)) (leads : LeadsAt old new s.start s.end s.count) where
    -- the line of a place that stays, and that of one that moves
    same-before : (line : ℕ) → line < s.start → get_or old line [] ≡ get_or new line []
    same-before line lt =
        sym (get_or-take s.start old line [] lt)
        ∙ ap (λ (ls : List (List Element)). get_or ls line []) (sym leads.before)
        ∙ get_or-take s.start new line [] lt

    same-behind : (line : ℕ) → s.end ≤ line → get_or old line [] ≡ get_or new (line - s.end + (s.start + s.count)) []
    same-behind line ge =
        let from : s.end + (line - s.end) ≡ line = omega (arith, ge) in
        let to : s.start + s.count + (line - s.end) ≡ line - s.end + (s.start + s.count) = omega arith in
        ap (λ (k : ℕ). get_or old k []) (sym from)
        ∙ sym (get_or-drop s.end old (line - s.end) [])
        ∙ ap (λ (ls : List (List Element)). get_or ls (line - s.end) []) (sym leads.behind)
        ∙ get_or-drop (s.start + s.count) new (line - s.end) []
        ∙ ap (λ (k : ℕ). get_or new k []) to

    pub lengths : length new + s.end ≡ s.start + s.count + length old
    lengths =
        omega (
          arith,
          ap (λ (ls : List (List Element)). length ls) leads.behind,
          length-drop s.end old,
          length-drop (s.start + s.count) new,
          leads.within,
          leads.reaches,
        )

    -- the lines at the places are the same
    pub carried-lines : (places : List (Option ℕ)) (es : List (List Element)) → AreLinesAt old places es → AreLinesAt new (map (carried s) places) es
    carried-lines [] [] at = tt
    carried-lines [] (e ∷ es) at = absurd at
    carried-lines (None ∷ places) [] at = absurd at
    carried-lines (Some line ∷ places) [] at = absurd at
    carried-lines (None ∷ places) (e ∷ es) at = carried-lines places es at
    carried-lines (Some line ∷ places) (e ∷ es) at =
        let rest = carried-lines places es at.2 in
        let place : (p q : Option ℕ) → p ≡ q → AreLinesAt new (q ∷ map (carried s) places) (e ∷ es) → AreLinesAt new (p ∷ map (carried s) places) (e ∷ es) =
        λ p q is there. subst (λ (o : Option ℕ). AreLinesAt new (o ∷ map (carried s) places) (e ∷ es)) (sym is) there in
        elim (cases_lt line s.start) [
          | inl lt ↦
              place (carried s (Some line)) (Some line) (stays line lt)
              (omega (arith, lt, leads.reaches), at.1 ∙ same-before line lt, rest)
          | inr ge ↦ elim (cases_lt line s.end) [
            | inl lt ↦ place (carried s (Some line)) None (goes line ge lt) rest
            | inr past ↦
                place (carried s (Some line)) (Some (line - s.end + (s.start + s.count))) (moves line past)
                (omega (arith, lengths, past, at.0), at.1 ∙ same-behind line past, rest)
          ]
        ]
