-- The positions of a text.
use Rattle.std.proofs.Common.{◌≡◌, ℕ, ◌+◌, ◌<◌, ◌≤◌, ◌==◌, ◌&&◌, not, nat_lt, slice_index, true, List, [], ◌∷◌, length, map, filter, flat_map, ◌∙◌, subst, inl, inr, zero-add, arith}
use Rattle.std.specs.List.{Contains, range_with_len}
use Rattle.std.proofs.lemmas.Bool.{and_parts, eqb-true, ltb-true, or_cases}
use Rattle.std.proofs.lemmas.List.FromFn.{get_or-range_with_len, length-range_with_len}
use Rattle.cell_units.specs.declared.place.Bias.{Bias}
use Rattle.cell_units.specs.declared.place.Bias.TheVariants.{Left, Right}
use Rattle.cell_units.specs.Text.{goes_on, is_boundary}
use Rattle.plain_rows.specs.Spots.{positions}
use Rattle.plain_rows.proofs.Lists.{contains-cases, contains-filtered, contains-first, contains-later, contains-none, contains-unfiltered}

-- what a map gives comes from one of the list
pub contains-unmapped : {X Y : Type 0} (f : X → Y) (xs : List X) (y : Y) → Contains (map f xs) y → (x : X) × Contains xs x × (f x ≡ y)
contains-unmapped f [] y m = absurd (contains-none y m)
contains-unmapped f (x ∷ xs) y m = elim (contains-cases (f x) (map f xs) y m) [
  | inl same ↦ (x, contains-first x xs, same)
  | inr later ↦ let r = contains-unmapped f xs y later in (r.0, contains-later x xs r.0 r.1, r.2)
]

abbrev two : ℕ → List (ℕ × Bias)
two o = (o, Left) ∷ (o, Right) ∷ []

two-contained : (os : List ℕ) (o : ℕ) (bias : Bias) → Contains os o → Contains (flat_map two os) (o, bias)
two-contained [] o bias m = absurd (contains-none o m)
two-contained (p ∷ ps) o bias m = elim (contains-cases p ps o m) [
  | inl same ↦ subst (λ (q : ℕ). Contains (flat_map two (p ∷ ps)) (q, bias)) same (here bias)
  | inr later ↦ contains-later (p, Left) ((p, Right) ∷ flat_map two ps) (o, bias) (contains-later (p, Right) (flat_map two ps) (o, bias) (two-contained ps o bias later))
] where
  here : (bias : Bias) → Contains (flat_map two (p ∷ ps)) (p, bias)
  here Left = contains-first (p, Left) ((p, Right) ∷ flat_map two ps)
  here Right = contains-later (p, Left) ((p, Right) ∷ flat_map two ps) (p, Right) (contains-first (p, Right) (flat_map two ps))

two-of : (os : List ℕ) (x : ℕ × Bias) → Contains (flat_map two os) x → Contains os x.0
two-of [] x m = absurd (contains-none x m)
two-of (p ∷ ps) x m = elim (contains-cases (p, Left) ((p, Right) ∷ flat_map two ps) x m) [
  | inl same ↦ subst (λ (y : ℕ × Bias). Contains (p ∷ ps) y.0) same (contains-first p ps)
  | inr later ↦ elim (contains-cases (p, Right) (flat_map two ps) x later) [
    | inl same ↦ subst (λ (y : ℕ × Bias). Contains (p ∷ ps) y.0) same (contains-first p ps)
    | inr rest ↦ contains-later p ps x.0 (two-of ps x rest)
  ]
]

pub boundary-within : (text : List ℕ) (o : ℕ) → is_boundary text o ≡ true → o ≤ length text
boundary-within text o h =
    let later = nat_lt o (length text) && not (goes_on (slice_index text o)) in
    elim (or_cases (o == length text) later h) [
      | inl e ↦ let at_end : o ≡ length text = eqb-true o (length text) e in omega (arith, at_end)
      | inr e ↦ let l : o < length text = ltb-true o (length text) (and_parts (nat_lt o (length text)) (not (goes_on (slice_index text o))) e).0 in omega (arith, l)
    ]

pub position-contained : (text : List ℕ) (o : ℕ) (bias : Bias) → is_boundary text o ≡ true → Contains (positions text) (o, bias)
position-contained text o bias h =
    let n = length text + 1 in
    let lt : o < n = omega (arith, boundary-within text o h) in
    two-contained (filter (is_boundary text) (range_with_len 0 n)) o bias
    (contains-filtered (is_boundary text) (range_with_len 0 n) o (o, omega (arith, lt, length-range_with_len 0 n), get_or-range_with_len 0 n o o lt ∙ zero-add o) h)

pub position-boundary : (text : List ℕ) (x : ℕ × Bias) → Contains (positions text) x → is_boundary text x.0 ≡ true
position-boundary text x m =
    (contains-unfiltered (is_boundary text) (range_with_len 0 (length text + 1)) x.0 (two-of (filter (is_boundary text) (range_with_len 0 (length text + 1))) x m)).1
