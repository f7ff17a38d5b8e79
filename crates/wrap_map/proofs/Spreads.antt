-- What stretches spread to.
use Rattle.std.proofs.Common.{◌≡◌, ℕ, zero, suc, ◌+◌, ◌-◌, ◌≤◌, Bool, true, false, List, [], ◌∷◌, ◌++◌, length, replicate, Option, Some, None, refl, sym, ap, subst, ◌∙◌, inl, inr, arith, length-append}
use Rattle.std.specs.Prelude.{◌⊎◌, if◌then◌else◌, All}
use Rattle.std.proofs.lemmas.Bool.{eqb-true, eq-eqb, and_parts, and_from}
use Rattle.std.proofs.lemmas.List.{length-replicate, nil_from_length}
use Rattle.std.proofs.lemmas.List.Concat.{flat_map-append}
use Rattle.std.proofs.lemmas.List.Elements.{All-head, All-tail}
use Rattle.sum_core.specs.Sums.{total}
use Rattle.wrap_map.specs.inside.Adjacent.{AllAdjacent}
use Rattle.wrap_map.specs.Stood.{Stood, are_alike, rows_in, runs_in}
use Rattle.wrap_map.specs.declared.extent.Ends.{Ends}
use Rattle.wrap_map.specs.declared.extent.Extent.{Extent}
use Rattle.wrap_map.specs.inside.Extents.{joined_extents, no_extent, switch_between}
use Rattle.wrap_map.specs.inside.Stretches.{AreUnlike, IsStretch, Stretched, extent_of, spread}

-- the sum of stretches
abbrev pub extents : List Stretched → Extent
extents ss = total no_extent joined_extents extent_of ss

pub spread-append : (a b : List Stretched) → spread (a ++ b) ≡ spread a ++ spread b
spread-append a b = flat_map-append (λ (s : Stretched). replicate s.lines s.stood) a b

pub lines-spread : (ss : List Stretched) → length (spread ss) ≡ (extents ss).lines
lines-spread [] = refl
lines-spread (s ∷ ss) =
    omega (arith, length-append (replicate s.lines s.stood) (spread ss), length-replicate s.lines s.stood, lines-spread ss)

-- ---- rows

pub rows-append : (a b : List Stood) → rows_in (a ++ b) ≡ rows_in a + rows_in b
rows-append [] b = omega arith
rows-append (l ∷ a) b = omega (arith, rows-append a b)

pub rows-uncut : (n : ℕ) (l : Stood) → l.cuts ≡ [] → rows_in (replicate n l) ≡ n
rows-uncut zero l e = refl
rows-uncut (suc n) l e = omega (arith, ap length e, rows-uncut n l e)

rows-one : (n : ℕ) (l : Stood) → n ≡ 1 → rows_in (replicate n l) ≡ n + length l.cuts
rows-one zero l e = absurd (omega arith)
rows-one (suc zero) l e = omega arith
rows-one (suc (suc n)) l e = absurd (omega arith)

pub rows-stretch : (s : Stretched) → IsStretch s → rows_in (replicate s.lines s.stood) ≡ s.lines + length s.stood.cuts
rows-stretch s is = elim is.one [
  | inl none ↦ omega (arith, rows-uncut s.lines s.stood none, ap length none)
  | inr one ↦ rows-one s.lines s.stood one
]

pub rows-spread : (ss : List Stretched) → All IsStretch ss → rows_in (spread ss) ≡ (extents ss).rows
rows-spread [] each = refl
rows-spread (s ∷ ss) each =
    omega (
      arith,
      rows-append (replicate s.lines s.stood) (spread ss),
      rows-stretch s (All-head IsStretch s ss each),
      rows-spread ss (All-tail IsStretch s ss each),
    )

-- each line has a row
pub lines-rows : (ls : List Stood) → length ls ≤ rows_in ls
lines-rows [] = omega arith
lines-rows (l ∷ ls) = omega (arith, lines-rows ls)

-- ---- how many there are

-- no more than lines
pub few-stretches : (ss : List Stretched) → All IsStretch ss → length ss ≤ length (spread ss)
few-stretches [] each = omega arith
few-stretches (s ∷ ss) each =
    let some = (All-head IsStretch s ss each).some in
    omega (
      arith,
      some,
      length-append (replicate s.lines s.stood) (spread ss),
      length-replicate s.lines s.stood,
      few-stretches ss (All-tail IsStretch s ss each),
    )

at_most_one : (b : Bool) → (if b then 0 else 1) ≤ 1
at_most_one true = omega arith
at_most_one false = omega arith

one_switch : (a b : Option Ends) → switch_between a b ≤ 1
one_switch None b = omega arith
one_switch (Some a) None = omega arith
one_switch (Some a) (Some b) = at_most_one _

-- no more changes of the mark than stretches
pub few-switches : (ss : List Stretched) → (extents ss).switches ≤ length ss
few-switches [] = omega arith
few-switches (s ∷ ss) = omega (arith, few-switches ss, one_switch (extent_of s).ends (extents ss).ends)

-- ---- runs of alike lines

pub alike-same : (a b : Stood) → are_alike a b ≡ true → a ≡ b
alike-same a b e =
    let both = and_parts _ _ e in
    let first = and_parts _ _ both.0 in
    let marks : a.mark ≡ b.mark = eqb-true a.mark b.mark first.0 in
    let none : a.cuts ≡ b.cuts =
    nil_from_length a.cuts (eqb-true (length a.cuts) 0 first.1) ∙ sym (nil_from_length b.cuts (eqb-true (length b.cuts) 0 both.1)) in
    λ i. record { mark = marks i; cuts = none i }

pub alike-uncut : (a b : Stood) → are_alike a b ≡ true → a.cuts ≡ []
alike-uncut a b e =
    let both = and_parts _ _ e in
    let first = and_parts _ _ both.0 in
    nil_from_length a.cuts (eqb-true (length a.cuts) 0 first.1)

alike-self : (l : Stood) → l.cuts ≡ [] → are_alike l l ≡ true
alike-self l e =
    let none = eq-eqb (length l.cuts) 0 (ap length e) in
    and_from _ _ (and_from _ _ (eq-eqb l.mark l.mark refl) none) none

more_alike : (n : ℕ) (l : Stood) (rest : List Stood) → are_alike l l ≡ true → runs_in (l ∷ (replicate n l ++ rest)) ≡ runs_in (l ∷ rest)
more_alike zero l rest e = refl
more_alike (suc n) l rest e =
    ap (λ (b : Bool). (if b then 0 else 1) + runs_in (l ∷ (replicate n l ++ rest))) e ∙ omega (arith, more_alike n l rest e)

runs-block : (n : ℕ) (l : Stood) (rest : List Stood) → 1 ≤ n → (l.cuts ≡ []) ⊎ (n ≡ 1) → runs_in (replicate n l ++ rest) ≡ runs_in (l ∷ rest)
runs-block zero l rest some one = absurd (omega arith)
runs-block (suc n) l rest some one = elim one [
  | inl none ↦ more_alike n l rest (alike-self l none)
  | inr is ↦
      let z : 0 ≡ n = omega arith in
      subst (λ (m : ℕ). runs_in (l ∷ (replicate m l ++ rest)) ≡ runs_in (l ∷ rest)) z refl
]

-- a stretch begins as all its lines are wrapped
begins-block : (n : ℕ) (l : Stood) (rest : List Stood) → 1 ≤ n → replicate n l ++ rest ≡ l ∷ (replicate (n - 1) l ++ rest)
begins-block zero l rest some = absurd (omega arith)
begins-block (suc n) l rest some =
    let e : n ≡ suc n - 1 = omega arith in
    ap (λ (m : ℕ). l ∷ (replicate m l ++ rest)) e

-- stretches of which no two neighbours could be one are the runs of alike lines
pub runs-spread : (ss : List Stretched) → All IsStretch ss → AllAdjacent AreUnlike ss → runs_in (spread ss) ≡ length ss
runs-spread [] each apart = refl
runs-spread (s ∷ []) each apart =
    let is = All-head IsStretch s [] each in
    runs-block s.lines s.stood [] is.some is.one
runs-spread (s ∷ t ∷ ts) each apart =
    let is = All-head IsStretch s (t ∷ ts) each in
    let rest = All-tail IsStretch s (t ∷ ts) each in
    let next = All-head IsStretch t ts rest in
    let begun = begins-block t.lines t.stood (spread ts) next.some in
    let more : runs_in (s.stood ∷ spread (t ∷ ts)) ≡ 1 + runs_in (spread (t ∷ ts)) =
    ap (λ (l : List Stood). runs_in (s.stood ∷ l)) begun
    ∙ ap (λ (b : Bool). (if b then 0 else 1) + runs_in (t.stood ∷ (replicate (t.lines - 1) t.stood ++ spread ts))) apart.0
    ∙ ap (λ (l : List Stood). 1 + runs_in l) (sym begun) in
    runs-block s.lines s.stood (spread (t ∷ ts)) is.some is.one ∙ more ∙ omega (arith, runs-spread (t ∷ ts) rest apart.1)
