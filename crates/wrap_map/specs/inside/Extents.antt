-- What is summed over the stretches of a map.
use Rattle.std.specs.Prelude.{◌≡◌, ℕ, ◌+◌, ◌<◌, ◌^◌, ◌==◌, ◌&&◌, Bool, true, if◌then◌else◌, Option, Some, None, refl}
use Rattle.std.proofs.Common.{arith}
use Rattle.sum_core.specs.Sums.{SummaryLaws}
use Rattle.sum_core.specs.Measures.{CountLaws, MeasureLaws}
use Rattle.wrap_map.specs.declared.extent.Ends.{Ends}
use Rattle.wrap_map.specs.declared.extent.Extent.{Extent}

abbrev pub no_extent : Extent
no_extent = record { lines = 0; rows = 0; switches = 0; ends = None }

-- whether the mark changes between neighbours
abbrev pub switch_between : Option Ends → Option Ends → ℕ
switch_between None b = 0
switch_between (Some a) None = 0
switch_between (Some a) (Some b) = if a.last == b.first then 0 else 1

abbrev pub joined_ends : Option Ends → Option Ends → Option Ends
joined_ends None b = b
joined_ends (Some a) None = Some a
joined_ends (Some a) (Some b) = Some (record { first = a.first; last = b.last })

abbrev pub joined_extents : Extent → Extent → Extent
joined_extents a b =
    record {
      lines = a.lines + b.lines;
      rows = a.rows + b.rows;
      switches = a.switches + b.switches + switch_between a.ends b.ends;
      ends = joined_ends a.ends b.ends;
    }

-- lines with so many changes of the mark, and these ends, are all wrapped at the width. There are none, or the first
-- one is and the mark never changes
abbrev pub are_at : ℕ → ℕ → Option Ends → Bool
are_at width switches None = true
are_at width switches (Some e) = (switches == 0) && (e.first == width)

pub record ExtentFits (s : Extent) : Type 0 where
  pub lines : s.lines < 2 ^ 32
  pub rows : s.rows < 2 ^ 32
  pub switches : s.switches < 2 ^ 32

no_switch : (a : Option Ends) → switch_between a None ≡ 0
no_switch None = refl
no_switch (Some a) = refl

same_ends : (a : Option Ends) → joined_ends a None ≡ a
same_ends None = refl
same_ends (Some a) = refl

ends_assoc : (a b c : Option Ends) → joined_ends (joined_ends a b) c ≡ joined_ends a (joined_ends b c)
ends_assoc None b c = refl
ends_assoc (Some a) None c = refl
ends_assoc (Some a) (Some b) None = refl
ends_assoc (Some a) (Some b) (Some c) = refl

switches_assoc : (a b c : Option Ends) →
    switch_between a b + switch_between (joined_ends a b) c ≡ switch_between b c + switch_between a (joined_ends b c)
switches_assoc None b c = omega arith
switches_assoc (Some a) None c = refl
switches_assoc (Some a) (Some b) None = omega arith
switches_assoc (Some a) (Some b) (Some c) = omega arith

pub extent_laws : SummaryLaws no_extent joined_extents ExtentFits
extent_laws = record {
  left_identity = λ x.
      let lines : 0 + x.lines ≡ x.lines = omega arith in
      let rows : 0 + x.rows ≡ x.rows = omega arith in
      let switches : 0 + x.switches + 0 ≡ x.switches = omega arith in
      λ i. record { lines = lines i; rows = rows i; switches = switches i; ends = x.ends };
  right_identity = λ x.
      let lines : x.lines + 0 ≡ x.lines = omega arith in
      let rows : x.rows + 0 ≡ x.rows = omega arith in
      let switches : x.switches + 0 + switch_between x.ends None ≡ x.switches = omega (arith, no_switch x.ends) in
      λ i. record { lines = lines i; rows = rows i; switches = switches i; ends = same_ends x.ends i };
  assoc = λ x y z.
      let lines : x.lines + y.lines + z.lines ≡ x.lines + (y.lines + z.lines) = omega arith in
      let rows : x.rows + y.rows + z.rows ≡ x.rows + (y.rows + z.rows) = omega arith in
      let switches : x.switches + y.switches + switch_between x.ends y.ends + z.switches + switch_between (joined_ends x.ends y.ends) z.ends
      ≡ x.switches + (y.switches + z.switches + switch_between y.ends z.ends) + switch_between x.ends (joined_ends y.ends z.ends) =
      omega (arith, switches_assoc x.ends y.ends z.ends) in
      λ i. record { lines = lines i; rows = rows i; switches = switches i; ends = ends_assoc x.ends y.ends z.ends i };
  empty_fits = record { lines = omega arith; rows = omega arith; switches = omega arith };
  left_fits = λ x y f. record { lines = omega (arith, f.lines); rows = omega (arith, f.rows); switches = omega (arith, f.switches) };
  right_fits = λ x y f. record { lines = omega (arith, f.lines); rows = omega (arith, f.rows); switches = omega (arith, f.switches) };
}

pub lines_measure : MeasureLaws joined_extents ExtentFits (λ s. s.lines)
lines_measure = record { left_at_most = λ x y f. omega arith; right_at_most = λ x y f. omega arith }

pub lines_count : CountLaws no_extent joined_extents (λ s. s.lines)
lines_count = record { none = refl; adds = λ x y. refl }

pub rows_measure : MeasureLaws joined_extents ExtentFits (λ s. s.rows)
rows_measure = record { left_at_most = λ x y f. omega arith; right_at_most = λ x y f. omega arith }

pub rows_count : CountLaws no_extent joined_extents (λ s. s.rows)
rows_count = record { none = refl; adds = λ x y. refl }

pub switches_measure : MeasureLaws joined_extents ExtentFits (λ s. s.switches)
switches_measure = record { left_at_most = λ x y f. omega arith; right_at_most = λ x y f. omega arith }
