-- What a look at the start of a zone says of where the zone of a row is.
use Rattle.std.proofs.Common.{◌≡◌, ℕ, zero, suc, ◌+◌, ◌-◌, ◌/◌, ◌^◌, ◌<◌, ◌≤◌, length, max, min, sym, ap, subst, arith, add-one, inl, inr}
use Rattle.std.proofs.lemmas.Bool.{cases_lt, cases_order}
use Rattle.cell_units.specs.Rows.{all_rows}
use Rattle.block_map.specs.declared.window.Window.{Window}
use Rattle.block_map.specs.Between.{Between, rows_between}
use Rattle.block_map.specs.inside.Seekings.{IsWindow}
use Rattle.block_map.specs.inside.Zones.{IsBetween, IsInZone, zone_start}
use Rattle.block_map.proofs.RowsInZones.{all-zones, first-zone, some-zone}
use Rattle.block_map.proofs.ZoneStarts.{length-zone, upto-start, zone-next}

-- half of what is below a power of 2 is below the power before it
pub halved : (n k : ℕ) → 1 ≤ n → n < 2 ^ k → (1 ≤ k) × (n / 2 < 2 ^ (k - 1))
halved n zero some few = absurd (omega (arith, some, few))
halved n (suc k) some few =
    let before : suc k - 1 ≡ k = omega arith in
    (omega arith, subst (λ (m : ℕ). n / 2 < 2 ^ m) (sym before) (omega (arith, few)))

module _ (b : Between) where
  -- zones begin at least as far from each other as their text rows are
  pub zones-apart : (s t : ℕ) → s ≤ t → zone_start b s + (t - s) ≤ zone_start b t
  zones-apart s zero le = let e : s ≡ 0 = omega arith in omega (arith, ap (zone_start b) e)
  zones-apart s (suc t) le = elim (cases_order s (suc t)) [
    | inl e ↦ omega (arith, ap (zone_start b) e)
    | inr (inl lt) ↦ omega (arith, zones-apart s t (omega arith), zone-next b t, length-zone b t, ap (zone_start b) (add-one t))
    | inr (inr gt) ↦ absurd (omega arith)
  ]

  -- where a zone begins after the row, the row's is at most as much before it as there are rows between
  pub left-below : (row low next guess first m : ℕ) → (low + 1 < next → zone_start b next ≤ row) → row < zone_start b guess
      → first ≡ guess - min (zone_start b guess - row) guess → m ≡ max next first → low + 1 < m → zone_start b m ≤ row
  left-below row low next guess first m before past is most out = elim (cases_lt next first) [
    | inl lt ↦
        let e : m ≡ first = omega (arith, most, lt) in
        omega (arith, zones-apart first guess (omega (arith, is)), ap (zone_start b) e, is, lt, past)
    | inr ge ↦
        let e : m ≡ next = omega (arith, most, ge) in
        omega (arith, before (omega (arith, out, e)), ap (zone_start b) e)
  ]

  -- and where it begins at the row or before it, at most as much after it
  pub left-above : (row guess start behind : ℕ) → start ≡ zone_start b guess → start ≤ row → behind ≡ guess + (row - start) + 1 → row + 1 ≤ zone_start b behind
  left-above row guess start behind is le e = omega (arith, zones-apart guess behind (omega (arith, e)), is, le, e)

  -- at last one is left
  pub found-zone : (row : ℕ) (w : Window) → IsWindow b row w → w.high ≤ w.next → IsInZone b row w.low (row - w.start)
  found-zone row w is done = elim (cases_lt (w.low + 1) w.next) [
    | inl lt ↦
        let same : w.next ≡ w.high = omega (arith, is.some, done) in
        absurd (omega (arith, is.left_out lt, is.behind, is.ends, ap (zone_start b) same))
    | inr ge ↦
        let same : w.low + 1 ≡ w.high = omega (arith, is.some, done, is.order, ge) in
        record {
          there = omega (arith, is.within, same);
          start = omega (arith, is.begins, is.before);
          end = omega (arith, is.behind, is.ends, ap (zone_start b) same);
        }
  ]

-- at first every zone is open, and no stop is before it
pub whole-window : (b : Between) → IsBetween b → (row count all : ℕ) → row < length (rows_between b) → count ≡ length (all_rows b.lines) → all ≡ length (rows_between b)
    → IsWindow b row (record { low = 0; start = 0; above = 0; next = 1; high = count; end = all })
whole-window b lawful row count all lt is these = record {
  order = omega arith;
  some = omega (arith, some-zone b lawful row lt, is);
  within = omega (arith, is);
  begins = first-zone b lawful;
  above = sym (upto-start b.above);
  before = omega arith;
  behind = omega (arith, lt, these);
  ends = omega (arith, these, all-zones b lawful, ap (zone_start b) is);
  left_out = λ out. absurd (omega (arith, out));
}
