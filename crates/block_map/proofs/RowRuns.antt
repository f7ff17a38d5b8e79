-- Rows that follow each other: text rows with no block between them, and rows of blocks.
use Rattle.std.proofs.Common.{◌≡◌, ℕ, zero, suc, ◌+◌, ◌<◌, ◌≤◌, List, [], ◌∷◌, Result, Ok, Err, Some, length, map, take, drop, get_or, refl, sym, ap, subst, ◌∙◌, arith}
use Rattle.std.specs.List.{slice_get}
use Rattle.std.specs.Result.{OnErr}
use Rattle.std.proofs.lemmas.Option.{slice_get-get_or, slice_get_within}
use Rattle.cell_units.specs.Rows.{all_rows}
use Rattle.plain_rows.specs.Rows.{Row}
use Rattle.block_map.specs.Between.{Between, block_row, rows_between}
use Rattle.block_map.specs.Stops.{texts_at}
use Rattle.block_map.specs.inside.Zones.{IsBetween, IsClear, IsInZone, zone_start}
use Rattle.block_map.proofs.RowsInZones.{above-part, all-zones, below-part, zone-at}
use Rattle.block_map.proofs.Windows.{window-cons}
use Rattle.block_map.proofs.ZoneStarts.{length-zone, zone-next, zones-rise}

pub on-err : {T E : Type 0} (r : Result T E) (P : Type 0) → P → OnErr r P
on-err (Ok x) P p = tt
on-err (Err e) P p = p

-- texts of which each is a row of blocks among others, one after the other
blocks-window : (rows : List Row) (base : ℕ) (texts : List (List ℕ)) → ((j : ℕ) (text : List ℕ) → slice_get texts j ≡ Some text → slice_get rows (base + j) ≡ Some (block_row text))
    → (j n : ℕ) → j + n ≤ length texts → map block_row (take n (drop j texts)) ≡ take n (drop (base + j) rows)
blocks-window rows base texts each j zero le = refl
blocks-window rows base texts each j (suc n) le =
    let text = get_or texts j [] in
    let here : slice_get texts j ≡ Some text = slice_get-get_or texts j [] (omega arith) in
    let next : base + (j + 1) ≡ base + j + 1 = omega arith in
    ap (map block_row) (window-cons texts j n text here)
    ∙ ap (λ (l : List Row). block_row text ∷ l) (blocks-window rows base texts each (j + 1) n (omega arith) ∙ ap (λ (k : ℕ). take n (drop k rows)) next)
    ∙ sym (window-cons rows (base + j) n (block_row text) (each j text here))

module _ (b : Between) (is : IsBetween b) (row t at : ℕ) (z : IsInZone b row t at) where
  -- rows of blocks above a line
  pub above-window : (n : ℕ) → at + n ≤ length (texts_at t b.above) → map block_row (take n (drop at (texts_at t b.above))) ≡ take n (drop row (rows_between b))
  above-window n le =
      blocks-window (rows_between b) (zone_start b t) (texts_at t b.above) (λ j text e. each j text e) at n le
      ∙ ap (λ (k : ℕ). take n (drop k (rows_between b))) z.start where
        each : (j : ℕ) (text : List ℕ) → slice_get (texts_at t b.above) j ≡ Some text → slice_get (rows_between b) (zone_start b t + j) ≡ Some (block_row text)
        each j text e = zone-at b is t j z.there (omega (arith, length-zone b t, slice_get_within (texts_at t b.above) j text e)) ∙ above-part b t j text e

  -- rows of blocks below a line
  pub below-window : (j n : ℕ) → at ≡ length (texts_at t b.above) + suc j → j + n ≤ length (texts_at (t + 1) b.below)
      → map block_row (take n (drop j (texts_at (t + 1) b.below))) ≡ take n (drop row (rows_between b))
  below-window j n there le =
      let start : zone_start b t + length (texts_at t b.above) + 1 + j ≡ row = omega (arith, z.start, there) in
      blocks-window (rows_between b) (zone_start b t + length (texts_at t b.above) + 1) (texts_at (t + 1) b.below) (λ k text e. each k text e) j n le
      ∙ ap (λ (k : ℕ). take n (drop k (rows_between b))) start where
        each : (k : ℕ) (text : List ℕ) → slice_get (texts_at (t + 1) b.below) k ≡ Some text → slice_get (rows_between b) (zone_start b t + length (texts_at t b.above) + 1 + k) ≡ Some (block_row text)
        each k text e =
            let place : zone_start b t + length (texts_at t b.above) + 1 + k ≡ zone_start b t + (length (texts_at t b.above) + suc k) = omega arith in
            ap (slice_get (rows_between b)) place
            ∙ zone-at b is t (length (texts_at t b.above) + suc k) z.there (omega (arith, length-zone b t, slice_get_within (texts_at (t + 1) b.below) k text e))
            ∙ below-part b t (length (texts_at t b.above) + suc k) k text refl e

-- text rows after one, up to the next block, come right after it
pub clear-zone : (b : Between) (row t n : ℕ) → IsInZone b row t (length (texts_at t b.above)) → IsClear b t (t + n) → t + n ≤ length (all_rows b.lines)
    → (j : ℕ) → j < n → IsInZone b (row + j) (t + j) (length (texts_at (t + j) b.above))
clear-zone b row t n z clear le zero lt =
    let e : t ≡ t + 0 = omega arith in
    let f : row ≡ row + 0 = omega arith in
    subst (λ (s : ℕ). IsInZone b (row + 0) s (length (texts_at s b.above))) e (subst (λ (r : ℕ). IsInZone b r t (length (texts_at t b.above))) f z)
clear-zone b row t n z clear le (suc j) lt =
    let before = clear-zone b row t n z clear le j (omega arith) in
    let e : t + j + 1 ≡ t + suc j = omega arith in
    let none = clear (t + suc j) (omega arith) (omega (arith, lt)) in
    let none_below : length (texts_at (t + j + 1) b.below) ≡ 0 = ap (λ (s : ℕ). length (texts_at s b.below)) e ∙ ap length none.1 in
    let none_above : length (texts_at (t + suc j) b.above) ≡ 0 = ap length none.0 in
    let next : zone_start b (t + suc j) ≡ row + suc j = ap (zone_start b) (sym e) ∙ omega (arith, zone-next b (t + j), length-zone b (t + j), none_below, before.start) in
    record {
      there = omega (arith, le, lt);
      start = omega (arith, next, none_above);
      end = omega (arith, next, zone-next b (t + suc j), length-zone b (t + suc j));
    }

-- they are some of all rows
pub clear-end : (b : Between) → IsBetween b → (row t n : ℕ) → IsInZone b row t (length (texts_at t b.above)) → IsClear b t (t + n) → t + n ≤ length (all_rows b.lines) → row + n ≤ length (rows_between b)
clear-end b is row t zero z clear le = omega (arith, z.end, zones-rise b (t + 1) (length (all_rows b.lines)) (omega (arith, z.there)), all-zones b is)
clear-end b is row t (suc n) z clear le =
    let last = clear-zone b row t (suc n) z clear le n (omega arith) in
    omega (arith, last.end, zones-rise b (t + n + 1) (length (all_rows b.lines)) (omega (arith, last.there)), all-zones b is)
