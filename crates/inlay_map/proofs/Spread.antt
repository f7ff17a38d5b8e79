-- Inlays in order, and how much their splices cover together.
use Rattle.std.proofs.Common.{◌≡◌, ℕ, ◌+◌, ◌-◌, ◌*◌, ◌≤◌, ◌==◌, ◌&&◌, ◌||◌, nat_lt, nat_le, Bool, true, false, List, [], ◌∷◌, length, take, refl, arith}
use Rattle.std.proofs.lemmas.Bool.Decides.{nat_tests}
use Rattle.std.proofs.lemmas.List.{length-take}
use Rattle.std.proofs.lemmas.List.Sums.{count_by-le-length}
use Rattle.cell_units.specs.declared.limits.TheConstants.{INLAY_LIMIT, LAID_LIMIT}
use Rattle.cell_units.specs.Text.{clean, is_feed, row_of}
use Rattle.cell_units.specs.Record.{Inlay, bias_rank, in_order, inlay_le}
use Rattle.cell_units.specs.Lawful.{AreInlays, IsInlayOf}
use Rattle.cell_units.proofs.CutLists.{Every}
use Rattle.cell_units.proofs.Entries.{sorted_entries}
use Rattle.cell_units.proofs.EntryOrders.{inlay_total, inlay_trans}
use Rattle.cell_units.proofs.FoundEntries.{Every-from_All}
use Rattle.cell_units.proofs.ReplacedRows.{row_of-le}
use Rattle.cell_units.proofs.Returns.{clean-not_longer}
use Rattle.cell_units.proofs.SortedLists.{IsSorted}
use Rattle.sum_core.specs.Sums.{total}
use Rattle.splice_tree.specs.Sides.{none, both, BothFit}
use Rattle.splice_tree.specs.Splices.{piece_sum}
use Rattle.inlay_map.specs.Amounts.{AmountFits, nothing, together}
use Rattle.inlay_map.specs.Splices.{splices_from}

-- each inlay is at the offset of the one before it or later, and within the text
abbrev pub IsSpread : List ℕ → ℕ → List Inlay → Type 0
IsSpread text base [] = Unit {0}
IsSpread text base (i ∷ is) = (base ≤ i.offset) × (i.offset ≤ length text) × (length i.text ≤ INLAY_LIMIT) × IsSpread text i.offset is

lt-le : (m n : ℕ) → nat_lt m n ≡ true → m ≤ n
lt-le m n e = grind (arith, nat_tests)

eq-le : (m n : ℕ) → (m == n) ≡ true → m ≤ n
eq-le m n e = grind (arith, nat_tests)

offset-le : (i j : Inlay) → inlay_le i j ≡ true → i.offset ≤ j.offset
offset-le i j e = go (nat_lt i.offset j.offset) (i.offset == j.offset) (in_order (bias_rank i.bias) (bias_rank j.bias) (nat_le i.id j.id)) refl refl e where
  go : (c d r : Bool) → nat_lt i.offset j.offset ≡ c → (i.offset == j.offset) ≡ d → (c || (d && r)) ≡ true → i.offset ≤ j.offset
  go true d r p q t = lt-le i.offset j.offset p
  go false true r p q t = eq-le i.offset j.offset q
  go false false r p q t = absurd (cc)

spread-sorted : (text : List ℕ) (base : ℕ) (is : List Inlay) → Every (λ i. base ≤ i.offset) is → IsSorted inlay_le is → Every (IsInlayOf text) is → IsSpread text base is
spread-sorted text base [] low sorted fits = tt
spread-sorted text base (i ∷ is) low sorted fits = (low.0, fits.0.boundary.0, fits.0.short, spread-sorted text i.offset is (above is sorted.0) sorted.1 fits.1) where
  above : (js : List Inlay) → Every (λ j. inlay_le i j ≡ true) js → Every (λ j. i.offset ≤ j.offset) js
  above [] a = tt
  above (j ∷ js) a = (offset-le i j a.0, above js a.1)

pub spread : (text : List ℕ) (is : List Inlay) → AreInlays text is → IsSpread text 0 is
spread text is are = spread-sorted text 0 is (low is) (sorted_entries inlay_le inlay_total inlay_trans (λ i. i.id) is are.in_order) (Every-from_All (IsInlayOf text) is are.each) where
  low : (js : List Inlay) → Every (λ j. 0 ≤ j.offset) js
  low [] = tt
  low (j ∷ js) = (omega arith, low js)

module _ (text : List ℕ) where
  record Bounded (base : ℕ) (is : List Inlay) : Type 0 where
    lower_bytes : (total (none nothing) (both together) (piece_sum together) (splices_from text base is)).lower.bytes ≤ length text - base
    lower_feeds : (total (none nothing) (both together) (piece_sum together) (splices_from text base is)).lower.feeds ≤ row_of text (length text) - row_of text base
    upper_bytes : (total (none nothing) (both together) (piece_sum together) (splices_from text base is)).upper.bytes ≤ length text - base + INLAY_LIMIT * length is
    upper_feeds : (total (none nothing) (both together) (piece_sum together) (splices_from text base is)).upper.feeds ≤ row_of text (length text) - row_of text base + INLAY_LIMIT * length is

  bounded : (base : ℕ) (is : List Inlay) → IsSpread text base is → Bounded base is
  bounded base [] s = record { lower_bytes = omega arith; lower_feeds = omega arith; upper_bytes = omega arith; upper_feeds = omega arith }
  bounded base (i ∷ is) s =
      let rest = bounded i.offset is s.3 in
      let up = row_of-le text base i.offset s.0 in
      let end = row_of-le text i.offset (length text) s.1 in
      let shown = clean-not_longer i.text in
      let feeds = count_by-le-length is_feed (clean i.text) in
      record {
        lower_bytes = omega (arith, rest.lower_bytes, s.0, s.1);
        lower_feeds = omega (arith, rest.lower_feeds, up, end);
        upper_bytes = omega (arith, rest.upper_bytes, s.0, s.1, s.2, shown);
        upper_feeds = omega (arith, rest.upper_feeds, up, end, s.2, shown, feeds);
      }

  -- all that the splices cover is a number of 32 bits
  pub splices-fit : (is : List Inlay) → AreInlays text is → length text ≤ LAID_LIMIT → BothFit AmountFits (total (none nothing) (both together) (piece_sum together) (splices_from text 0 is))
  splices-fit is are short =
      let b = bounded 0 is (spread text is are) in
      let rows : row_of text (length text) ≤ length text = omega (arith, count_by-le-length is_feed (take (length text) text), length-take (length text) text) in
      let few = are.few in
      ((omega (arith, b.lower_bytes), omega (arith, b.lower_feeds, rows)), (omega (arith, b.upper_bytes, few), omega (arith, b.upper_feeds, rows, few)))
