-- The run of inlays that a replacement of the text meets, and the splices before it and after it.
use Rattle.std.proofs.Common.{◌≡◌, ℕ, ◌+◌, ◌-◌, ◌≤◌, not, nat_le, List, length, map, take, drop, ◌∙◌, arith}
use Rattle.std.specs.List.{position_or_len}
use Rattle.std.proofs.lemmas.List.{length-map}
use Rattle.std.proofs.lemmas.List.Sums.{prefix_len-le-length}
use Rattle.cell_units.specs.declared.place.Shift.{Shift}
use Rattle.cell_units.specs.Lawful.{AreInlays}
use Rattle.cell_units.specs.Layers.{Source}
use Rattle.cell_units.specs.Operation.{move_inlay, moved_inlays}
use Rattle.cell_units.specs.Record.{Inlay, inlay_le}
use Rattle.mark_tree.proofs.Sorting as sorting
use Rattle.splice_tree.specs.Splices.{with_first_gap}
use Rattle.edit_patch.specs.Leads.{Leads, reach_of, unmoved}
use Rattle.inlay_map.specs.declared.amount.Amount.{Amount}
use Rattle.inlay_map.specs.Bounds.{met}
use Rattle.inlay_map.specs.Splices.{splices_from}
use Rattle.inlay_map.proofs.Cuts.{cut-at}
use Rattle.inlay_map.proofs.MovedSplices.{above-found, apart, below-found, moved-behind, moved-front}
use Rattle.inlay_map.proofs.Spread.{IsSpread, spread}
use Rattle.inlay_map.proofs.StepSums.{met-is}

-- the index of the first inlay at an offset or after it
abbrev pub first_from : ℕ → List Inlay → ℕ
first_from o is = position_or_len (λ i. nat_le o i.offset) is

pub record IsRun (s : Shift) (v : Source) (new : List ℕ) (from to : ℕ) (moved : List Inlay) : Type 0 where
  pub order : from ≤ to
  pub within : to ≤ length v.inlays
  pub long : length moved ≡ length v.inlays
  pub count : to - from ≡ met (reach_of s) v.inlays
  pub front : take from (splices_from v.text 0 v.inlays) ≡ take from (splices_from new 0 moved)
  pub rest : (gap : Amount) → with_first_gap gap (drop to (splices_from v.text 0 v.inlays)) ≡ with_first_gap gap (drop to (splices_from new 0 moved))

-- that from the first inlay at the start to the first one after the end
pub run-is : (s : Shift) (v : Source) (new : List ℕ) → AreInlays v.text v.inlays → Leads unmoved v.text new (reach_of s)
    → IsRun s v new (first_from s.start v.inlays) (first_from (s.end + 1) v.inlays) (moved_inlays s.start s.end s.count v.inlays)
run-is s v new are leads =
    let is = v.inlays in
    let from = first_from s.start is in
    let to = first_from (s.end + 1) is in
    let sp : IsSpread v.text 0 is = spread v.text is are in
    let sum = met-is s.start s.end v.text 0 is s.ordered sp in
    let within : to ≤ length is = prefix_len-le-length (λ (i : Inlay). not (nat_le (s.end + 1) i.offset)) is in
    let parts = apart s v.text is from to are s.ordered (omega (arith, sum)) within (below-found s.start is) (above-found s.start v.text 0 is sp) (below-found (s.end + 1) is) (above-found (s.end + 1) v.text 0 is sp) in
    record {
      order = omega (arith, sum);
      within = within;
      long = sorting.length-sort inlay_le (map (move_inlay s.start s.end s.count) is) ∙ length-map is (move_inlay s.start s.end s.count);
      count = omega (arith, sum);
      front = moved-front s v.text new is (moved_inlays s.start s.end s.count is) from leads parts.front (below-found s.start is);
      rest =
          moved-behind s v.text new is (moved_inlays s.start s.end s.count is) to leads s.ordered parts.behind (above-found (s.end + 1) v.text 0 is sp)
          (cut-at v.text 0 is to sp (omega arith)).spread;
    }
