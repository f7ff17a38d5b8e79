-- Marks after a replacement of the text, if there was one.
use Rattle.std.proofs.Common.{◌≡◌, ℕ, ◌-◌, ◌^◌, ◌<◌, ◌==◌, ◌||◌, Bool, false, List, [], ◌∷◌, Option, Some, None, length, map, refl, ap, ◌∙◌, arith, inl, inr}
use Rattle.std.specs.List.{All, list_any}
use Rattle.std.proofs.lemmas.List.{length-map}
use Rattle.std.proofs.lemmas.List.Elements.{All-head, All-tail}
use Rattle.std.proofs.lemmas.List.Folds.{list_any_none}
use Rattle.cell_units.specs.declared.place.Shift.{Shift}
use Rattle.cell_units.specs.Anchor.{move}
use Rattle.cell_units.specs.Sorting.{sort_by}
use Rattle.mark_tree.specs.Marks.{IsMarkList, has_id, is_met, mark_le, move_mark}
use Rattle.mark_tree.proofs.Changing.{all-from_every, count-none, every-from_all}
use Rattle.mark_tree.proofs.Moved.{move-before, move-behind}
use Rattle.mark_tree.proofs.Sorting.{Every, IsSorted, Member, every-member, length-sort, sort-member, sorted-sort}
use Rattle.block_map.specs.inside.SideMoves.{IsUnmet, MayFollow, marks_after, met_count}
use Rattle.block_map.specs.inside.Sides.{BlockMark}
use Rattle.block_map.proofs.AnewPlaces.{in-order}
use Rattle.block_map.proofs.MovedMarks.{unmet-cases}
use Rattle.block_map.proofs.PairedSides.{mark-total, mark-trans}
use Rattle.block_map.proofs.SortedTests.{any-sort}

pub length-after : (shift : Option Shift) (ms : List BlockMark) → length (marks_after shift ms) ≡ length ms
length-after None ms = refl
length-after (Some s) ms = length-sort mark_le (map (move_mark s) ms) ∙ length-map ms (move_mark s)

pub order-after : (shift : Option Shift) (ms : List BlockMark) → IsMarkList ms → IsSorted mark_le (marks_after shift ms)
order-after None ms l = in-order ms l
order-after (Some s) ms l = sorted-sort mark_le mark-total mark-trans (map (move_mark s) ms)

-- the same ids are there
pub any-after : (id : ℕ) (shift : Option Shift) (ms : List BlockMark) → list_any (has_id id) (marks_after shift ms) ≡ list_any (has_id id) ms
any-after id None ms = refl
any-after id (Some s) ms = any-sort mark_le (has_id id) (map (move_mark s) ms) ∙ each ms where
  each : (ms : List BlockMark) → list_any (has_id id) (map (move_mark s) ms) ≡ list_any (has_id id) ms
  each [] = refl
  each (m ∷ ms) = ap (λ (b : Bool). (m.id == id) || b) (each ms)

-- what holds of marks in order holds of them before
pub moved-offsets : (s : Shift) (ms : List BlockMark) → All (λ m. m.offset < 2 ^ 32) (marks_after (Some s) ms) → All (λ m. m.offset < 2 ^ 32) (map (move_mark s) ms)
moved-offsets s ms all =
    let moved : List BlockMark = map (move_mark s) ms in
    let sorted = every-from_all (λ (m : BlockMark). m.offset < 2 ^ 32) (sort_by mark_le moved) all in
    all-from_every (λ (m : BlockMark). m.offset < 2 ^ 32) moved (each moved (λ m in'. every-member (λ (m : BlockMark). m.offset < 2 ^ 32) m (sort_by mark_le moved) sorted (sort-member mark_le m moved in'))) where
      each : (ns : List BlockMark) → ((m : BlockMark) → Member m ns → m.offset < 2 ^ 32) → Every (λ (m : BlockMark). m.offset < 2 ^ 32) ns
      each [] f = tt
      each (n ∷ ns) f = (f n (inl refl), each ns (λ m in'. f m (inr in')))

-- ---- where the replacement meets no mark

pub none-met : (shift : Option Shift) (ms : List BlockMark) → All (IsUnmet shift) ms → met_count shift ms ≡ 0
none-met None ms all = refl
none-met (Some s) ms all = count-none (is_met s) ms (list_any_none (is_met s) ms all)

-- by one that keeps the length they stay
pub marks-stay : (s : Shift) (ms : List BlockMark) → sort_by mark_le ms ≡ ms → s.count ≡ s.end - s.start → All (IsUnmet (Some s)) ms → marks_after (Some s) ms ≡ ms
marks-stay s ms sorted even all = ap (sort_by mark_le) (each ms all) ∙ sorted where
  one : (m : BlockMark) → is_met s m ≡ false → move_mark s m ≡ m
  one m unmet = elim (unmet-cases s.start s.end m.offset unmet) [
    | inl lt ↦ let e = move-before m.offset m.bias s.start s.end s.count lt in (λ i. record { offset = e i; bias = m.bias; id = m.id; load = m.load })
    | inr gt ↦
        let e : move m.offset m.bias s.start s.end s.count ≡ m.offset = move-behind m.offset m.bias s.start s.end s.count s.ordered gt ∙ omega (arith, even, gt, s.ordered) in
        (λ i. record { offset = e i; bias = m.bias; id = m.id; load = m.load })
  ]

  each : (ms : List BlockMark) → All (IsUnmet (Some s)) ms → map (move_mark s) ms ≡ ms
  each [] all = refl
  each (m ∷ ms) all = λ i. one m (All-head (IsUnmet (Some s)) m ms all) i ∷ each ms (All-tail (IsUnmet (Some s)) m ms all) i

-- marks that have followed every replacement
pub none-pending : (ms : List BlockMark) → All (λ m. m.offset < 2 ^ 32) ms → MayFollow None ms
none-pending ms all = record { unmet = λ k d lt. tt; fits = all }
