-- How many folds there are, how many a change meets, and how many splices.
use Rattle.std.proofs.Common.{◌≡◌, ℕ, ◌+◌, ◌-◌, ◌<◌, ◌≤◌, ◌^◌, ◌==◌, ◌&&◌, not, nat_le, nat_lt, Bool, cond, List, [], ◌∷◌, filter, length, map, count_by, min, Option, None, Some, option_map, refl, sym, ap, ◌∙◌, subst, arith}
use Rattle.std.specs.List.{All}
use Rattle.std.proofs.lemmas.Bool.Decides.{nat_tests}
use Rattle.std.proofs.lemmas.List.{length-map}
use Rattle.std.proofs.lemmas.List.Sums.{count_by-le-length, length-filter}
use Rattle.cell_units.specs.declared.place.Shift.{Shift}
use Rattle.cell_units.specs.Layers.{Source}
use Rattle.cell_units.specs.Operation.{move_fold, without_fold}
use Rattle.cell_units.specs.Record.{Fold, fold_le}
use Rattle.cell_units.specs.Sorting.{insert_by}
use Rattle.cell_units.proofs.SortedLists.{count-cons}
use Rattle.joined_folds.specs.Sweeps.{count_met, fold_of}
use Rattle.joined_folds.proofs.Fewer.{few-joined}
use Rattle.mark_tree.specs.declared.mark.RangeMark.{RangeMark}
use Rattle.mark_tree.specs.Bounds.{meeting, shrinking}
use Rattle.mark_tree.specs.Ranges.{IsRangeList, has_in_common, is_range_met}
use Rattle.mark_tree.proofs.Sorting.{length-insert, length-sort}
use Rattle.edit_patch.specs.Leads.{Reach, reach_of}
use Rattle.sum_core.specs.declared.load.NoLoad.{NoLoad}
use Rattle.splice_tree.specs.Splices.{Piece}
use Rattle.sum_tree.specs.Bounds.{TakesAtMost}
use Rattle.fold_map.specs.declared.amount.Amount.{Amount}
use Rattle.fold_map.specs.Bounds.{touched}
use Rattle.fold_map.specs.Snapshots.{IsSnapshot, with_folds}
use Rattle.fold_map.specs.Splices.{AreSplices}
use Rattle.fold_map.specs.Synced.{folds_after}
use Rattle.fold_map.proofs.ChangedFolds.{met-by}
use Rattle.fold_map.proofs.Cuts.{length-splices}

-- ---- of the tree and of the list

-- the ranges that a test passes are the folds that the same test passes
count-folds : (p : RangeMark → Bool) (q : Fold → Bool) → ((r : RangeMark) → p r ≡ q (fold_of r)) → (rs : List RangeMark) → count_by p rs ≡ count_by q (map fold_of rs)
count-folds p q same [] = refl
count-folds p q same (r ∷ rs) =
    omega (arith, count-cons p r rs, count-cons q (fold_of r) (map fold_of rs), ap {B = ℕ} (λ (b : Bool). cond b 1 0) (same r), count-folds p q same rs)

same-end : (s e : ℕ) → nat_lt s (e + 1) ≡ nat_le s e
same-end s e = grind (arith, nat_tests)

-- the ranges that a window asks for
pub met-ranges : (rs : List RangeMark) (start e past : ℕ) → All (λ r. (r.start < r.end) × (r.end < 2 ^ 32)) rs → past ≡ min (e + 1) (2 ^ 32 - 1)
    → count_by (has_in_common start past) rs ≡ count_met start e (map fold_of rs)
met-ranges rs start e past bounds is =
    sym (length-filter (has_in_common start past) rs)
    ∙ ap (λ (l : List RangeMark). length l) (met-by rs start e past bounds is)
    ∙ length-filter (has_in_common start (e + 1)) rs
    ∙ count-folds (has_in_common start (e + 1)) (λ f. nat_le f.start e && nat_lt start f.end) (λ r i. same-end r.start e i && nat_lt start r.end) rs

-- the steps in which they are found
pub found-steps : (rs : List RangeMark) (start e past old new : ℕ) → IsRangeList rs → past ≡ min (e + 1) (2 ^ 32 - 1) → TakesAtMost (meeting (count_by (has_in_common start past) rs)) (length rs) old new
    → TakesAtMost (meeting (count_met start e (map fold_of rs))) (length (map fold_of rs)) old new
found-steps rs start e past old new is p steps h lt =
    subst (λ (k : ℕ). new ≤ old + meeting k h) (met-ranges rs start e past is.bounds p) (steps h (omega (arith, lt, length-map rs fold_of)))

-- the ranges that a replacement meets
pub touched-ranges : (s : Shift) (rs : List RangeMark) → count_by (is_range_met s) rs ≡ touched (Some (reach_of s)) (map fold_of rs)
touched-ranges s rs = count-folds (is_range_met s) (λ f. nat_le f.start s.end && nat_le s.start f.end) (λ r. refl) rs

-- the steps in which they are moved
pub moved-steps : (s : Shift) (rs : List RangeMark) (shift : Option Shift) (folds : List Fold) (old new : ℕ) → shift ≡ Some s → map fold_of rs ≡ folds
    → TakesAtMost (shrinking (count_by (is_range_met s) rs)) (length rs) old new → TakesAtMost (shrinking (touched (option_map reach_of shift) folds)) (length folds) old new
moved-steps s rs shift folds old new is are steps h lt =
    let same = touched-ranges s rs ∙ (λ i. touched (option_map reach_of (sym is i)) (are i)) in
    subst (λ (k : ℕ). new ≤ old + shrinking k h) same (steps h (omega (arith, lt, length-map rs fold_of, ap (λ (l : List Fold). length l) are)))

-- ---- after a change

pub one-more : (f : Fold) (folds : List Fold) → length (insert_by fold_le f folds) ≡ length folds + 1
one-more f folds = length-insert fold_le f folds

pub fewer-left : (id : ℕ) (folds : List Fold) → length (without_fold id folds) ≤ length folds
fewer-left id folds = omega (arith, length-filter (λ f. not (f.id == id)) folds, count_by-le-length (λ f. not (f.id == id)) folds)

-- none comes in where text is replaced
pub fewer-moved : (shift : Option Reach) (folds : List Fold) → length (folds_after shift folds) ≤ length folds
fewer-moved None folds = omega arith
fewer-moved (Some s) folds =
    let moved = map (move_fold s.start s.end s.count) folds in
    let kept = filter (λ f. nat_lt f.start f.end) moved in
    omega (
      arith,
      length-sort fold_le kept,
      length-filter (λ f. nat_lt f.start f.end) moved,
      count_by-le-length (λ f. nat_lt f.start f.end) moved,
      length-map folds (move_fold s.start s.end s.count),
    )

-- ---- splices

pub fewer-splices : (s : Source) (splices : List (Piece Amount NoLoad)) → AreSplices s splices → length splices ≤ length s.folds
fewer-splices s splices are =
    let size = ap (λ (l : List (Piece Amount NoLoad)). length l) are.spliced ∙ length-splices (record s { folds = [] }) 0 are.joined in
    omega (arith, size, few-joined s.folds (length s.text) are.joined are.all)

-- those of a snapshot
pub snapshot-splices : (low : Source) (folds : List Fold) (splices : List (Piece Amount NoLoad)) (s : Source) → IsSnapshot low folds splices → with_folds low folds ≡ s → length splices ≤ length s.folds
snapshot-splices low folds splices s is view = subst (λ (v : Source). length splices ≤ length v.folds) view (fewer-splices (with_folds low folds) splices is.spliced)
