-- From which folds the joined folds of a window are made.
use Rattle.std.specs.Prelude.{ℕ, ◌+◌, ◌<◌, ◌≤◌, ◌&&◌, nat_le, nat_lt, if◌then◌else◌, List, [], ◌∷◌, ◌++◌, length, filter, map, count_by}
use Rattle.std.specs.List.{All, AllPairs, Contains}
use Rattle.cell_units.specs.Record.{Fold}
use Rattle.mark_tree.specs.Ranges.{IsRangeList, has_in_common}
use Rattle.mark_tree.specs.declared.mark.RangeMark.{RangeMark}
use Rattle.joined_folds.specs.declared.joined_fold.JoinedFold.{JoinedFold}
use Rattle.joined_folds.specs.declared.window.Window.{Window}
use Rattle.joined_folds.specs.JoinedLists.{AreJoined}
use Rattle.joined_folds.specs.Windows.{IsWindow}

-- the fold of a range, and the range of a fold
abbrev pub fold_of : RangeMark → Fold
fold_of r = record { start = r.start; end = r.end; id = r.id }

abbrev pub range_of : Fold → RangeMark
range_of f = record { start = f.start; end = f.end; id = f.id }

-- the range is a fold that meets the window or starts at its end
pub record IsMet (folds : List Fold) (w : Window) (r : RangeMark) : Type 0 where
  pub fold : Contains folds (fold_of r)
  pub some : r.start < r.end
  pub from : r.start ≤ w.end
  pub to : w.start < r.end

-- these are all of them, in the order of their starts
pub record AreMet (folds : List Fold) (w : Window) (met : List RangeMark) : Type 0 where
  pub each : All (IsMet folds w) met
  pub all : (f : Fold) → Contains folds f → f.start ≤ w.end → w.start < f.end → Contains met (range_of f)
  pub in_order : AllPairs (λ r q. r.start ≤ q.start) met

-- the ranges of a tree that meet a window or start at its end are these folds
abbrev pub MeetingAreMet : Type 0
MeetingAreMet = (ranges : List RangeMark) (w : Window) → IsRangeList ranges
    → AreMet (map fold_of ranges) w (filter (has_in_common w.start (w.end + 1)) ranges)

-- the list with one more, unless that is empty
abbrev pub with_one : List JoinedFold → JoinedFold → List JoinedFold
with_one joined one = if nat_lt one.start one.end then joined ++ one ∷ [] else joined

-- how many folds meet the window from one offset to another, or start at its end
abbrev pub count_met : ℕ → ℕ → List Fold → ℕ
count_met start end folds = count_by (λ f. nat_le f.start end && nat_lt start f.end) folds

-- a window has no more joined folds than folds that meet it or start at its end. Only the one that reaches over its
-- start may come on top
abbrev pub FewInWindow : Type 0
FewInWindow = (folds : List Fold) (w : Window) (js : List JoinedFold) → All (λ f. f.start < f.end) folds → IsWindow folds w
    → AreJoined folds w.from js w.to → length js ≤ count_met w.start w.end folds + 1
