-- A window of a buffer in which joined folds are made anew, after a change of folds that is within it.
use Rattle.std.specs.Prelude.{ℕ, ◌≡◌, ◌+◌, ◌-◌, ◌<◌, ◌≤◌, nat_lt, true, false, List, ◌++◌, map, min, max}
use Rattle.std.specs.List.{All, Contains}
use Rattle.cell_units.specs.Operation.{moved_folds, without_fold}
use Rattle.cell_units.specs.Record.{Fold, fold_le}
use Rattle.cell_units.specs.Sorting.{insert_by}
use Rattle.cell_units.specs.Folded.{covered, inside}
use Rattle.joined_folds.specs.declared.joined_fold.JoinedFold.{JoinedFold}
use Rattle.joined_folds.specs.declared.window.Window.{Window}
use Rattle.joined_folds.specs.JoinedLists.{AreAllJoined, AreJoined, EndBy, first_start, last_end}

-- Joined folds may reach over the ends of a window. The one over its start begins at `from`, and the one over its end
-- ends at `to`. Where none does, these are the window's own ends.
pub record IsWindow (folds : List Fold) (w : Window) : Type 0 where
  pub before : w.from ≤ w.start
  pub order : w.start ≤ w.end
  pub behind : w.end ≤ w.to
  pub from_open : inside folds w.from ≡ false
  pub from_hides : w.from < w.start → covered folds w.from ≡ true
  pub from_reaches : (o : ℕ) → w.from < o → o < w.start → inside folds o ≡ true
  pub to_hides : covered folds w.end ≡ nat_lt w.end w.to
  pub to_reaches : (o : ℕ) → w.end < o → o < w.to → inside folds o ≡ true
  pub to_open : inside folds w.to ≡ false

-- ---- changes

-- Folds changed within a window alone. Before its start they hide what they hid, and so they do from its end on, which
-- went from `end` to `last`.
pub record AreAlike (old new : List Fold) (start end last : ℕ) : Type 0 where
  pub order : start ≤ end
  pub reach : start ≤ last
  pub covered_before : (k : ℕ) → k < start → covered new k ≡ covered old k
  pub inside_before : (k : ℕ) → k < start → inside new k ≡ inside old k
  pub start_open : inside old start ≡ false → inside new start ≡ false
  pub covered_behind : (d : ℕ) → covered new (last + d) ≡ covered old (end + d)
  pub inside_behind : (d : ℕ) → 0 < d → inside new (last + d) ≡ inside old (end + d)

-- an offset after the window goes with its end
abbrev pub moved_on : ℕ → ℕ → ℕ → ℕ
moved_on end last o = o - end + last

abbrev pub moved_fold : ℕ → ℕ → JoinedFold → JoinedFold
moved_fold end last j = record { start = moved_on end last j.start; end = moved_on end last j.end }

-- the window, where these joined folds met it before
abbrev pub window_of : ℕ → ℕ → ℕ → List JoinedFold → Window
window_of start end last met =
    record { from = min start (first_start start met); start = start; end = last; to = moved_on end last (max end (last_end end met)) }

-- Joined folds in three parts: those that end by the window's start, those that meet it, and those that start after its
-- end.
pub record AreParted (start end : ℕ) (before met behind : List JoinedFold) : Type 0 where
  pub front : All (λ j. j.end ≤ start) before
  pub met_ends : All (λ j. start < j.end) met
  pub met_starts : All (λ j. j.start ≤ end) met
  pub back : All (λ j. end < j.start) behind

-- A change within a window leaves the joined folds that don't meet it. With others in the place of those that do, they
-- are again all joined folds.
abbrev pub OthersStay : Type 0
OthersStay = (old new : List Fold) (start end last n : ℕ) (front met back : List JoinedFold)
    → AreAlike old new start end last → AreAllJoined old n (front ++ (met ++ back)) → end ≤ n → EndBy new (moved_on end last n)
    → AreParted start end front met back
    → let w = window_of start end last met in
    IsWindow new w × ((fresh : List JoinedFold) → AreJoined new w.from fresh w.to
    → AreAllJoined new (moved_on end last n) (front ++ (fresh ++ map (moved_fold end last) back)))

-- a fold that is added changes no more than its range
abbrev pub AddedIsAlike : Type 0
AddedIsAlike = (folds : List Fold) (f : Fold) → f.start < f.end → AreAlike folds (insert_by fold_le f folds) f.start f.end f.end

-- and so does one that is removed
abbrev pub RemovedIsAlike : Type 0
RemovedIsAlike = (folds : List Fold) (f : Fold) → Contains folds f → f.start < f.end → ((g : Fold) → Contains folds g → g.id ≡ f.id → g ≡ f)
    → AreAlike folds (without_fold f.id folds) f.start f.end f.end

-- a replacement of text changes no more than any window that has it within
abbrev pub MovedIsAlike : Type 0
MovedIsAlike = (folds : List Fold) (a b n start end : ℕ) → a ≤ b → start ≤ a → b ≤ end
    → AreAlike folds (moved_folds a b n folds) start end (moved_on b (a + n) end)
