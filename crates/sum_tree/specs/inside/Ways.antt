-- The words of clauses on a path. `items` and `sums` are what a function's bounds say of items and of their sums;
-- `measure` and `cmp` are those of a dimension.
use Rattle.std.specs.Prelude.{◌≡◌, ℕ, ◌<◌, false, List, Option, MatchOption}
use Rattle.std.specs.declared.cmp.Ordering.{Ordering}
use Rattle.sum_core.specs.declared.summary.Item.{Ghosts as Items}
use Rattle.sum_core.specs.declared.summary.Summary.{Ghosts as Sums}
use Rattle.sum_tree.specs.Cursors.{measure_to}
use Rattle.sum_tree.specs.inside.Paths.{IsAhead, IsFound, IsPath, IsPlace, is_met}
use Rattle.sum_tree.specs.declared.path.Aim.{Aim}
use Rattle.sum_tree.specs.declared.path.Ahead.{Ahead}
use Rattle.sum_tree.specs.declared.path.Found.{Found}
use Rattle.sum_tree.specs.declared.path.Path.{Path}
use Rattle.sum_tree.specs.declared.path.Place.{Place}

module _ {T S : Type 0} (items : Items T S) (sums : Sums S) where
  -- a path down a lawful tree
  abbrev pub IsWay : Path T S → Type 0
  IsWay path = IsPath sums.empty sums.joined items.summary sums.fits path

  -- a lawful node with the items of its place below it
  abbrev pub IsPlaceIn : List T → Place T S → Type 0
  IsPlaceIn held place = IsPlace sums.empty sums.joined items.summary held place

module _ {T S D : Type 0} (items : Items T S) (sums : Sums S) (measure : S → D) where
  -- the measure of the first n items
  abbrev pub measure_at : List T → ℕ → D
  measure_at held n = measure_to sums.empty sums.joined items.summary measure held n

  -- The first n items, where there are any, don't go as far as the aim.
  abbrev pub IsShortAt : (D → D → Ordering) → List T → Aim D → ℕ → Type 0
  IsShortAt cmp held aim n = 0 < n → is_met cmp aim n (measure_at held n) ≡ false

  -- The first item with which the aim is met, and none where the first n items don't go so far.
  abbrev pub FindsItem : (D → D → Ordering) → List T → Aim D → ℕ → Option (Found T D S) → Type 0
  FindsItem cmp held aim n result =
      MatchOption result (IsShortAt cmp held aim n) (λ found. IsFound sums.empty sums.joined items.summary measure cmp held aim found)

  -- The place within which the aim is met first, and none where the first n items don't go so far.
  abbrev pub FindsPlace : (D → D → Ordering) → List T → Aim D → ℕ → Option (Ahead T D S) → Type 0
  FindsPlace cmp held aim n result =
      MatchOption result (IsShortAt cmp held aim n) (λ ahead. IsAhead sums.empty sums.joined items.summary measure cmp held aim ahead)
