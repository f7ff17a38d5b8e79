-- What things at offsets are seen as, where they are ranges.
use Rattle.std.specs.Prelude.{◌≡◌, ℕ, ◌-◌, ◌<◌, ◌≤◌, ◌^◌, List, [], ◌∷◌, map, filter, not, nat_lt, Bool, if◌then◌else◌, take, drop, length}
use Rattle.std.specs.List.{All}
use Rattle.cell_units.specs.declared.place.Bias.TheVariants.{Left, Right}
use Rattle.cell_units.specs.declared.place.Shift.{Shift}
use Rattle.cell_units.specs.Anchor.{move}
use Rattle.cell_units.specs.Sorting.{sort_by}
use Rattle.mark_tree.specs.declared.entry.Placed.{Placed}
use Rattle.mark_tree.specs.declared.mark.RangeMark.{RangeMark}
use Rattle.mark_tree.specs.Entries.{end_at, run, spliced}
use Rattle.mark_tree.specs.Order.{IsOrdered, placed_le}
use Rattle.mark_tree.specs.Ranges.{is_range_met}

module _ {P : Type 0} where
  abbrev pub range_of : Placed P → RangeMark
  range_of p = record { start = p.offset; end = end_at p; id = p.id }

  -- a range is anchored Right at its start, and not empty
  pub record IsRange (p : Placed P) : Type 0 where
    pub right : p.bias ≡ Right
    pub some : 0 < p.length

  -- what a tree of ranges keeps
  pub record AreRanges (ps : List (Placed P)) : Type 0 where
    pub each : All IsRange ps
    pub ordered : IsOrdered ps

  -- where the start and the end of a range go
  abbrev pub moved_start : Shift → Placed P → ℕ
  moved_start s p = move p.offset Right s.start s.end s.count

  abbrev pub moved_end : Shift → Placed P → ℕ
  moved_end s p = move (end_at p) Left s.start s.end s.count

  abbrev pub is_left_over : Shift → Placed P → Bool
  is_left_over s p = nat_lt (moved_start s p) (moved_end s p)

  abbrev pub move_extent : Shift → Placed P → Placed P
  move_extent s p = record { offset = moved_start s p; bias = p.bias; length = moved_end s p - moved_start s p; id = p.id; load = p.load }

  -- the range after the replacement, if it leaves something of it
  abbrev pub left_over : Shift → Placed P → List (Placed P)
  left_over s p = if is_left_over s p then (move_extent s p ∷ []) else []

  -- the id of a range that the replacement empties
  abbrev pub emptied_id : Shift → Placed P → List ℕ
  emptied_id s p = if is_left_over s p then [] else (p.id ∷ [])

  abbrev pub all_left_over : Shift → List (Placed P) → List (Placed P)
  all_left_over s ps = map (move_extent s) (filter (is_left_over s) ps)

  -- what the replacement leaves of ranges, sorted again
  abbrev pub moved_extents : Shift → List (Placed P) → List (Placed P)
  moved_extents s ps = sort_by placed_le (all_left_over s ps)

  -- the same of those from place `from` to place `to` alone, and all after them shifted
  abbrev pub with_run_moved : ℕ → ℕ → Shift → Shift → List (Placed P) → List (Placed P)
  with_run_moved from to s behind ps = spliced from to (moved_extents s (run from to ps)) behind ps

  abbrev pub emptied_ids : Shift → List (Placed P) → List ℕ
  emptied_ids s ps = map (λ p. p.id) (filter (λ p. not (is_left_over s p)) ps)

  -- both ends of the range fit after the replacement
  abbrev pub IsFittingMoved : Shift → Placed P → Type 0
  IsFittingMoved s p = (moved_start s p < 2 ^ 32) × (moved_end s p < 2 ^ 32)

  -- the replacement meets the range
  abbrev pub meets_extent : Shift → Placed P → Bool
  meets_extent s p = is_range_met s (range_of p)

  -- Ranges that fit after the replacement, of which those before place `first` start before it, and no others.
  pub record AreSplit (s : Shift) (first : ℕ) (ps : List (Placed P)) : Type 0 where
    pub ranges : AreRanges ps
    pub within : first ≤ length ps
    pub before : All (λ p. p.offset < s.start) (take first ps)
    pub from : All (λ p. s.start ≤ p.offset) (drop first ps)
    pub fits : All (IsFittingMoved s) ps

  -- Those from place `from` to place `to` start at one offset, and all after them later.
  pub record IsGroup (from to : ℕ) (ps : List (Placed P)) : Type 0 where
    pub some : from < to
    pub within : to ≤ length ps
    pub start : ℕ
    pub level : All (λ p. p.offset ≡ start) (run from to ps)
    pub behind : All (λ p. start < p.offset) (drop to ps)
