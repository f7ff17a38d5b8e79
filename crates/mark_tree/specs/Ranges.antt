-- Lists of ranges, and what a replacement makes of them.
use Rattle.std.specs.Prelude.{◌≡◌, ℕ, ◌==◌, ◌&&◌, ◌≤◌, ◌<◌, ◌^◌, not, nat_le, nat_lt, Bool, List, length, map, filter, count_by, All}
use Rattle.cell_units.specs.declared.place.Bias.TheVariants.{Left, Right}
use Rattle.cell_units.specs.declared.place.Shift.{Shift}
use Rattle.cell_units.specs.Anchor.{move}
use Rattle.cell_units.specs.Record.{in_order}
use Rattle.cell_units.specs.Sorting.{sort_by}
use Rattle.mark_tree.specs.declared.mark.RangeMark.{RangeMark}

-- by start, then end, then id
abbrev pub range_le : RangeMark → RangeMark → Bool
range_le r q = in_order r.start q.start (in_order r.end q.end (nat_le r.id q.id))

abbrev pub has_range_id : ℕ → RangeMark → Bool
has_range_id id r = r.id == id

abbrev pub lacks_range_id : ℕ → RangeMark → Bool
lacks_range_id id r = not (has_range_id id r)

-- the range after the replacement: its start is anchored Right and its end Left
abbrev pub move_range : Shift → RangeMark → RangeMark
move_range s r = record { start = move r.start Right s.start s.end s.count; end = move r.end Left s.start s.end s.count; id = r.id }

-- the replacement leaves something of the range
abbrev pub is_kept : Shift → RangeMark → Bool
is_kept s r = nat_lt (move_range s r).start (move_range s r).end

-- the ranges after the replacement without the empty ones, sorted again
abbrev pub moved_ranges : Shift → List RangeMark → List RangeMark
moved_ranges s ranges = sort_by range_le (map (move_range s) (filter (is_kept s) ranges))

-- the ids of the ranges that the replacement empties, in the order of the list
abbrev pub dropped_ids : Shift → List RangeMark → List ℕ
dropped_ids s ranges = map (λ r. r.id) (filter (λ r. not (is_kept s r)) ranges)

-- the range has a byte in common with those from `start` to `end`, if there are any
abbrev pub has_in_common : ℕ → ℕ → RangeMark → Bool
has_in_common start end r = nat_lt r.start end && nat_lt start r.end

-- the replacement meets the range: an end of it or a byte of it is among the replaced bytes or at their ends
abbrev pub is_range_met : Shift → RangeMark → Bool
is_range_met s r = nat_le r.start s.end && nat_le s.start r.end

-- What each tree of ranges is seen as: a sorted list of ranges, none empty, in which no id is there twice.
pub record IsRangeList (ranges : List RangeMark) : Type 0 where
  pub sorted : sort_by range_le ranges ≡ ranges
  pub distinct : (id : ℕ) → count_by (has_range_id id) ranges ≤ 1
  pub bounds : All (λ r. (r.start < r.end) × (r.end < 2 ^ 32)) ranges
  pub small : length ranges < 2 ^ 32
