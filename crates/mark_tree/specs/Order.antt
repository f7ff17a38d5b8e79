-- The order of things at offsets, and their ids.
use Rattle.std.specs.Prelude.{◌≡◌, ℕ, ◌==◌, ◌&&◌, ◌<◌, ◌≤◌, not, nat_le, Bool, true, false, List, length, map, count_by, slice_index_or}
use Rattle.cell_units.specs.declared.place.Shift.{Shift}
use Rattle.cell_units.specs.Anchor.{move}
use Rattle.cell_units.specs.Record.{in_order, bias_rank}
use Rattle.cell_units.specs.Sorting.{sort_by}
use Rattle.mark_tree.specs.declared.entry.Placed.{Placed}
use Rattle.mark_tree.specs.declared.key.Key.{Key}

-- by offset, bias, length and id
abbrev pub key_le : Key → Key → Bool
key_le k l = in_order k.offset l.offset (in_order k.bias l.bias (in_order k.length l.length (nat_le k.id l.id)))

module _ {P : Type 0} where
  -- by offset, bias, length and id
  abbrev pub placed_le : Placed P → Placed P → Bool
  placed_le p q = in_order p.offset q.offset (in_order (bias_rank p.bias) (bias_rank q.bias) (in_order p.length q.length (nat_le p.id q.id)))

  abbrev pub key_of : Placed P → Key
  key_of p = record { offset = p.offset; bias = bias_rank p.bias; length = p.length; id = p.id }

  -- all before the place come before the key, and what is at it doesn't
  pub record IsPlaceFor (key : Key) (ps : List (Placed P)) (at : ℕ) : Type 0 where
    pub within : at ≤ length ps
    pub before : (k : ℕ) (d : Placed P) → k < at → key_le key (key_of (slice_index_or ps k d)) ≡ false
    pub from : (d : Placed P) → at < length ps → key_le key (key_of (slice_index_or ps at d)) ≡ true

  abbrev pub has_placed_id : ℕ → Placed P → Bool
  has_placed_id id p = p.id == id

  abbrev pub lacks_placed_id : ℕ → Placed P → Bool
  lacks_placed_id id p = not (has_placed_id id p)

  -- a thing of no length after the replacement
  abbrev pub move_placed : Shift → Placed P → Placed P
  move_placed s p = record { offset = move p.offset p.bias s.start s.end s.count; bias = p.bias; length = p.length; id = p.id; load = p.load }

  -- things of no length after the replacement, sorted again
  abbrev pub moved_placed : Shift → List (Placed P) → List (Placed P)
  moved_placed s ps = sort_by placed_le (map (move_placed s) ps)

  -- the replacement meets the offset
  abbrev pub meets_offset : Shift → Placed P → Bool
  meets_offset s p = nat_le s.start p.offset && nat_le p.offset s.end

  -- sorted, and no id is there twice
  pub record IsOrdered (ps : List (Placed P)) : Type 0 where
    pub sorted : sort_by placed_le ps ≡ ps
    pub distinct : (id : ℕ) → count_by (has_placed_id id) ps ≤ 1
