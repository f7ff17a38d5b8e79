-- Lists of marks, and what a replacement makes of them.
use Rattle.std.specs.Prelude.{◌≡◌, ℕ, ◌==◌, ◌&&◌, ◌≤◌, ◌<◌, ◌^◌, not, nat_le, Bool, true, false, List, length, map, count_by, All}
use Rattle.cell_units.specs.declared.place.Bias.{Bias}
use Rattle.cell_units.specs.declared.place.Shift.{Shift}
use Rattle.cell_units.specs.declared.fault.Fault.{Fault}
use Rattle.cell_units.specs.declared.fault.Fault.TheVariants.{Refused, NoMemory}
use Rattle.cell_units.specs.declared.fault.Refusal.{Refusal}
use Rattle.cell_units.specs.Anchor.{move}
use Rattle.cell_units.specs.Record.{in_order, bias_rank}
use Rattle.cell_units.specs.Sorting.{sort_by}
use Rattle.mark_tree.specs.declared.mark.Mark.{Mark}

-- the refusal where its cause is there, and else out of memory
abbrev pub IsRefusedFor : Refusal → Bool → Fault → Type 0
IsRefusedFor refusal cause (Refused r) = (r ≡ refusal) × (cause ≡ true)
IsRefusedFor refusal cause NoMemory = cause ≡ false

module _ {P : Type 0} where
  abbrev pub mark_with : ℕ → Bias → ℕ → P → Mark P
  mark_with offset bias id load = record { offset = offset; bias = bias; id = id; load = load }

  -- by offset, then bias with Left first, then id
  abbrev pub mark_le : Mark P → Mark P → Bool
  mark_le m n = in_order m.offset n.offset (in_order (bias_rank m.bias) (bias_rank n.bias) (nat_le m.id n.id))

  -- the mark doesn't come before one of this offset, bias and id
  abbrev pub is_not_before : ℕ → Bias → ℕ → Mark P → Bool
  is_not_before offset bias id m = in_order offset m.offset (in_order (bias_rank bias) (bias_rank m.bias) (nat_le id m.id))

  abbrev pub has_id : ℕ → Mark P → Bool
  has_id id m = m.id == id

  abbrev pub lacks_id : ℕ → Mark P → Bool
  lacks_id id m = not (has_id id m)

  -- the mark after the replacement
  abbrev pub move_mark : Shift → Mark P → Mark P
  move_mark s m = record { offset = move m.offset m.bias s.start s.end s.count; bias = m.bias; id = m.id; load = m.load }

  -- the marks after the replacement, sorted again
  abbrev pub moved_marks : Shift → List (Mark P) → List (Mark P)
  moved_marks s marks = sort_by mark_le (map (move_mark s) marks)

  -- the replacement meets the mark: it is at an end of the replaced bytes or between them
  abbrev pub is_met : Shift → Mark P → Bool
  is_met s m = nat_le s.start m.offset && nat_le m.offset s.end

  -- What each tree of marks is seen as: a sorted list, in which no id is there twice, of offsets that are u32.
  pub record IsMarkList (marks : List (Mark P)) : Type 0 where
    pub sorted : sort_by mark_le marks ≡ marks
    pub distinct : (id : ℕ) → count_by (has_id id) marks ≤ 1
    pub offsets : All (λ m. m.offset < 2 ^ 32) marks
    pub small : length marks < 2 ^ 32
