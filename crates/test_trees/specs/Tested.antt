-- Marks and ranges of tests.
use Rattle.std.specs.Prelude.{◌≡◌, ℕ}
use Rattle.cell_units.specs.declared.place.Bias.{Bias}
use Rattle.mark_tree.specs.declared.mark.Mark.{Mark}
use Rattle.mark_tree.specs.declared.mark.RangeMark.{RangeMark}

-- a mark at this place, whatever its load
pub record HasPlace {P : Type 0} (offset : ℕ) (bias : Bias) (id : ℕ) (m : Mark P) : Type 0 where
  pub offset_is : m.offset ≡ offset
  pub bias_is : m.bias ≡ bias
  pub id_is : m.id ≡ id

-- the range of this id from `start` to `end`
abbrev pub range_of : ℕ → ℕ → ℕ → RangeMark
range_of start end id = record { start = start; end = end; id = id }
