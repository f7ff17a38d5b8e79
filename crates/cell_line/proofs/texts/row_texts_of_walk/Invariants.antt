use Rattle.std.proofs.Common.{◌≡◌, ◌<◌, ◌+◌, ◌-◌, ◌∷◌, drop, get_or, length, take}
use Rattle.cell_line.specs.RowTexts.{row_texts_of}
use Rattle.cell_line.specs.inside.Marks.{left_of}
use Rattle.cell_line.proofs.texts.row_texts_of_walk.Given as goal

abbrev pub invariant-loop-row : goal.invariant-loop-row
invariant-loop-row l = record {
  walk : l.row < length l.cuts + 1 → left_of l.walk ≡ drop (get_or (0 ∷ l.cuts) l.row 0) (left_of l.fn.walk);
  texts : l.texts.items ≡ take (l.row - l.first) (drop l.first (row_texts_of (left_of l.fn.walk) l.width));
}
