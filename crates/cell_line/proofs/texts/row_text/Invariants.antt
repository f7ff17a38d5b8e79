use Rattle.std.proofs.Common.{◌≡◌, ◌++◌, ◌-◌, drop, take}
use Rattle.std.specs.String.{string_bytes}
use Rattle.cell_line.specs.RowTexts.{shown_elements}
use Rattle.cell_line.specs.inside.Marks.{left_of}
use Rattle.cell_line.proofs.texts.row_text.Given as goal

abbrev pub invariant-loop : goal.invariant-loop
invariant-loop l = record {
  text : string_bytes l.text ++ shown_elements (take (l.most - l.counter) (left_of l.walk))
      ≡ string_bytes l.initial.text ++ shown_elements (take l.most (left_of l.initial.walk));
  left : drop (l.most - l.counter) (left_of l.walk) ≡ drop l.most (left_of l.initial.walk);
}
