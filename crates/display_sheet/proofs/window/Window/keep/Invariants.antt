use Rattle.std.proofs.Common.{◌≡◌, ◌++◌, ◌-◌, length}
use Rattle.plain_rows.specs.ShownRows.{letter_of}
use Rattle.display_sheet.specs.Windows.{kind_and_more, shown_pairs}
use Rattle.display_sheet.proofs.Windows.{after}
use Rattle.display_sheet.proofs.window.Window.keep.Given as goal

abbrev pub invariant-loop-text : goal.invariant-loop-text
invariant-loop-text l = record {
  kept : shown_pairs l.self.rows.items ≡ shown_pairs l.initial.self.rows.items ++ kind_and_more (letter_of l.initial.kind) l.yielded;
  skip : l.self.skip ≡ l.initial.self.skip;
  left : l.self.left ≡ l.initial.self.left - length l.yielded;
  kind : letter_of l.kind ≡ after (letter_of l.initial.kind) l.yielded;
}
