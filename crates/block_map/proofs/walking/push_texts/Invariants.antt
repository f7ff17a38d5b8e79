use Rattle.std.proofs.Common.{◌≡◌, ◌+◌, ◌++◌, length}
use Rattle.plain_rows.specs.ShownRows.{shown_rows}
use Rattle.block_map.specs.inside.Zones.{texts_of_kinds}
use Rattle.block_map.proofs.walking.push_texts.Given as goal

abbrev pub invariant-loop-text : goal.invariant-loop-text
invariant-loop-text l = record {
  next : (goal.iterator-loop-text).can_next l.text-iterator;
  finite : (goal.iterator-loop-text).is_finite l.text-iterator;
  row : l.row ≡ l.fn.first + length l.yielded;
  rows : shown_rows l.shown.items ≡ shown_rows l.fn.shown.items ++ texts_of_kinds l.fn.first l.yielded;
}
