use Rattle.std.proofs.Common.{◌≡◌, ◌++◌}
use Rattle.plain_rows.specs.Plain.{row_pairs}
use Rattle.plain_rows.specs.Rows.{head_and_more}
use Rattle.plain_rows.proofs.BuiltRows.{kind_after}
use Rattle.plain_rows.proofs.rows.push_line.Given as goal

abbrev pub invariant-loop-text : goal.invariant-loop-text
invariant-loop-text l = record {
  rows : l.rows.items ≡ l.initial.rows.items ++ row_pairs (head_and_more l.yielded);
  kind : l.kind ≡ kind_after l.yielded;
}
