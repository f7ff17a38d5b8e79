use Rattle.std.proofs.Common.{◌≡◌, take}
use Rattle.std.specs.List.{sum_by}
use Rattle.plain_rows.specs.inside.Passed.{passed_bytes}
use Rattle.plain_rows.proofs.folded_lines.bytes_before.Given as goal

abbrev pub invariant-loop-part : goal.invariant-loop-part
invariant-loop-part l = l.bytes ≡ sum_by (passed_bytes l.offset l.bias) (take l.part-index l.parts)
