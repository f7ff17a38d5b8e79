use Rattle.std.proofs.Common.{◌≡◌, ◌++◌, map, take}
use Rattle.plain_rows.proofs.rows.push_block.Given as goal

abbrev pub invariant-loop-line : goal.invariant-loop-line
invariant-loop-line l = l.rows.items ≡ l.initial.rows.items ++ map (λ line. (98, line)) (take l.line-index l.block.lines.items)
