use Rattle.std.proofs.Common.{◌≡◌, ◌++◌, ◌∷◌, [], map, take}
use Rattle.plain_rows.specs.Plain.{block_of}
use Rattle.row_pieces.specs.Listed.{lists_of}
use Rattle.row_pieces.specs.Pieces.{block_piece}
use Rattle.row_pieces.proofs.rows.push_block.Given as goal

abbrev pub invariant-loop-line : goal.invariant-loop-line
invariant-loop-line l =
    lists_of l.rows.items ≡ lists_of l.initial.rows.items ++ map (λ line. block_piece l.tab (block_of l.block) line ∷ []) (take l.line-index l.block.lines.items)
