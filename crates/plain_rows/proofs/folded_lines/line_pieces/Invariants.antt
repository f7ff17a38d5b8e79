use Rattle.std.proofs.Common.{◌≡◌, map, take}
use Rattle.plain_rows.specs.FoldedLines.{seen}
use Rattle.plain_rows.specs.inside.PartPieces.{piece_in}
use Rattle.plain_rows.proofs.folded_lines.line_pieces.Given as goal

abbrev pub invariant-loop-part : goal.invariant-loop-part
invariant-loop-part l = l.pieces.items ≡ map (piece_in (seen l.source)) (take l.part-index l.parts)
