use Rattle.std.proofs.Common.{length, ap, arith}
use Rattle.plain_rows.specs.inside.PartPieces.{ends_from}
use Rattle.plain_rows.proofs.Positions.{lines-counted}
use Rattle.plain_rows.proofs.ShownSizes.{ends-size}
use Rattle.plain_rows.proofs.folded_lines.FoldedLines.lines.Goals as goal

pub overflow_cast-result : goal.overflow_cast-result
overflow_cast-result c =
    omega (arith, ap length c.self.invariant.ends_are, ends-size 0 c.self.inside.parts.items, c.self.invariant.size, c.len.ensures)

pub returns : goal.returns
returns c =
    λ source are. omega (arith, ap length c.self.invariant.ends_are, lines-counted source c.args.self.now are, ap (λ l. length (ends_from 0 l.parts)) c.self.view_is, c.len.ensures)
