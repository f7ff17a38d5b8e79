use Rattle.plain_rows.specs.FoldedLines.{seen}
use Rattle.display_sheet.proofs.HeldLines.{line-fits, line-found}
use Rattle.display_sheet.proofs.piece_line.PieceLine.new.Goals as goal

pub invariant_of-result : goal.invariant_of-result
invariant_of-result c = (
  c.requires.tab,
  line-fits c.args.tab (seen c.args.source.now) c.args.line c.in_ok-pieces.pieces.items c.in_ok-pieces.ensures c.requires.tab.1 c.requires.lines.lawful,
)

pub returns : goal.returns
returns c = line-found c.args.tab (seen c.args.source.now) c.args.line c.in_ok-pieces.pieces.items c.in_ok-pieces.ensures c.requires.within
