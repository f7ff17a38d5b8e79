use Rattle.std.proofs.Common.{arith, subst, sym}
use Rattle.cell_line.specs.Lines.{FitsU32}
use Rattle.test_stages.proofs.Texts.{text-fits}
use Rattle.test_stages.proofs.text.StagedText.cuts.Goals as goal

pub wraps-requires-clause-fits : goal.wraps-requires-clause-fits
wraps-requires-clause-fits c κs =
    let text = c.args.self.now in
    subst FitsU32 (sym c.lines.ensures)
    (text-fits text.rope text.lines text.of_text text.tab (omega (arith, c.len-bytes.ensures.value, c.len-bytes.ensures.within)))
