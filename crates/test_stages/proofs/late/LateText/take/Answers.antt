use Rattle.std.proofs.Common.{arith}
use Rattle.test_stages.proofs.Texts.{text-fits}
use Rattle.test_stages.proofs.late.LateText.take.Goals as goal

pub taken-requires-clause-fits : goal.taken-requires-clause-fits
taken-requires-clause-fits c κs =
    let text = c.args.self.now.text in
    text-fits text.rope text.lines text.of_text text.tab (omega (arith, c.len-bytes.ensures.value, c.len-bytes.ensures.within))
