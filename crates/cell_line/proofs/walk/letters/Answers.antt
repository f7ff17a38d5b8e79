use Rattle.std.proofs.Common.{arith}
use Rattle.cell_line.proofs.Walks.{letters_more}
use Rattle.cell_line.proofs.walk.letters.Goals as goal

pub loop-at-init : goal.loop-at-init
loop-at-init c = λ i lt. absurd (omega (arith, lt))

pub loop-at-preserved : goal.loop-at-preserved
loop-at-preserved c =
    letters_more c.args.bytes.now c.loop-at.at c.loop-at.invariant (omega (arith, c.loop-at-test.true, c.min-end.ensures, c.saturating_sub.ensures))
    (rw c.is_letter_before.ensures at c.if-not-is_letter_before.false)
