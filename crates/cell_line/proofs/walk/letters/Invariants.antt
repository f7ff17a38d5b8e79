use Rattle.cell_line.specs.inside.Simple.{StartsWithLetters}
use Rattle.cell_line.proofs.walk.letters.Given as goal

abbrev pub invariant-loop-at : goal.invariant-loop-at
invariant-loop-at l = StartsWithLetters l.bytes l.at
